-- O11: two blocks have at most 32,768 faults. A fault needs a field, and a field takes its octets: its name, a colon and its value. So an outer block has
-- at most 18,204 faults and a payload 14,563, and one is that of the mail.
--     bit, bits, kinds_count              how many kinds a field has
--     own_few, gossip_few                 how many those of the two names have
--     weight, block_weight                how many octets the fields of a block take
--     share, field_few, from_few          how many faults a field and several have, by their weight
--     block_few                           the faults of a block
--     few_faults                          those of a mail
-- Assumes nothing.
use Prim.Native.Nat.{ℕ, suc, ◌+◌, ◌*◌, ◌-◌, ◌≤◌, zero-le}
use mathlib.Core.Path.{◌≡◌, refl, sym, ap, ◌∙◌}
use mathlib.Core.Bool.{Bool, true, false, not, cond, ◌||◌}
use mathlib.Core.List.{List, [], ◌∷◌, ◌++◌}
use Rattle.std.specs.Prelude.{Option, Some, None}
use native.Mathlib.Omega.{arith}
use lib.ListN.{length, take, drop, length-append, length-take}
use Rattle.octets.specs.Octets.{lowered, same_name}
use Rattle.octets.specs.Finding.{holds}
use Rattle.octets.specs.Options.{or_else, total}
use Rattle.octets.proofs.Tests.{by_test}
use Rattle.octets.proofs.Letters.{length_lowered}
use Rattle.octets.proofs.Comparing.{same_true}
use Rattle.octets.proofs.Options.{by_option, Takes, takes_front}
use Rattle.names.specs.Names as names
use Rattle.pieces.specs.Pieces.{pieces}
use Rattle.header.specs.Header.{FieldText, limit, readable}
use Rattle.header.specs.Answers.{fields_from, field_at}
use Rattle.header.proofs.Unfolding.{unfolded_short}
use Rattle.header.proofs.Stepping.{Places}
use Rattle.header.proofs.Fields.{fields_fit, clear_fits}
use Rattle.header.proofs.Values.{by_fields}
use Rattle.fields.specs.Fields.{fields_in, is_kind}
use Rattle.fields.specs.declared.Kind.TheVariants.{Autocrypt, AutocryptGossip}
use Rattle.slots.specs.Slot.{key_limit}
use Rattle.keyfield.specs.Field.{valid_for}
use Rattle.asked.specs.Asked.{is_empty, is_called, values_called, saying, occurs, has_key_data}
use Rattle.asked.specs.declared.Called.{Called}
use Rattle.asked.specs.declared.Called.TheVariants.{PreferEncrypt, Unknown}
use Rattle.faults.specs.Faults.{Fault, no_flaws, has_kind, only_if, kinds_below, kinds, faults_at}
use Rattle.faults.specs.declared.Flaws.{Flaws}
use Rattle.faults.proofs.Counting.{faults_long}
use Rattle.lookover.specs.Looking.{is_outer, side_number, names_only, lists, own_flaws, gossip_flaws, is_own, flaws_of, valid_in, faults_from, valid_behind, faults_in, missing, faults_of}
use Rattle.lookover.specs.declared.Side.{Side}
use Rattle.lookover.specs.declared.Side.TheVariants.{Outer, Payload}
use Rattle.lookover.proofs.Validity.{own_valid, own_spoiled}

-- a fault that is there counts 1
abbrev pub bit : Bool → ℕ
bit true = 1
bit false = 0

bit_one : (b : Bool) → bit b ≤ 1
bit_one true = omega arith
bit_one false = omega arith

abbrev pub bits : Flaws → ℕ
bits w =
    bit w.more_valid
    + bit w.wrong_address
    + bit w.unknown_attribute
    + bit w.key_data
    + bit w.gossip_outside
    + bit w.gossip_unlisted
    + bit w.gossip_preference

kinds_next : (w : Flaws) (n : ℕ) → length (kinds_below w (suc n)) ≡ length (kinds_below w n) + bit (has_kind w n)
unfolding kinds_below only_if
kinds_next w n = length-append (kinds_below w n) (only_if (has_kind w n) n) ∙ by_test (has_kind w n) (λ e. rw e) (λ e. rw e)

pub kinds_count : {w u : Flaws} → w ≡ u → length (kinds u) ≡ bits w
unfolding kinds kinds_below has_kind
kinds_count {w} {u} e =
    rw (← e)
    (omega (
      arith,
      kinds_next w 0,
      kinds_next w 1,
      kinds_next w 2,
      kinds_next w 3,
      kinds_next w 4,
      kinds_next w 5,
      kinds_next w 6,
      kinds_next w 7,
      kinds_next w 8,
    ))

-- an empty value has one piece, and this has no name
bit_occurs : (what : Called) (v : List ℕ) → bit (occurs what v) ≤ length v
unfolding occurs saying is_empty pieces values_called is_called holds
bit_occurs what [] = zero-le
bit_occurs what (x ∷ v) = omega (arith, bit_one (occurs what (x ∷ v)))

-- an Autocrypt value: if it is valid one thing is wrong at most, and else it is not a valid one too many
pub own_few : (sender : List ℕ) (seen : Bool) (v : List ℕ) → length (kinds (own_flaws sender seen v)) ≤ 2 + bit (occurs Unknown v)
own_few sender seen v =
    by_option (valid_for key_limit sender v)
    (λ e. omega (arith, kinds_count (own_spoiled sender v e seen), bit_one (not (names_only sender v)), bit_one (not (has_key_data v))))
    (λ f e. omega (arith, kinds_count (own_valid sender v f e seen), bit_one seen))

-- a gossip value
pub gossip_few : (side : Side) (recipients : List (List ℕ)) (v : List ℕ)
    → length (kinds (gossip_flaws side recipients v)) ≤ 2 + bit (is_outer side) + bit (occurs Unknown v) + bit (occurs PreferEncrypt v)
unfolding gossip_flaws
gossip_few side recipients v =
    omega (arith, kinds_count {w = gossip_flaws side recipients v} refl, bit_one (not (has_key_data v)), bit_one (not (lists recipients v)))

-- a name that is asked for is as long as that, its case aside
name_long : (s t : List ℕ) → same_name s t ≡ true → length s ≡ length t
unfolding same_name
name_long s t e = sym (length_lowered s) ∙ ap length (same_true (lowered s) (lowered t) e) ∙ length_lowered t

-- a field takes its name, its value, and a colon at least
abbrev pub text_of : FieldText → List ℕ
text_of f = f.name ++ f.value

abbrev pub weight : List FieldText → ℕ
weight fs = total text_of fs

take_short : (n : ℕ) (s : List ℕ) → length (take n s) ≤ n
take_short n s = omega (arith, length-take n s)

weight_at : (s : List ℕ) (at n v e : ℕ) → Places s at n v e → length (text_of (field_at s at n v e)) + 1 + (length s - e) ≤ length s - at
weight_at s at n v e p =
    omega (
      arith,
      p,
      length-append (field_at s at n v e).name (field_at s at n v e).value,
      take_short (n - at) (drop at s),
      unfolded_short (take (e - v) (drop v s)),
      take_short (e - v) (drop v s),
    )

weight_else : (n : ℕ) (o : Option (List FieldText)) → Takes text_of n o → weight (or_else [] o) ≤ n
unfolding or_else total
weight_else n None h = zero-le
weight_else n (Some fs) h = h

pub block_weight : (s : List ℕ) → readable s ≡ true → weight (fields_in s) ≤ limit
unfolding fields_in total
block_weight s r =
    let fits : length s ≤ limit = clear_fits s true (sym r) refl in
    let h : weight (or_else [] (fields_from s 0)) ≤ length s - 0 =
    weight_else (length s - 0) (fields_from s 0)
    (by_fields s (λ (at : ℕ) (found : Option (List FieldText)). Takes text_of (length s - at) found) (λ at. zero-le) (λ at. tt)
    (λ at n v e found p h. takes_front text_of (length s - e) (length s - at) (field_at s at n v e) found (weight_at s at n v e p) h))
    in
    rw (fields_fit s fits) (omega arith)

-- So many times the weight of a field are at least 18 times its faults. An Autocrypt field of 11 octets may have 3, and a gossip field of 18 may have 5 in the
-- outer block and 4 in the payload; one octet less is an empty value, which has fewer faults.
abbrev pub share : Side → ℕ
share Outer = 5
share Payload = 4

share_sum : (side : Side) (n m a b : ℕ) → 18 * n ≤ share side * a → 18 * m ≤ share side * b → 18 * (n + m) ≤ share side * (a + b)
share_sum Outer n m a b h k = omega arith
share_sum Payload n m a b h k = omega arith

-- n faults of a gossip field with a value of so many octets
share_gossip : (side : Side) (n u p long : ℕ) → n ≤ 2 + bit (is_outer side) + u + p → u ≤ 1 → p ≤ 1 → u ≤ long → p ≤ long → 18 * n ≤ share side * (16 + long + 1)
share_gossip Outer n u p long h uone pone ulong plong = omega arith
share_gossip Payload n u p long h uone pone ulong plong = omega arith

no_weight : (n : ℕ) → 18 * length (kinds no_flaws) ≤ n
unfolding no_flaws
no_weight n = omega (arith, kinds_count {w = no_flaws} refl)

module _ (sender : List ℕ) (recipients : List (List ℕ)) (seen : Bool) (f : FieldText) where
  own_weight : is_kind Autocrypt f.name ≡ true → 18 * length (kinds (own_flaws sender seen f.value)) ≤ 5 * (length (text_of f) + 1)
  unfolding is_kind
  own_weight e =
      omega (
        arith,
        own_few sender seen f.value,
        bit_one (occurs Unknown f.value),
        bit_occurs Unknown f.value,
        length-append f.name f.value,
        name_long f.name names.autocrypt e,
      )

  gossip_weight : (side : Side) → is_kind AutocryptGossip f.name ≡ true
      → 18 * length (kinds (gossip_flaws side recipients f.value)) ≤ share side * (length (text_of f) + 1)
  unfolding is_kind
  gossip_weight side e =
      let v : List ℕ = f.value in
      rw (length-append f.name v, name_long f.name names.gossip e)
      (share_gossip side (length (kinds (gossip_flaws side recipients v))) (bit (occurs Unknown v)) (bit (occurs PreferEncrypt v)) (length v)
      (gossip_few side recipients v) (bit_one (occurs Unknown v)) (bit_one (occurs PreferEncrypt v)) (bit_occurs Unknown v) (bit_occurs PreferEncrypt v))

  -- in both blocks
  not_own : (side : Side)
      → 18 * length (kinds (cond (is_kind AutocryptGossip f.name) (gossip_flaws side recipients f.value) no_flaws)) ≤ share side * (length (text_of f) + 1)
  not_own side =
      by_test (is_kind AutocryptGossip f.name) (λ e. rw e (gossip_weight side e)) (λ e. rw e (no_weight (share side * (length (text_of f) + 1))))

  pub field_few : (side : Side) → 18 * length (kinds (flaws_of side sender recipients seen f)) ≤ share side * (length (text_of f) + 1)
  unfolding flaws_of is_own
  field_few Outer = by_test (is_kind Autocrypt f.name) (λ e. rw e (own_weight e)) (λ e. rw e (not_own Outer))
  field_few Payload = not_own Payload

module _ (side : Side) (sender : List ℕ) (recipients : List (List ℕ)) where
  pub from_few : (seen : Bool) (place : ℕ) (fs : List FieldText)
      → 18 * length (faults_from side sender recipients seen place fs) ≤ share side * weight fs
  unfolding faults_from total
  from_few seen place [] = zero-le
  from_few seen place (f ∷ fs) =
      let ks : List ℕ = kinds (flaws_of side sender recipients seen f) in
      let later : List Fault = faults_from side sender recipients (seen || valid_in side sender f) (place + 1) fs in
      rw (length-append (faults_at (side_number side) place ks) later, faults_long (side_number side) place ks)
      (share_sum side (length ks) (length later) (length (text_of f) + 1) (weight fs)
      (field_few sender recipients seen f side) (from_few (seen || valid_in side sender f) (place + 1) fs))

pub block_few : (side : Side) (sender : List ℕ) (recipients : List (List ℕ)) (s : List ℕ) → readable s ≡ true
    → length (faults_in side sender recipients (fields_in s)) ≤ 18204
unfolding faults_in
block_few Outer sender recipients s r = omega (arith, from_few Outer sender recipients false 1 (fields_in s), block_weight s r)
block_few Payload sender recipients s r = omega (arith, from_few Payload sender recipients false 1 (fields_in s), block_weight s r)

missing_few : (b : Bool) → length (missing b) ≤ 1
unfolding missing
missing_few true = zero-le
missing_few false = omega arith

-- O11
pub few_faults : (sender : List ℕ) (recipients : List (List ℕ)) (outer payload : List ℕ) → readable outer ≡ true → readable payload ≡ true
    → length (faults_of sender recipients (fields_in outer) (fields_in payload)) ≤ 32768
unfolding faults_of faults_in
few_faults sender recipients outer payload o p =
    let b : Bool = valid_behind Outer sender (fields_in outer) in
    let s : List Fault = faults_from Outer sender recipients false 1 (fields_in outer) in
    let t : List Fault = faults_from Payload sender recipients false 1 (fields_in payload) in
    omega (
      arith,
      length-append (missing b) (s ++ t),
      length-append s t,
      missing_few b,
      from_few Outer sender recipients false 1 (fields_in outer),
      from_few Payload sender recipients false 1 (fields_in payload),
      block_weight outer o,
      block_weight payload p,
    )
