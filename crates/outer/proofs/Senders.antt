-- The sender: by the one From field, the one address in it, and its canonical form.
--     sender_canonical, sender_octets  what a sender is: the canonical form of a plain address
--     sent-.., left-..                 the answer, and what is left in the lent memory, by the answers of the code's three calls
--     answer_some .. left_within       what a caller reads off the answer and the lent memory
-- Assumes nothing.
use Prim.Native.Nat.{ℕ, ◌≤◌}
use mathlib.Core.Path.{◌≡◌, refl, sym, ap, ◌∙◌}
use mathlib.Core.Bool.{true}
use mathlib.Core.List.{List, []}
use Rattle.std.specs.Prelude.{Option, Some, None}
use native.Mathlib.Omega.{arith}
use borrow.Author.Rules.{rules}
use lib.ListN.{length, take}
use Rattle.octets.specs.Octets.{AllOctets}
use Rattle.octets.specs.Written.{onto}
use Rattle.octets.specs.Options.{only_one, or_else}
use Rattle.address.specs.Address.{plain, canonical, is_canonical}
use Rattle.address.specs.Answers.{written_of, onto_if_fits}
use Rattle.address.proofs.Room.{written_length, written_no_room, onto_fits}
use Rattle.address.proofs.Spelling.{plain_is_canonical, canonical_most, canonical_octets}
use Rattle.header.specs.Header.{FieldText}
use Rattle.header.proofs.Unfolding.{value_within, value_there, value_long}
use Rattle.addresslist.specs.List.{addresses}
use Rattle.addresslist.specs.Answers.{between, only_in, Within}
use Rattle.addresslist.specs.declared.OnlyAddress.{OnlyAddress}
use Rattle.addresslist.proofs.Readable.{only_plain, only_octets}
use Rattle.slots.specs.Slot.{address_room}
use Rattle.fields.specs.Fields.{fields_in, values_of}
use Rattle.fields.specs.declared.Kind.TheVariants.{From}
use Rattle.fields.proofs.Values.{fields_octets, only_octets as value_octets}
use Rattle.outer.specs.Outer.{canonical_of, sender_by, sender_in}
use Rattle.outer.specs.Answers.{sender_of, left_by_sender}
use Rattle.outer.proofs.Texts.{part_there, part_within}

-- the sender's address is the canonical form of a plain address
canonical_some : (o : Option (List ℕ)) (a : List ℕ) → canonical_of o ≡ Some a → (b : List ℕ) × ((o ≡ Some b) × (a ≡ canonical b))
unfolding canonical_of
canonical_some None a e = let z : ◌≡◌ {A = ℕ} 0 1 = cc in absurd (omega arith)
canonical_some (Some b) a e = (b, (refl, cc))

by_some : (o : Option (List ℕ)) (a : List ℕ) → sender_by o ≡ Some a → (v : List ℕ) × ((o ≡ Some v) × (canonical_of (only_one (or_else [] (addresses v))) ≡ Some a))
unfolding sender_by
by_some None a e = let z : ◌≡◌ {A = ℕ} 0 1 = cc in absurd (omega arith)
by_some (Some v) a e = (v, (refl, e))

module _ (fs : List FieldText) (a : List ℕ) (e : sender_in fs ≡ Some a) where
  value : (v : List ℕ) × ((only_one (values_of From fs) ≡ Some v) × (canonical_of (only_one (or_else [] (addresses v))) ≡ Some a))
  unfolding sender_in
  value = by_some (only_one (values_of From fs)) a e

  given : (b : List ℕ) × ((only_one (or_else [] (addresses value.0)) ≡ Some b) × (a ≡ canonical b))
  given = canonical_some (only_one (or_else [] (addresses value.0))) a value.1.1

  given_plain : plain given.0 ≡ true
  given_plain = only_plain value.0 given.0 (sym given.1.0)

  pub sender_canonical : is_canonical a ≡ true
  sender_canonical = rw given.1.1 (plain_is_canonical given.0 given_plain)

-- and it is octets, where the block is
pub sender_octets : (s a : List ℕ) → AllOctets s → sender_in (fields_in s) ≡ Some a → AllOctets a
sender_octets s a o e =
    let v : List ℕ = (value (fields_in s) a e).0 in
    let b : List ℕ = (given (fields_in s) a e).0 in
    let h : AllOctets v = value_octets From (fields_in s) v (fields_octets s o) (value (fields_in s) a e).1.0 in
    rw (given (fields_in s) a e).1.1 (canonical_octets b (only_octets v b (sym (given (fields_in s) a e).1.0) h))

module _ (fs : List FieldText) where
  other : None ≡ only_one (values_of From fs) → sender_in fs ≡ None
  unfolding sender_in sender_by
  other p = sym (ap sender_by p)

  pub sent_no_field : None ≡ only_one (values_of From fs) → None ≡ sender_of (sender_in fs)
  unfolding sender_of
  sent_no_field p = rw (other p)

  pub left_no_field : (out : List ℕ) → None ≡ only_one (values_of From fs) → out ≡ left_by_sender (sender_in fs) out
  unfolding left_by_sender
  left_no_field out p = rw (other p)

  -- the value of the one From field was unfolded to the text, and the list in it was read
  module _ (v : List ℕ) (p : Some v ≡ only_one (values_of From fs)) (text d : List ℕ) (n : ℕ) (c : n ≡ length v) (t : text ≡ onto v d)
      (j : Option OnlyAddress) (y : only_in (take n text) j ≡ only_one (or_else [] (addresses (take n text)))) where
    there : take n text ≡ v
    there = value_there v d text n c t

    one : only_in v j ≡ only_one (or_else [] (addresses v))
    one = rw there at y

    told : sender_in fs ≡ canonical_of (only_in v j)
    unfolding sender_in sender_by
    told = ap sender_by (sym p) ∙ ap canonical_of (sym one)

    no_one : j ≡ None → sender_in fs ≡ None
    unfolding only_in canonical_of
    no_one z = told ∙ ap (λ (i : Option OnlyAddress). canonical_of (only_in v i)) z

    pub sent_no_one : j ≡ None → None ≡ sender_of (sender_in fs)
    unfolding sender_of
    sent_no_one z = rw (no_one z)

    pub left_no_one : (out : List ℕ) → j ≡ None → out ≡ left_by_sender (sender_in fs) out
    unfolding left_by_sender
    left_no_one out z = rw (no_one z)

    module _ (b : OnlyAddress) (z : j ≡ Some b) (w : Within (take n text) j) where
      lies : Within v (Some b)
      lies = rw (there, z) at w

      pub sent_from : b.from ≤ b.to
      sent_from = omega (arith, lies.0)

      pub sent_upto : b.to ≤ length text
      sent_upto = part_within v d text t b.from b.to sent_from lies.1

      part : between text b.from b.to ≡ between v b.from b.to
      part = part_there v d text t b.from b.to sent_from lies.1

      only : Some (between text b.from b.to) ≡ only_one (or_else [] (addresses v))
      unfolding only_in
      only = ap Some part ∙ sym (ap (only_in v) z) ∙ one

      pub sent_plain : plain (between text b.from b.to) ≡ true
      sent_plain = only_plain v (between text b.from b.to) only

      is : sender_in fs ≡ Some (canonical (between text b.from b.to))
      unfolding canonical_of
      is = told ∙ ap canonical_of (one ∙ sym only)

      fits : (room : ℕ) → address_room ≤ room → length (canonical (between text b.from b.to)) ≤ room
      fits room h = omega (arith, canonical_most (between text b.from b.to) sent_plain)

      module _ (out : List ℕ) (h : address_room ≤ length out) where
        pub left_one : (left : List ℕ) → left ≡ onto_if_fits (canonical (between text b.from b.to)) out → left ≡ left_by_sender (sender_in fs) out
        unfolding left_by_sender
        left_one left r = rw is (r ∙ onto_fits (canonical (between text b.from b.to)) out (fits (length out) h))

        module _ (g : Option ℕ) (u : g ≡ written_of (canonical (between text b.from b.to)) (length out)) where
          pub sent_one : (m : ℕ) → g ≡ Some m → Some m ≡ sender_of (sender_in fs)
          unfolding sender_of
          sent_one m r =
              rw is (ap Some (written_length (canonical (between text b.from b.to)) (length out) m (sym r ∙ u)).0)

          -- there is room
          pub sent_no_room : g ≡ None → None ≡ sender_of (sender_in fs)
          sent_no_room r =
              absurd (omega (arith, written_no_room (canonical (between text b.from b.to)) (length out) (sym r ∙ u), fits (length out) h))

pub ruleset sending =
    (sent_no_field, left_no_field, sent_no_one, left_no_one, sent_from, sent_upto, sent_plain, left_one, sent_one, sent_no_room, value_within, value_long, rules)

-- as a caller asks it of the answer r and of what the lent memory holds
pub answer_some : (o : Option (List ℕ)) (n : ℕ) → Some n ≡ sender_of o → (a : List ℕ) × ((o ≡ Some a) × (n ≡ length a))
unfolding sender_of
answer_some None n e = let z : ◌≡◌ {A = ℕ} 0 1 = cc in absurd (omega arith)
answer_some (Some a) n e = (a, (refl, cc))

pub answer_none : (o : Option (List ℕ)) → None ≡ sender_of o → o ≡ None
unfolding sender_of
answer_none None e = refl
answer_none (Some a) e = cc

module _ (o : Option (List ℕ)) (r : Option ℕ) (t : r ≡ sender_of o) where
  module _ (out d : List ℕ) (l : out ≡ left_by_sender o d) (n : ℕ) (q : r ≡ Some n) where
    address : (a : List ℕ) × ((o ≡ Some a) × (n ≡ length a))
    address = answer_some o n (sym q ∙ t)

    holds : out ≡ onto address.0 d
    unfolding left_by_sender
    holds = l ∙ ap (λ (p : Option (List ℕ)). left_by_sender p d) address.1.0

    -- the answer's octets of the lent memory are the sender
    pub left_is : o ≡ Some (take n out)
    left_is = address.1.0 ∙ ap Some (sym (value_there address.0 d out n address.1.1 holds))

    pub left_within : n ≤ length out
    left_within = value_within address.0 d out n address.1.1 holds
