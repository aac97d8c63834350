-- A valid field has no faults of kinds 3, 4 and 5 (SCOPE, O5 to O8). Reading a field (page F) ends at the first piece that spoils it, and O6 to O8 ask
-- about all pieces; here the two agree, where nothing is spoiled. (`;` is 59, `=` is 61.)
--     name_alike, piece_called, values_front    a name, a piece and its value are what the attribute says
--     after                                     what an attribute brings, by what it comes to
--     SaidAs, said_from_lem                     the pieces of a value that says something
--     field_named, field_known, field_keyed     a valid value names its address, has no unknown attribute, and has its key data
--     valid_true, valid_names, valid_false      whether a value is valid, and that it then names the sender
--     flaws_by, own_valid, own_spoiled          what is wrong with an Autocrypt value, by that
--     judged_valid, judged_spoiled              the same as the code answers it
-- Assumes nothing.
use Prim.Native.Nat.{ℕ}
use mathlib.Core.Path.{◌≡◌, refl, sym, ap, ◌∙◌}
use mathlib.Core.Bool.{Bool, true, false, not, cond, false≢true, and-true, and-false}
use mathlib.Core.List.{List, [], ◌∷◌}
use Rattle.std.specs.Prelude.{Option, Some, None}
use Rattle.std.specs.Option.{is_some as is_there}
use native.Mathlib.Omega.{arith}
use lib.Dec.{eqb}
use lib.ListN.{take}
use Rattle.octets.specs.Octets.{ascii, same_octets, starts_with}
use Rattle.octets.specs.Finding.{holds}
use Rattle.octets.specs.Options.{is_some, only_one}
use Rattle.octets.proofs.Options.{by_option}
use Rattle.octets.proofs.Tests.{by_test}
use Rattle.octets.proofs.Comparing.{same_true, same_refl}
use Rattle.names.specs.Names as names
use Rattle.pieces.specs.Pieces.{pieces, before}
use Rattle.address.specs.Address.{plain}
use Rattle.attributes.specs.Attribute.{trimmed, name_of, Attribute, addr, prefer_encrypt, keydata, ignored, spoiling, attribute, attribute_of}
use Rattle.attributes.specs.Step.{Step, on, last, spoils, with_address, with_preference, step}
use Rattle.attributes.specs.declared.Name.{Name}
use Rattle.attributes.specs.declared.Name.TheVariants as Names
use Rattle.slots.specs.Slot.{key_limit}
use Rattle.keyfield.specs.Field.{Said, mutual_by, said_with, if_last, said_from, said_of, Field, field_of, valid_for}
use Rattle.keyfield.proofs.Fields.{said_plain, key_parts, FieldOf, field_parts}
use Rattle.keyfield.proofs.Counted.{valid_is}
use Rattle.keyowner.specs.Answers.{OwnAt, OwnAs}
use Rattle.keyowner.specs.declared.OwnKey.{OwnKey}
use Rattle.asked.specs.Asked.{is_empty, is_other, is_unknown, is_name, is_called, value_of, values_called, saying, occurs, named_by, named, last_of, is_base64, has_key_data}
use Rattle.asked.specs.declared.Called.{Called}
use Rattle.asked.specs.declared.Called.TheVariants.{Addr, PreferEncrypt, Keydata, Unknown}
use Rattle.faults.specs.Faults.{no_flaws}
use Rattle.faults.specs.declared.Flaws.{Flaws}
use Rattle.lookover.specs.Looking.{is_valid, is_just, names_only, own_flaws}
use Rattle.lookover.specs.Answers.{JudgedAs}

-- An attribute is called what is asked for where these numbers are equal. One that is ignored is never asked for, and one that spoils may be one
-- without a name.
called_as : Called → ℕ
called_as Addr = 0
called_as PreferEncrypt = 1
called_as Keydata = 2
called_as Unknown = 3

said_as : Attribute → ℕ
said_as (addr v) = 0
said_as (prefer_encrypt v) = 1
said_as (keydata v) = 2
said_as spoiling = 3
said_as ignored = 4

never_ignored : (what : Called) → eqb (called_as what) 4 ≡ false
unfolding called_as
never_ignored Addr = refl
never_ignored PreferEncrypt = refl
never_ignored Keydata = refl
never_ignored Unknown = refl

-- a name is what its attribute is called, whatever the value
abbrev Alike : List ℕ → Type 0
Alike n = (what : Called) (v : List ℕ) → is_name what n ≡ eqb (called_as what) (said_as (attribute (name_of n) v))

name_addr : Alike names.addr
unfolding is_name same_octets is_unknown is_empty is_other name_of attribute called_as said_as
name_addr Addr v = refl
name_addr PreferEncrypt v = refl
name_addr Keydata v = refl
name_addr Unknown v = refl

name_prefer : Alike names.prefer_encrypt
unfolding is_name same_octets is_unknown is_empty is_other name_of attribute called_as said_as
name_prefer Addr v = refl
name_prefer PreferEncrypt v = refl
name_prefer Keydata v = refl
name_prefer Unknown v = refl

name_key : Alike names.keydata
unfolding is_name same_octets is_unknown is_empty is_other name_of attribute called_as said_as
name_key Addr v = refl
name_key PreferEncrypt v = refl
name_key Keydata v = refl
name_key Unknown v = refl

module _ (n : List ℕ) (a : same_octets n names.addr ≡ false) (p : same_octets n names.prefer_encrypt ≡ false) (k : same_octets n names.keydata ≡ false) where
  name_ignored : starts_with (ascii "_") n ≡ true → Alike n
  unfolding is_name is_unknown is_other name_of attribute called_as said_as
  name_ignored i Addr v = rw (name_of, a, p, k, i)
  name_ignored i PreferEncrypt v = rw (name_of, a, p, k, i)
  name_ignored i Keydata v = rw (name_of, a, p, k, i)
  name_ignored i Unknown v = rw (name_of, a, p, k, i) (and-false (not (is_empty n)))

  name_unknown : starts_with (ascii "_") n ≡ false → name_of n ≡ Names.Unknown
  unfolding name_of
  name_unknown i = rw (name_of, a, p, k, i)

name_alike : (n : List ℕ) → (name_of n ≡ Names.Unknown → ⊥) → Alike n
name_alike n h =
    by_test (same_octets n names.addr) (λ e. rw (same_true n names.addr e) name_addr)
    (λ a. by_test (same_octets n names.prefer_encrypt) (λ e. rw (same_true n names.prefer_encrypt e) name_prefer)
    (λ p. by_test (same_octets n names.keydata) (λ e. rw (same_true n names.keydata e) name_key)
    (λ k. by_test (starts_with (ascii "_") n) (name_ignored n a p k) (λ i. absurd (h (name_unknown n a p k i))))))

-- the values that are asked for, with an attribute in front of others
more : Called → Attribute → List (List ℕ) → List (List ℕ)
more what (addr v) vs = cond (eqb (called_as what) 0) (v ∷ vs) vs
more what (prefer_encrypt v) vs = cond (eqb (called_as what) 1) (v ∷ vs) vs
more what (keydata v) vs = cond (eqb (called_as what) 2) (v ∷ vs) vs
more what ignored vs = vs
more what spoiling vs = vs

more_by : (what : Called) (n : Name) (v : List ℕ) (vs : List (List ℕ)) → (n ≡ Names.Unknown → ⊥)
    → cond (eqb (called_as what) (said_as (attribute n v))) (v ∷ vs) vs ≡ more what (attribute n v) vs
unfolding attribute said_as more
more_by what Names.Addr v vs h = refl
more_by what Names.PreferEncrypt v vs h = refl
more_by what Names.Keydata v vs h = refl
more_by what Names.Ignored v vs h = rw (never_ignored what)
more_by what Names.Unknown v vs h = absurd (h refl)

values_on : (what : Called) (p : List ℕ) (rest : List (List ℕ))
    → values_called what (p ∷ rest) ≡ cond (is_called what p) (value_of p ∷ values_called what rest) (values_called what rest)
unfolding values_called
values_on what p rest = by_test (is_called what p) (λ e. rw (values_called, e)) (λ e. rw (values_called, e))

-- a piece that spoils nothing is called what its attribute is, and has its value
module _ (p : List ℕ) (h : attribute_of p ≡ spoiling → ⊥) where
  name : List ℕ
  name = trimmed (before 61 p)

  has_equals : holds 61 p ≡ true
  unfolding attribute_of
  has_equals = by_test (holds 61 p) (λ t. t) (λ t. absurd (h (rw (attribute_of, t))))

  attribute_is : attribute_of p ≡ attribute (name_of name) (value_of p)
  unfolding attribute_of value_of name
  attribute_is = rw (attribute_of, has_equals)

  not_unknown : name_of name ≡ Names.Unknown → ⊥
  unfolding attribute
  not_unknown e = h (attribute_is ∙ rw e)

  piece_called : (what : Called) → is_called what p ≡ eqb (called_as what) (said_as (attribute_of p))
  unfolding is_called name
  piece_called what = rw (has_equals, attribute_is) (name_alike name not_unknown what (value_of p))

  values_front : (what : Called) (rest : List (List ℕ)) → values_called what (p ∷ rest) ≡ more what (attribute_of p) (values_called what rest)
  values_front what rest =
      values_on what p rest
      ∙ rw (piece_called what, attribute_is) (more_by what (name_of name) (value_of p) (values_called what rest) not_unknown)

-- addresses, with the one in front that was seen
seen : Option (List ℕ) → List (List ℕ) → List (List ℕ)
seen None vs = vs
seen (Some a) vs = a ∷ vs

-- what a piece brings that the reading goes on behind: at most an address
record Goes (a b : Option (List ℕ)) (x : Attribute) : Type 0 where
  addressed : (vs : List (List ℕ)) → seen a (more Addr x vs) ≡ seen b vs
  known : (vs : List (List ℕ)) → more Unknown x vs ≡ vs
  keyless : (vs : List (List ℕ)) → more Keydata x vs ≡ vs

-- what is known of an attribute by what it comes to
After : Option (List ℕ) → Attribute → Step → Type 0
After a x (on b n) = Goes a b x
After a x (last v) = x ≡ keydata v
After a x spoils = Unit

after_address : (a : Option (List ℕ)) (m : Option Bool) (v : List ℕ) → After a (addr v) (with_address a m v)
unfolding with_address After seen more called_as
after_address None m v =
    by_test (plain v)
    (λ t. rw t (record { addressed = λ vs. refl; known = λ vs. refl; keyless = λ vs. refl }))
    (λ t. rw t tt)
after_address (Some c) m v = tt

after_preference : (a : Option (List ℕ)) (m : Option Bool) (v : List ℕ) → After a (prefer_encrypt v) (with_preference a m v)
unfolding with_preference After more called_as
after_preference a None v = record { addressed = λ vs. refl; known = λ vs. refl; keyless = λ vs. refl }
after_preference a (Some c) v = tt

after : (a : Option (List ℕ)) (m : Option Bool) (x : Attribute) → After a x (step a m x)
unfolding step After more
after a m (addr v) = after_address a m v
after a m (prefer_encrypt v) = after_preference a m v
after a m (keydata v) = refl
after a m ignored = record { addressed = λ vs. refl; known = λ vs. refl; keyless = λ vs. refl }
after a m spoiling = tt

-- What the pieces are that say something, behind an address that was seen before them: there is one address, nothing is unknown, and the one key data
-- is last.
record SaidAs (a : Option (List ℕ)) (ps : List (List ℕ)) (x : Said) : Type 0 where
  addressed : seen a (values_called Addr ps) ≡ x.address ∷ []
  known : values_called Unknown ps ≡ []
  keyed : values_called Keydata ps ≡ x.text ∷ []
  ends : is_called Keydata (last_of ps) ≡ true

-- a piece that is none does not end others
ends_front : (p : List ℕ) (rest : List (List ℕ)) → is_called Keydata (last_of rest) ≡ true → is_called Keydata (last_of (p ∷ rest)) ≡ true
unfolding last_of is_called holds
ends_front p [] e = absurd (false≢true e)
ends_front p (q ∷ more) e = e

-- what is said at the key data
said_with_lem : (a : Option (List ℕ)) (m : Option Bool) (v : List ℕ) (x : Said) → said_with a m v ≡ Some x → (seen a [] ≡ x.address ∷ []) × (v ≡ x.text)
unfolding said_with seen
said_with_lem None m v x e = let z : ◌≡◌ {A = ℕ} 0 1 = cc in absurd (omega arith)
said_with_lem (Some c) m v x e =
    let q : record { address = c; is_mutual = mutual_by m; text = v } ≡ x = cc in
    (ap (λ (y : Said). y.address ∷ []) q, ap (λ (y : Said). y.text) q)

module _ (a : Option (List ℕ)) (m : Option Bool) (p : List ℕ) (x : Said) where
  not_spoiling : (s : Step) → step a m (attribute_of p) ≡ s → (s ≡ spoils → ⊥) → attribute_of p ≡ spoiling → ⊥
  unfolding step
  not_spoiling s e h q = h (sym e ∙ ap (step a m) q)

  said_on : (b : Option (List ℕ)) (n : Option Bool) (rest : List (List ℕ)) → step a m (attribute_of p) ≡ on b n → SaidAs b rest x → SaidAs a (p ∷ rest) x
  unfolding After
  said_on b n rest e h =
      let g : Goes a b (attribute_of p) = rw e at (after a m (attribute_of p)) in
      let t : attribute_of p ≡ spoiling → ⊥ = not_spoiling (on b n) e (λ q. let z : ◌≡◌ {A = ℕ} 0 1 = cc in omega arith) in
      record {
        addressed = rw (values_front p t Addr rest) (g.addressed (values_called Addr rest)) ∙ h.addressed;
        known = values_front p t Unknown rest ∙ g.known (values_called Unknown rest) ∙ h.known;
        keyed = values_front p t Keydata rest ∙ g.keyless (values_called Keydata rest) ∙ h.keyed;
        ends = ends_front p rest h.ends;
      }

  said_last : (v : List ℕ) (rest : List (List ℕ)) → step a m (attribute_of p) ≡ last v → if_last rest (said_with a m v) ≡ Some x → SaidAs a (p ∷ rest) x
  unfolding After if_last last_of values_called more called_as said_as
  said_last v [] e q =
      let k : attribute_of p ≡ keydata v = rw e at (after a m (attribute_of p)) in
      let t : attribute_of p ≡ spoiling → ⊥ = not_spoiling (last v) e (λ r. let z : ◌≡◌ {A = ℕ} 0 1 = cc in omega arith) in
      let w = said_with_lem a m v x q in
      record {
        addressed = rw (values_front p t Addr [], k) w.0;
        known = values_front p t Unknown [] ∙ rw k;
        keyed = values_front p t Keydata [] ∙ rw (k, w.1);
        ends = piece_called p t Keydata ∙ rw k;
      }
  said_last v (r ∷ rest) e q = let z : ◌≡◌ {A = ℕ} 0 1 = cc in absurd (omega arith)

said_from_lem : (a : Option (List ℕ)) (m : Option Bool) (ps : List (List ℕ)) (x : Said) → said_from a m ps ≡ Some x → SaidAs a ps x
unfolding said_from
said_from_lem a m [] x e = let z : ◌≡◌ {A = ℕ} 0 1 = cc in absurd (omega arith)
said_from_lem a m (p ∷ rest) x e = go (λ b n q. said_from_lem b n rest x q) (step a m (attribute_of p)) refl
  where
    go : ((b : Option (List ℕ)) (n : Option Bool) → said_from b n rest ≡ Some x → SaidAs b rest x) → (s : Step) → step a m (attribute_of p) ≡ s → SaidAs a (p ∷ rest) x
    go ih (on b n) q = said_on a m p x b n rest q (ih b n (sym (rw (said_from, q)) ∙ e))
    go ih (last v) q = said_last a m p x v rest q (sym (rw (said_from, q)) ∙ e)
    go ih spoils q = let k : None ≡ Some x = sym (rw (said_from, q)) ∙ e in let z : ◌≡◌ {A = ℕ} 0 1 = cc in absurd (omega arith)

-- a valid value names its address, has no unknown attribute, and has its key data
module _ (limit : ℕ) (v : List ℕ) (f : Field) (e : field_of limit v ≡ Some f) where
  parts : FieldOf limit v f
  parts = field_parts limit v f e

  pieces_are : SaidAs None (pieces 59 v) parts.said
  unfolding said_of
  pieces_are = said_from_lem None None (pieces 59 v) parts.said parts.says

  pub field_named : named v ≡ Some f.address
  unfolding named named_by saying only_one seen
  field_named = rw (pieces_are.addressed, said_plain v parts.said parts.says) (ap Some (sym parts.address))

  pub field_known : occurs Unknown v ≡ false
  unfolding occurs saying is_empty
  field_known = rw pieces_are.known

  pub field_keyed : has_key_data v ≡ true
  unfolding has_key_data is_base64 saying only_one is_some
  field_keyed = rw (pieces_are.ends, pieces_are.keyed, (key_parts limit parts.said.text f.key parts.key).decoded)

-- the flaws of an Autocrypt value, kinds 2 to 5 in their order; it has none of gossip
abbrev pub flaws_by : Bool → Bool → Bool → Bool → Flaws
flaws_by m a u k =
    record {
      more_valid = m;
      wrong_address = a;
      unknown_attribute = u;
      key_data = k;
      gossip_outside = false;
      gossip_unlisted = false;
      gossip_preference = false;
    }

-- what is wrong with an Autocrypt value. `seen` says whether a valid one stands before it
module _ (sender v : List ℕ) where
  -- a valid one: nothing but that
  module _ (f : Field) (e : valid_for key_limit sender v ≡ Some f) where
    field_is : field_of key_limit v ≡ Some f
    field_is = (valid_is key_limit sender v f e).0

    pub valid_true : true ≡ is_valid sender v
    unfolding is_valid is_some
    valid_true = rw e

    pub valid_names : names_only sender v ≡ true
    unfolding names_only is_just
    valid_names = rw (field_named key_limit v f field_is, (valid_is key_limit sender v f e).1) (same_refl sender)

    pub own_valid : (seen : Bool) → flaws_by seen false false false ≡ own_flaws sender seen v
    unfolding own_flaws
    own_valid seen = rw (← valid_true, valid_names, field_known key_limit v f field_is, field_keyed key_limit v f field_is, and-true)

  -- any other: not that
  module _ (e : valid_for key_limit sender v ≡ None) where
    pub valid_false : false ≡ is_valid sender v
    unfolding is_valid is_some
    valid_false = rw e

    pub own_spoiled : (seen : Bool) → flaws_by false (not (names_only sender v)) (occurs Unknown v) (not (has_key_data v)) ≡ own_flaws sender seen v
    unfolding own_flaws
    own_spoiled seen = rw (← valid_false, and-false)

-- the same by what `keyowner::valid_for` answers, as the code has it; w has no flaws
module _ (sender v key : List ℕ) (seen : Bool) (o : Option OwnKey) (a : OwnAs key_limit sender (valid_for key_limit sender v) key o)
    (b : Bool) (i : b ≡ is_there o) (w : Flaws) (z : w ≡ no_flaws) where
  pub judged_valid :
      b ≡ true
      → JudgedAs sender seen v
      (record {
        flaws = record {
          more_valid = seen;
          wrong_address = w.wrong_address;
          unknown_attribute = w.unknown_attribute;
          key_data = w.key_data;
          gossip_outside = w.gossip_outside;
          gossip_unlisted = w.gossip_unlisted;
          gossip_preference = w.gossip_preference;
        };
        valid = true;
      })
  unfolding OwnAs no_flaws
  judged_valid t =
      by_option o
      (λ q. absurd (false≢true (sym (rw q at i) ∙ t)))
      (λ k q.
      let h : OwnAt key_limit sender (valid_for key_limit sender v) key k = rw q at a in
      let f : Field = record { address = sender; is_mutual = k.«mutual»; key = take k.length key } in
      record { flawed = rw z (own_valid sender v f h.is seen); validly = valid_true sender v f h.is })

  pub judged_spoiled :
      b ≡ false → (n u k : Bool) → n ≡ names_only sender v → u ≡ occurs Unknown v → k ≡ has_key_data v
      → JudgedAs sender seen v
      (record {
        flaws = record {
          more_valid = w.more_valid;
          wrong_address = not n;
          unknown_attribute = u;
          key_data = not k;
          gossip_outside = w.gossip_outside;
          gossip_unlisted = w.gossip_unlisted;
          gossip_preference = w.gossip_preference;
        };
        valid = false;
      })
  unfolding OwnAs no_flaws
  judged_spoiled t n u k en eu ek =
      by_option o
      (λ q.
      let h : valid_for key_limit sender v ≡ None = rw q at a in
      record { flawed = rw (z, en, eu, ek) (own_spoiled sender v h seen); validly = valid_false sender v h })
      (λ r q. absurd (false≢true (sym t ∙ rw q at i)))
