-- What a field says that is valid in form (F11), as callers ask for it.
--     said_plain, said_octets                   the address of what a value says is plain, and octets where the value is
--     KeyOf, key_parts, key_made                a key is what its text decodes to, 1 octet up to the limit
--     FieldOf, field_parts                      a field is made of what its value says and of its key
--     field_canonical                           its address is canonical
--     field_octets                              and octets where the value is
--     field_least, field_most, field_key_octets     its key has 1 octet up to the limit, which are octets
-- Assumes nothing.
use Prim.Native.Nat.{ℕ, suc, ◌<◌, ◌≤◌}
use mathlib.Core.Path.{◌≡◌, refl, sym, ap, ◌∙◌}
use mathlib.Core.Bool.{Bool, true}
use mathlib.Core.Logic.{⊎_elim}
use mathlib.Core.List.{List, [], ◌∷◌}
use Rattle.std.specs.Prelude.{Option, Some, None}
use native.Mathlib.Omega.{arith}
use borrow.Author.Tests.{leb-true, le-leb, lt-ltb, ltb-true}
use lib.Dec.{leb, ltb}
use lib.ListN.{length, get_or, get_or-eq_default}
use Rattle.octets.specs.Octets.{AllOctets, without_blanks}
use Rattle.octets.specs.Tests.{every, one_to}
use Rattle.octets.proofs.Lists.{lt_or_le}
use Rattle.octets.proofs.Tests.{by_test, and_left, and_right}
use Rattle.octets.proofs.Every.{every_at}
use Rattle.letters.specs.Base64.{decode}
use Rattle.letters.proofs.Standing.{decode_octets}
use Rattle.pieces.specs.Pieces.{pieces}
use Rattle.address.specs.Address.{plain, canonical, is_canonical}
use Rattle.address.proofs.Spelling.{plain_is_canonical, canonical_octets}
use Rattle.attributes.specs.Attribute.{Attribute, addr, prefer_encrypt, keydata, ignored, spoiling, attribute_of}
use Rattle.attributes.specs.Step.{Step, on, last, spoils, with_address, with_preference, step}
use Rattle.attributes.proofs.Elements.{every_pieces, every_named}
use Rattle.keyfield.specs.Field.{Said, said_with, if_last, said_from, said_of, limited, key_of, Field, with_key, field_by, field_of}

-- What holds of the address that is said, where it holds of each plain address that a piece of a kind names.
module _ (Q : List ℕ → Type 0) (kind : List ℕ → Bool) (named : (p v : List ℕ) → kind p ≡ true → attribute_of p ≡ addr v → plain v ≡ true → Q v) where
  Seen : Option (List ℕ) → Type 0
  Seen None = Unit
  Seen (Some a) = Q a

  After : Step → Type 0
  After (on a m) = Seen a
  After (last v) = Unit
  After spoils = Unit

  SaidSo : Option Said → Type 0
  SaidSo None = Unit
  SaidSo (Some x) = Q x.address

  with_address_lem : (address : Option (List ℕ)) (m : Option Bool) (v : List ℕ) → (plain v ≡ true → Q v) → After (with_address address m v)
  unfolding with_address After Seen
  with_address_lem None m v h = by_test (plain v) (λ e. rw e (h e)) (λ e. rw e tt)
  with_address_lem (Some a) m v h = tt

  with_preference_lem : (address : Option (List ℕ)) (m : Option Bool) (v : List ℕ) → Seen address → After (with_preference address m v)
  unfolding with_preference After
  with_preference_lem address None v h = h
  with_preference_lem address (Some b) v h = tt

  after_step : (address : Option (List ℕ)) (m : Option Bool) (a : Attribute) → ((v : List ℕ) → a ≡ addr v → plain v ≡ true → Q v) → Seen address → After (step address m a)
  unfolding step After
  after_step address m (addr v) n h = with_address_lem address m v (n v refl)
  after_step address m (prefer_encrypt v) n h = with_preference_lem address m v h
  after_step address m (keydata v) n h = tt
  after_step address m ignored n h = h
  after_step address m spoiling n h = tt

  said_with_lem : (address : Option (List ℕ)) (m : Option Bool) (v : List ℕ) → Seen address → SaidSo (said_with address m v)
  unfolding said_with Seen SaidSo
  said_with_lem None m v h = tt
  said_with_lem (Some a) m v h = h

  if_last_lem : (rest : List (List ℕ)) (x : Option Said) → SaidSo x → SaidSo (if_last rest x)
  unfolding if_last SaidSo
  if_last_lem [] x h = h
  if_last_lem (q ∷ more) x h = tt

  said_from_lem : (address : Option (List ℕ)) (m : Option Bool) (ps : List (List ℕ)) → every kind ps ≡ true → Seen address → SaidSo (said_from address m ps)
  unfolding said_from SaidSo After every
  said_from_lem address m [] t h = tt
  said_from_lem address m (p ∷ rest) t h =
      go (λ a b k. said_from_lem a b rest (and_right (kind p) (every kind rest) t) k) (step address m (attribute_of p)) refl
      (after_step address m (attribute_of p) (λ v. named p v (and_left (kind p) (every kind rest) t)) h)
    where
      go : ((a : Option (List ℕ)) (b : Option Bool) → Seen a → SaidSo (said_from a b rest)) → (x : Step) → step address m (attribute_of p) ≡ x
          → After (step address m (attribute_of p)) → SaidSo (said_from address m (p ∷ rest))
      go more (on a b) e k = rw (said_from, e) (more a b (rw e at k))
      go more (last v) e k = rw (said_from, e) (if_last_lem rest (said_with address m v) (said_with_lem address m v h))
      go more spoils e k = rw (said_from, e) tt

  said_so : (s : List ℕ) (x : Said) → every kind (pieces 59 s) ≡ true → said_of s ≡ Some x → Q x.address
  unfolding said_of SaidSo Seen
  said_so s x t e = rw e at (said_from_lem None None (pieces 59 s) t tt)

-- it is plain, whatever the pieces are
every_kind : (ps : List (List ℕ)) → every (λ p. true) ps ≡ true
unfolding every
every_kind [] = refl
every_kind (p ∷ ps) = every_kind ps

pub said_plain : (s : List ℕ) (x : Said) → said_of s ≡ Some x → plain x.address ≡ true
said_plain s x e = said_so (λ v. plain v ≡ true) (λ p. true) (λ p v t n h. h) s x (every_kind (pieces 59 s)) e

-- it is made of octets of the value
is_octet : ℕ → Bool
is_octet x = ltb x 256

all_octets : (s : List ℕ) → AllOctets s → every is_octet s ≡ true
unfolding every is_octet
all_octets [] h = refl
all_octets (x ∷ s) h = rw (lt-ltb x 256 (h 0)) (all_octets s (λ i. h (suc i)))

octets_all : (s : List ℕ) → every is_octet s ≡ true → AllOctets s
unfolding is_octet
octets_all s e i =
    ⊎_elim
    (λ (l : i < length s). ltb-true (get_or s i 0) 256 (every_at is_octet s e i l))
    (λ (l : length s ≤ i). rw (get_or-eq_default s 0 {n = i} l) (omega arith))
    (lt_or_le i (length s))

pub said_octets : (s : List ℕ) (x : Said) → AllOctets s → said_of s ≡ Some x → AllOctets x.address
said_octets s x h e =
    octets_all x.address
    (said_so (λ v. every is_octet v ≡ true) (every is_octet) (λ p v t n k. every_named is_octet p v t n) s x (every_pieces is_octet 59 s (all_octets s h)) e)

-- a key is what its text decodes to
pub record KeyOf (limit : ℕ) (v k : List ℕ) : Type 0 where
  pub decoded : decode (without_blanks v) ≡ Some k
  pub least : 1 ≤ length k
  pub most : length k ≤ limit

module _ (limit : ℕ) where
  limited_is : (o : Option (List ℕ)) (k : List ℕ) → limited limit o ≡ Some k → (o ≡ Some k) × (one_to limit (length k) ≡ true)
  unfolding limited
  limited_is None k e = let z : ◌≡◌ {A = ℕ} 0 1 = cc in absurd (omega arith)
  limited_is (Some w) k e =
      by_test (one_to limit (length w))
      (λ t. let q : Some w ≡ Some k = rw t at e in let r : w ≡ k = cc in (q, rw r at t))
      (λ t. let q : None ≡ Some k = rw t at e in let z : ◌≡◌ {A = ℕ} 0 1 = cc in absurd (omega arith))

  pub key_parts : (v k : List ℕ) → key_of limit v ≡ Some k → KeyOf limit v k
  unfolding key_of
  key_parts v k e =
      let l = limited_is (decode (without_blanks v)) k e in
      record {
        decoded = l.0;
        least = leb-true 1 (length k) (and_left (leb 1 (length k)) (leb (length k) limit) l.1);
        most = leb-true (length k) limit (and_right (leb 1 (length k)) (leb (length k) limit) l.1);
      }

  pub key_made : (v k : List ℕ) → KeyOf limit v k → key_of limit v ≡ Some k
  unfolding key_of limited
  key_made v k h = rw (h.decoded, le-leb 1 (length k) h.least, le-leb (length k) limit h.most)

-- a field is made of what its value says and of its key
pub record FieldOf (limit : ℕ) (s : List ℕ) (f : Field) : Type 0 where
  pub said : Said
  pub says : said_of s ≡ Some said
  pub address : f.address ≡ canonical said.address
  pub is_mutual : f.is_mutual ≡ said.is_mutual
  pub key : key_of limit said.text ≡ Some f.key

module _ (limit : ℕ) (s : List ℕ) (f : Field) where
  with_key_lem : (x : Said) → said_of s ≡ Some x → (o : Option (List ℕ)) → key_of limit x.text ≡ o
      → with_key x.address x.is_mutual o ≡ Some f → FieldOf limit s f
  unfolding with_key
  with_key_lem x q None p e = let z : ◌≡◌ {A = ℕ} 0 1 = cc in absurd (omega arith)
  with_key_lem x q (Some k) p e =
      let r : record { address = canonical x.address; is_mutual = x.is_mutual; key = k } ≡ f = cc in
      record {
        said = x;
        says = q;
        address = ap (λ (g : Field). g.address) (sym r);
        is_mutual = ap (λ (g : Field). g.is_mutual) (sym r);
        key = p ∙ ap (λ (g : Field). Some g.key) r;
      }

  by_said : (x : Option Said) → said_of s ≡ x → field_by limit x ≡ Some f → FieldOf limit s f
  unfolding field_by
  by_said None q e = let z : ◌≡◌ {A = ℕ} 0 1 = cc in absurd (omega arith)
  by_said (Some x) q e = with_key_lem x q (key_of limit x.text) refl e

  pub field_parts : field_of limit s ≡ Some f → FieldOf limit s f
  unfolding field_of
  field_parts e = by_said (said_of s) refl e

  module _ (e : field_of limit s ≡ Some f) where
    parts : FieldOf limit s f
    parts = field_parts e

    key_is : KeyOf limit parts.said.text f.key
    key_is = key_parts limit parts.said.text f.key parts.key

    pub field_canonical : is_canonical f.address ≡ true
    field_canonical = rw parts.address (plain_is_canonical parts.said.address (said_plain s parts.said parts.says))

    pub field_least : 1 ≤ length f.key
    field_least = key_is.least

    pub field_most : length f.key ≤ limit
    field_most = key_is.most

    pub field_octets : AllOctets s → AllOctets f.address
    field_octets h =
        let o : AllOctets parts.said.address = said_octets s parts.said h parts.says in
        rw parts.address (canonical_octets parts.said.address o)

    pub field_key_octets : AllOctets f.key
    field_key_octets = decode_octets (without_blanks parts.said.text) f.key key_is.decoded
