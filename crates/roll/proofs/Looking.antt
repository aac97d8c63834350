-- An address that is looked for in a roll by its tag.
--     at_from .. at_same          the address at a place
--     Looking roll tags places a tag i     whether a is in the roll comes to whether it is among the addresses from the i-th on
--     look_begin .. look_on       the loop's steps
-- Assumes nothing.
use Prim.Native.Nat.{ℕ, suc, ◌+◌, ◌-◌, ◌<◌, ◌≤◌}
use mathlib.Core.Path.{◌≡◌, refl, sym, ap, ◌∙◌}
use mathlib.Core.Bool.{Bool, true, false, ◌||◌}
use mathlib.Core.List.{List, [], ◌∷◌}
use native.Mathlib.Numerals.{add-one}
use native.Mathlib.Omega.{arith}
use borrow.Author.Rules.{rules}
use lib.ListN.{length, get_or, take, drop, length-drop, drop_of_length-le}
use lib.Seq.{drop-cons, drop-drop}
use Rattle.octets.specs.Octets.{same_octets}
use Rattle.octets.specs.Finding.{length_before}
use Rattle.octets.proofs.Finding.{by, before_short}
use Rattle.tags.specs.Tags.{tag_of}
use Rattle.address.specs.Address.{canonical, is_canonical}
use Rattle.address.proofs.Spelling.{canonical_same}
use Rattle.addresslist.specs.List.{among}
use Rattle.roll.specs.Roll.{unrolled}
use Rattle.roll.specs.Index.{tags_of, address_at, Indexed}
use Rattle.roll.proofs.Rolls.{Opens, opens}
use Rattle.roll.proofs.Index.{tags_length, tags_drop, places_length, place_of, tags_pass}

-- the address that begins at a place ends at `to`
module _ (roll : List ℕ) (place from to : ℕ) (f : from ≡ place) (e : to ≡ from + length_before 0 (drop from roll)) where
  pub at_from : from ≤ to
  at_from = omega arith

  pub at_upto : place ≤ length roll → to ≤ length roll
  at_upto l = omega (arith, before_short (by 0 (drop from roll)), length-drop from roll)

  pub at_same :
      (wanted : List ℕ) (b : Bool) → b ≡ same_octets (canonical (take (to - from) (drop from roll))) wanted
      → b ≡ same_octets (canonical (address_at roll place)) wanted
  unfolding address_at
  at_same wanted b q = let n : to - from ≡ length_before 0 (drop from roll) = omega arith in rw (← f) (rw n at q)

pub ruleset standing = (at_from, at_upto, at_same, rules)

pub record Looking (roll tags places a : List ℕ) (tag i : ℕ) : Type 0 where
  pub index : Indexed roll tags places
  pub own : canonical a ≡ a
  pub number : tag ≡ tag_of (canonical a)
  pub upto : i ≤ length tags
  pub so_far : among a (unrolled roll) ≡ among a (drop i (unrolled roll))

-- from an index on, where addresses before the next with the tag are passed over
look_next : (roll tags places a : List ℕ) (tag i r : ℕ) → Looking roll tags places a tag i → r ≡ i + length_before tag (drop i tags)
    → Looking roll tags places a tag r
look_next roll tags places a tag i r h e =
    let n : length_before tag (drop i tags) ≡ length_before (tag_of (canonical a)) (tags_of (drop i (unrolled roll))) =
    rw (h.number, h.index.tagged, tags_drop) in
    record {
      index = h.index;
      own = h.own;
      number = h.number;
      upto = omega (arith, h.upto, e, before_short (by tag (drop i tags)), length-drop i tags);
      so_far =
          h.so_far
          ∙ tags_pass a (drop i (unrolled roll))
          ∙ rw (← n, drop-drop (length_before tag (drop i tags)) i (unrolled roll), ← e);
    }

pub look_begin :
    (roll tags places a : List ℕ) (tag r : ℕ) → Indexed roll tags places → is_canonical a ≡ true → tag ≡ tag_of a
    → r ≡ 0 + length_before tag (drop 0 tags) → Looking roll tags places a tag r
look_begin roll tags places a tag r x c e q =
    let own : canonical a ≡ a = canonical_same a c in
    look_next roll tags places a tag 0 r
    (record { index = x; own = own; number = e ∙ ap tag_of (sym own); upto = omega arith; so_far = refl }) q

module _ (roll tags places a : List ℕ) (tag i : ℕ) (h : Looking roll tags places a tag i) where
  many : length tags ≡ length (unrolled roll)
  many = ap length h.index.tagged ∙ tags_length (unrolled roll)

  pub look_end : length tags ≤ i → false ≡ among a (unrolled roll)
  unfolding among
  look_end l = sym (h.so_far ∙ rw (drop_of_length-le (unrolled roll) {i = i} (omega (arith, many))))

  module _ (l : i < length tags) where
    pub look_place : i < length places
    look_place = omega (arith, many, ap length h.index.placed, places_length 0 (unrolled roll))

    here : unrolled (drop (get_or places i 0) roll) ≡ get_or (unrolled roll) i [] ∷ drop (suc i) (unrolled roll)
    here =
        rw h.index.placed (place_of roll 0 (unrolled roll) refl i (omega (arith, many)))
        ∙ drop-cons (unrolled roll) i [] (omega (arith, many))

    opened : Opens (drop (get_or places i 0) roll) (get_or (unrolled roll) i []) (drop (suc i) (unrolled roll))
    opened = opens (drop (get_or places i 0) roll) (get_or (unrolled roll) i []) (drop (suc i) (unrolled roll)) here

    pub look_within : get_or places i 0 ≤ length roll
    look_within = omega (arith, opened.there, length-drop (get_or places i 0) roll)

    module _ (b : Bool) (q : b ≡ same_octets (canonical (address_at roll (get_or places i 0))) a) where
      step : among a (unrolled roll) ≡ (b || among a (drop (i + 1) (unrolled roll)))
      unfolding address_at among
      step =
          let n : address_at roll (get_or places i 0) ≡ get_or (unrolled roll) i [] = rw opened.ends opened.text in
          h.so_far ∙ rw (drop-cons (unrolled roll) i [] (omega (arith, many)), add-one, h.own, q, n)

      pub look_found : b ≡ true → true ≡ among a (unrolled roll)
      look_found p = sym (step ∙ rw p)

      pub look_on : b ≡ false → (r : ℕ) → r ≡ (i + 1) + length_before tag (drop (i + 1) tags) → Looking roll tags places a tag r
      look_on p r e =
          look_next roll tags places a tag (i + 1) r
          (record { index = h.index; own = h.own; number = h.number; upto = omega arith; so_far = step ∙ rw p }) e

pub ruleset looking = (look_begin, look_end, look_place, look_within, look_found, look_on, rules)
