-- Laws of the index of a roll.
--     tags_length .. tags_drop     the tags of addresses: how many, one address more, the rest of them
--     places_length, places_add    the places of addresses
--     place_of                     what stands in a roll from the place of one of its addresses on
--     tags_pass                    addresses before the first with the tag of a are not a
-- Assumes nothing.
use Prim.Native.Nat.{ℕ, zero, suc, ◌+◌, ◌<◌}
use mathlib.Core.Path.{◌≡◌, refl, ap}
use mathlib.Core.Bool.{false}
use mathlib.Core.List.{List, [], ◌∷◌, ◌++◌}
use native.Mathlib.Nat.{add-zero}
use native.Mathlib.Numerals.{add-one}
use native.Mathlib.Omega.{arith}
use borrow.Author.Tests.{eqb-false}
use lib.Dec.{eqb}
use lib.ListN.{length, get_or, drop, length-append}
use lib.Seq.{drop-drop}
use Rattle.octets.specs.Octets.{same_octets}
use Rattle.octets.specs.Finding.{length_before}
use Rattle.octets.proofs.Tests.{by_test}
use Rattle.octets.proofs.Comparing.{same_true}
use Rattle.tags.specs.Tags.{tag_of}
use Rattle.address.specs.Address.{canonical}
use Rattle.addresslist.specs.List.{among}
use Rattle.roll.specs.Roll.{entry, rolled, unrolled}
use Rattle.roll.specs.Index.{tags_of, places_from}
use Rattle.roll.proofs.Rolls.{entry_length, Opens, opens}

pub tags_length : (list : List (List ℕ)) → length (tags_of list) ≡ length list
unfolding tags_of
tags_length [] = refl
tags_length (a ∷ rest) = rw (tags_length rest)

pub tags_add : (list : List (List ℕ)) (a : List ℕ) → tags_of (list ++ (a ∷ [])) ≡ tags_of list ++ (tag_of (canonical a) ∷ [])
unfolding tags_of
tags_add [] a = refl
tags_add (b ∷ rest) a = rw (tags_add rest a)

pub tags_drop : (i : ℕ) (list : List (List ℕ)) → drop i (tags_of list) ≡ tags_of (drop i list)
unfolding tags_of
tags_drop zero list = refl
tags_drop (suc i) [] = refl
tags_drop (suc i) (a ∷ rest) = tags_drop i rest

pub places_length : (at : ℕ) (list : List (List ℕ)) → length (places_from at list) ≡ length list
unfolding places_from
places_length at [] = refl
places_length at (a ∷ rest) = rw (places_length (at + length (entry a)) rest)

pub places_add :
    (at : ℕ) (list : List (List ℕ)) (a : List ℕ)
    → places_from at (list ++ (a ∷ [])) ≡ places_from at list ++ ((at + length (rolled list)) ∷ [])
unfolding places_from rolled
places_add at [] a = rw add-zero
places_add at (b ∷ rest) a =
    let n : at + length (entry b) + length (rolled rest) ≡ at + length (entry b ++ rolled rest) =
    omega (arith, length-append (entry b) (rolled rest)) in
    rw (places_add (at + length (entry b)) rest a, n)

-- the list is what stands in the roll s from the place `at` on
pub place_of :
    (s : List ℕ) (at : ℕ) (list : List (List ℕ)) → unrolled (drop at s) ≡ list → (k : ℕ) → k < length list
    → unrolled (drop (get_or (places_from at list) k 0) s) ≡ drop k list
unfolding places_from
place_of s at [] e k l = absurd (omega arith)
place_of s at (a ∷ rest) e zero l = e
place_of s at (a ∷ rest) e (suc k) l =
    let o : Opens (drop at s) a rest = opens (drop at s) a rest e in
    place_of s (at + length (entry a)) rest
    (rw (entry_length a, add-one, ← drop-drop (suc (length a)) at s) o.others) k (omega arith)

-- different tags are those of different texts
tags_apart : (x y : List ℕ) → eqb (tag_of x) (tag_of y) ≡ false → same_octets x y ≡ false
tags_apart x y e = by_test (same_octets x y) (λ p. absurd (eqb-false (tag_of x) (tag_of y) e (ap tag_of (same_true x y p)))) (λ p. p)

pub tags_pass :
    (a : List ℕ) (list : List (List ℕ)) → among a list ≡ among a (drop (length_before (tag_of (canonical a)) (tags_of list)) list)
unfolding tags_of among length_before
tags_pass a [] = refl
tags_pass a (b ∷ rest) =
    by_test (eqb (tag_of (canonical b)) (tag_of (canonical a)))
    (λ e. rw (length_before, e))
    (λ e. rw (length_before, e, tags_apart (canonical b) (canonical a) e) (tags_pass a rest))
