-- From the lists that are left to places in the text, once for every reader.
--     none_or_some      it is one or the other
--     Suffix            the first list is what is left of the second
--     suffix_length     it is no longer
--     suffix_drop       it is the second from the place on where it begins
--     suffix_one        what is left of all but the first octet is left of the whole
--     reached_at        where the text from i on is left, the answer is i
--     Left s at n       what an answer n says of what is left: it is the text from n on, and n lies in the text and not before `at`
--     reached_to        so it is where a reader leaves a part of the text from `at` on
--     reached_none      the answer is Unreadable only where nothing is left
-- Assumes nothing.
use Prim.Native.Nat.{ℕ, suc, ◌+◌, ◌-◌, ◌≤◌}
use mathlib.Core.Path.{◌≡◌, refl, ap, ◌∙◌}
use mathlib.Core.List.{List, [], ◌∷◌}
use Rattle.std.specs.Prelude.{Option, Some, None}
use native.Mathlib.Omega.{arith}
use native.Mathlib.Nat.{sub_self}
use native.Mathlib.Numerals.{add-one}
use lib.ListN.{length, drop, length-drop}
use lib.Seq.{drop-drop}
use Rattle.tokens.specs.Answers.{reached}

pub none_or_some : (found : Option (List ℕ)) (rest : List ℕ) → found ≡ None → found ≡ Some rest → ⊥
none_or_some found rest p q = let z : ◌≡◌ {A = ℕ} 0 1 = cc in omega arith

pub data Suffix : List ℕ → List ℕ → Type 0 where
  whole : {s : List ℕ} → Suffix s s
  behind : {r s : List ℕ} (x : ℕ) → Suffix r s → Suffix r (x ∷ s)

pub suffix_length : {r s : List ℕ} → Suffix r s → length r ≤ length s
suffix_length whole = omega arith
suffix_length (behind x h) = omega (arith, suffix_length h)

pub suffix_drop : {r s : List ℕ} → Suffix r s → r ≡ drop (length s - length r) s
suffix_drop {r} whole = rw sub_self
suffix_drop {r} (behind {s = s} x h) =
    let e : suc (length s) - length r ≡ (length s - length r) + 1 = omega (arith, suffix_length h) in
    rw (e, add-one) (suffix_drop h)

pub suffix_one : {r : List ℕ} (s : List ℕ) → Suffix r (drop 1 s) → Suffix r s
suffix_one [] h = h
suffix_one (x ∷ s) h = behind x h

pub reached_at : (s : List ℕ) (i : ℕ) → i ≤ length s → reached s (Some (drop i s)) ≡ Some i
unfolding reached
reached_at s i h = let e : length s - length (drop i s) ≡ i = omega (arith, length-drop i s) in ap Some e

pub record Left (s : List ℕ) (at n : ℕ) (found : Option (List ℕ)) : Type 0 where
  pub from : at ≤ n
  pub upto : n ≤ length s
  pub left : found ≡ Some (drop n s)

pub reached_to :
    (s : List ℕ) (at n : ℕ) (found : Option (List ℕ)) → at ≤ length s
    → ((rest : List ℕ) → found ≡ Some rest → Suffix rest (drop at s)) → Some n ≡ reached s found → Left s at n found
unfolding reached
reached_to s at n None l part e = let z : ◌≡◌ {A = ℕ} 0 1 = cc in absurd (omega arith)
reached_to s at n (Some rest) l part e =
    let h : Suffix rest (drop at s) = part rest refl in
    let p : n ≡ length s - length rest = cc in
    let k : at + (length (drop at s) - length rest) ≡ n = omega (arith, suffix_length h, length-drop at s) in
    record {
      from = omega (arith, suffix_length h, length-drop at s);
      upto = omega arith;
      left = ap Some (suffix_drop h ∙ rw (drop-drop, k));
    }

pub reached_none : (s : List ℕ) (found : Option (List ℕ)) → None ≡ reached s found → found ≡ None
unfolding reached
reached_none s None e = refl
reached_none s (Some rest) e = cc
