-- Parts of a list, from a place up to another.
--     part_none, part_last                an empty part; its last element
--     part_length                         how long it is
--     part_rest                           a part up to the end
--     part_front, part_back               what a part opens with, and what is behind that
-- Assumes nothing.
use Prim.Native.Nat.{ℕ, ◌+◌, ◌-◌, ◌<◌, ◌≤◌}
use mathlib.Core.Path.{◌≡◌, sym}
use mathlib.Core.List.{List, [], ◌∷◌, ◌++◌}
use native.Mathlib.Omega.{arith}
use native.Mathlib.Nat.{sub_self}
use lib.ListN.{length, get_or, take, drop, length-drop}
use lib.Seq.{length-take-le, take_all, take-take, take-add, drop_at, drop-drop, get_or-drop}
use Rattle.octets.proofs.Lists.{take_one}
use Rattle.attributes.specs.Answers.{part}

module _ (s : List ℕ) where
  pub part_none : (i : ℕ) → part s i i ≡ []
  unfolding part
  part_none i = rw (sub_self i)

  pub part_length : (from to : ℕ) → to ≤ length s → length (part s from to) ≡ to - from
  unfolding part
  part_length from to h = length-take-le (to - from) (drop from s) (omega (arith, length-drop from s))

  pub part_last : (from to : ℕ) → from < to → to ≤ length s → part s from to ≡ part s from (to - 1) ++ (get_or s (to - 1) 0 ∷ [])
  unfolding part
  part_last from to l h =
      let e : to - from ≡ (to - 1 - from) + 1 = omega arith in
      let k : to - 1 - from < length (drop from s) = omega (arith, length-drop from s) in
      let i : from + (to - 1 - from) ≡ to - 1 = omega arith in
      rw (e, take_one (drop from s) (to - 1 - from) k, get_or-drop, i)

  pub part_rest : (from : ℕ) → part s from (length s) ≡ drop from s
  unfolding part
  part_rest from = take_all (length s - from) (drop from s) (omega (arith, length-drop from s))

  -- what a part opens with, and what is behind that
  pub part_front : (from to n : ℕ) → from + n ≤ to → part s from (from + n) ≡ take n (part s from to)
  unfolding part
  part_front from to n h =
      let e : from + n - from ≡ n = omega arith in
      rw (e, take-take n (to - from) (drop from s) (omega arith))

  pub part_back : (from to n : ℕ) → from + n ≤ to → to ≤ length s → part s (from + n) to ≡ drop n (part s from to)
  unfolding part
  part_back from to n h l =
      let e : to - from ≡ n + (to - (from + n)) = omega arith in
      let k : n ≤ length (drop from s) = omega (arith, length-drop from s) in
      rw (e, ← drop-drop n from s, take-add n (to - (from + n)) (drop from s))
      (sym (drop_at (take n (drop from s)) (take (to - (from + n)) (drop n (drop from s))) n (length-take-le n (drop from s) k)))
