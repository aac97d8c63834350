-- Scans over the slots of a table, from the lowest on.
--     lowest_here .. many_same    one slot of a scan
--     Scan test t n i             the lowest of n slots that passes the test is the lowest of those from i on
--     scan_begin .. scan_end      the loop's steps
--     Tally t n many i            of n slots so many before i are free
--     finding_free, tallying      the scans for free slots
-- Assumes nothing.
use Rattle.std.specs.Prelude.{Some, None}
use Prim.Native.Nat.{ℕ, suc, ◌+◌, ◌-◌, ◌<◌, ◌≤◌}
use mathlib.Core.Path.{◌≡◌, sym, ◌∙◌}
use mathlib.Core.Bool.{Bool, true, false}
use mathlib.Core.List.{List}
use native.Mathlib.Nat.{sub-zero}
use native.Mathlib.Omega.{arith}
use borrow.Author.Rules.{rules}
use Rattle.octets.proofs.Lists.{left_one}
use Rattle.slots.specs.Slot.{marked}
use Rattle.table.specs.Table.{slots, slot_at, unused, lowest, how_many, lowest_free, free_count}

-- one slot
module _ (test : List ℕ → Bool) (t : List ℕ) (i k : ℕ) where
  pub lowest_here : test (slot_at t i) ≡ true → lowest test t i (suc k) ≡ Some i
  unfolding lowest
  lowest_here e = rw (lowest, e)

  pub lowest_later : test (slot_at t i) ≡ false → lowest test t i (suc k) ≡ lowest test t (i + 1) k
  unfolding lowest
  lowest_later e = rw (lowest, e)

  pub many_more : test (slot_at t i) ≡ true → how_many test t i (suc k) ≡ 1 + how_many test t (i + 1) k
  unfolding how_many
  many_more e = rw (how_many, e)

  pub many_same : test (slot_at t i) ≡ false → how_many test t i (suc k) ≡ how_many test t (i + 1) k
  unfolding how_many
  many_same e = rw (how_many, e)

pub record Scan (test : List ℕ → Bool) (t : List ℕ) (n i : ℕ) : Type 0 where
  pub upto : i ≤ n
  pub so_far : lowest test t 0 n ≡ lowest test t i (n - i)

module _ (test : List ℕ → Bool) (t : List ℕ) (n : ℕ) where
  pub scan_begin : Scan test t n 0
  scan_begin = record { upto = omega arith; so_far = rw (sub-zero n) }

  module _ (i : ℕ) (h : Scan test t n i) where
    pub scan_no : i < n → test (slot_at t i) ≡ false → Scan test t n (i + 1)
    scan_no l e = record { upto = omega arith; so_far = h.so_far ∙ rw (left_one n i l) (lowest_later test t i (n - (i + 1)) e) }

    pub scan_yes : i < n → test (slot_at t i) ≡ true → Some i ≡ lowest test t 0 n
    scan_yes l e = sym (h.so_far ∙ rw (left_one n i l) (lowest_here test t i (n - (i + 1)) e))

    pub scan_end : n ≤ i → None ≡ lowest test t 0 n
    unfolding lowest
    scan_end l =
        let z : n - i ≡ 0 = omega arith in
        sym (h.so_far ∙ rw z)

-- the slots without the mark
module _ (t : List ℕ) (n i : ℕ) (e : n ≡ slots t) where
  pub free_begin : Scan unused t n 0
  free_begin = scan_begin unused t n

  pub within_table : i < n → i < slots t
  within_table l = omega arith

  module _ (h : Scan unused t n i) where
    pub free_no : (b : Bool) → i < n → b ≡ marked (slot_at t i) → b ≡ true → Scan unused t n (i + 1)
    unfolding unused
    free_no b l p q = scan_no unused t n i h l (rw (sym p ∙ q))

    pub free_yes : (b : Bool) → i < n → b ≡ marked (slot_at t i) → b ≡ false → Some i ≡ lowest_free t
    unfolding lowest_free unused
    free_yes b l p q = rw (← e) (scan_yes unused t n i h l (rw (sym p ∙ q)))

    pub free_end : n ≤ i → None ≡ lowest_free t
    unfolding lowest_free
    free_end l = rw (← e) (scan_end unused t n i h l)

pub ruleset finding_free = (free_begin, within_table, free_no, free_yes, free_end, rules)

pub record Tally (t : List ℕ) (n many i : ℕ) : Type 0 where
  pub upto : i ≤ n
  pub few : many ≤ i
  pub so_far : how_many unused t 0 n ≡ many + how_many unused t i (n - i)

pub tally_begin : (t : List ℕ) (n : ℕ) → Tally t n 0 0
tally_begin t n = record { upto = omega arith; few = omega arith; so_far = rw (sub-zero n) (omega arith) }

module _ (t : List ℕ) (n many i : ℕ) (h : Tally t n many i) where
  module _ (b : Bool) (l : i < n) (p : b ≡ marked (slot_at t i)) where
    pub tally_one : b ≡ false → Tally t n (many + 1) (i + 1)
    unfolding unused
    tally_one q =
        let e : how_many unused t i (n - i) ≡ 1 + how_many unused t (i + 1) (n - (i + 1)) =
        rw (left_one n i l) (many_more unused t i (n - (i + 1)) (rw (sym p ∙ q))) in
        record { upto = omega arith; few = omega (arith, h.few); so_far = omega (arith, h.so_far, e) }

    pub tally_none : b ≡ true → Tally t n many (i + 1)
    unfolding unused
    tally_none q =
        let e : how_many unused t i (n - i) ≡ how_many unused t (i + 1) (n - (i + 1)) =
        rw (left_one n i l) (many_same unused t i (n - (i + 1)) (rw (sym p ∙ q))) in
        record { upto = omega arith; few = omega (arith, h.few); so_far = omega (arith, h.so_far, e) }

  pub tally_end : n ≡ slots t → n ≤ i → many ≡ free_count t
  unfolding free_count how_many
  tally_end e l =
      let z : n - i ≡ 0 = omega arith in
      let w : how_many unused t 0 n ≡ many + 0 = h.so_far ∙ rw z in
      rw (← e) (omega (arith, w))

pub ruleset tallying = (within_table, tally_begin, tally_one, tally_none, tally_end, rules)
