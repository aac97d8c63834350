-- C22: what `lint` lists, as the numbers that it leaves.
--     three_more                the numbers of a list without its first fault
--     in_listed, listed_in      a fault is in a list exactly when its numbers are
--     done_none                 where the call answers how many faults there are, it refuses nothing
--     answer_lists              what it lists is what is wrong
-- Assumes nothing.
use Prim.Native.Nat.{ℕ, zero, suc, ◌+◌, ◌*◌, ◌<◌}
use mathlib.Core.Path.{◌≡◌, refl, sym, ◌∙◌}
use mathlib.Core.Bool.{true, ◌&&◌, false≢true, or-true}
use mathlib.Core.List.{List, [], ◌∷◌, ◌++◌}
use Rattle.std.specs.Prelude.{Option, Some, None, Ok, Err}
use native.Mathlib.Omega.{arith}
use borrow.Author.Tests.{eqb-true, eq-eqb}
use lib.Dec.{eqb}
use lib.ListN.{length, get_or, drop}
use Rattle.octets.specs.Written.{onto}
use Rattle.octets.proofs.Tests.{by_test, and_left, and_right}
use Rattle.refusals.specs.Rows.{answered_by}
use Rattle.refusals.specs.declared.Refusal.{Refusal}
use Rattle.faults.specs.Faults.{Fault, numbers_of}
use Rattle.faults.specs.Found.{same_fault, is_in}
use Rattle.lint.specs.Linting.{mail_faults, refused_linting, linted_of, left_by_linting}
use Rattle.findings.specs.Findings.{Listed, AnswerLists}
use Rattle.findings.proofs.Findings.{each_listed}

three_more : (f : Fault) (s : List ℕ) (i j : ℕ) → i ≡ j + 3 → get_or (f.block ∷ f.place ∷ f.kind ∷ s) i 0 ≡ get_or s j 0
three_more f s i j h = let e : i ≡ suc (suc (suc j)) = omega arith in rw e

module _ (x : Fault) where
  in_listed : (l : List Fault) (rest : List ℕ) → is_in x l ≡ true → Listed (numbers_of l ++ rest) (length l) x
  unfolding is_in same_fault numbers_of
  in_listed [] rest e = absurd (false≢true e)
  in_listed (f ∷ l) rest e = by_test (same_fault x f) here (λ d. later (in_listed l rest (rw d at e)))
    where
      here : same_fault x f ≡ true → Listed (numbers_of (f ∷ l) ++ rest) (suc (length l)) x
      here d =
          let b : (eqb x.block f.block && eqb x.place f.place) ≡ true = and_left _ (eqb x.kind f.kind) d in
          record {
            nth = 0;
            within = omega arith;
            block = sym (eqb-true x.block f.block (and_left _ (eqb x.place f.place) b));
            place = sym (eqb-true x.place f.place (and_right (eqb x.block f.block) _ b));
            kind = sym (eqb-true x.kind f.kind (and_right (eqb x.block f.block && eqb x.place f.place) _ d));
          }

      later : Listed (numbers_of l ++ rest) (length l) x → Listed (numbers_of (f ∷ l) ++ rest) (suc (length l)) x
      later h =
          let n : ℕ = h.nth in
          record {
            nth = suc n;
            within = omega (arith, h.within);
            block = three_more f (numbers_of l ++ rest) (3 * suc n) (3 * n) (omega arith) ∙ h.block;
            place = three_more f (numbers_of l ++ rest) (3 * suc n + 1) (3 * n + 1) (omega arith) ∙ h.place;
            kind = three_more f (numbers_of l ++ rest) (3 * suc n + 2) (3 * n + 2) (omega arith) ∙ h.kind;
          }

  listed_in : (l : List Fault) (rest : List ℕ) (i : ℕ) → i < length l
      → get_or (numbers_of l ++ rest) (3 * i) 0 ≡ x.block
      → get_or (numbers_of l ++ rest) (3 * i + 1) 0 ≡ x.place
      → get_or (numbers_of l ++ rest) (3 * i + 2) 0 ≡ x.kind → is_in x l ≡ true
  unfolding is_in same_fault numbers_of
  listed_in [] rest i h b p k = absurd (omega arith)
  listed_in (f ∷ l) rest zero h b p k =
      rw (eq-eqb x.block f.block (sym b), eq-eqb x.place f.place (sym p), eq-eqb x.kind f.kind (sym k))
  listed_in (f ∷ l) rest (suc i) h b p k =
      rw
      (listed_in l rest i (omega arith) (sym (three_more f (numbers_of l ++ rest) (3 * suc i) (3 * i) (omega arith)) ∙ b)
      (sym (three_more f (numbers_of l ++ rest) (3 * suc i + 1) (3 * i + 1) (omega arith)) ∙ p)
      (sym (three_more f (numbers_of l ++ rest) (3 * suc i + 2) (3 * i + 2) (omega arith)) ∙ k))
      (or-true (same_fault x f))

done_none : (o : Option Refusal) (d n : ℕ) → Ok n ≡ answered_by o Err (Ok d) → (o ≡ None) × (d ≡ n)
unfolding answered_by
done_none None d n e = (refl, cc)
done_none (Some r) d n e = (cc, cc)

pub answer_lists : AnswerLists
unfolding linted_of left_by_linting answered_by onto
answer_lists outer payload list sender n x done sent =
    let l : List Fault = mail_faults outer payload in
    let rest : List ℕ = drop (length (numbers_of l)) list in
    let h = done_none (refused_linting outer payload (length list)) (length l) n done in
    let each = each_listed outer payload sender x sent in
    rw (h.0, ← h.1) (
      λ g. each.0 (listed_in x l rest g.nth g.within g.block g.place g.kind),
      λ w. in_listed x l rest (each.1 w),
    )
