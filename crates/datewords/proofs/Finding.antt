-- The token at a place of the text.
--     skip_any                      what is left behind blanks and comments, wherever the place is
--     found-..                      an answer of `token`, and what the definition says
-- Assumes nothing.
use Prim.Native.Nat.{ℕ, suc, ◌+◌, ◌-◌, ◌≤◌, ◌<◌}
use mathlib.Core.Path.{◌≡◌, sym, ◌∙◌}
use mathlib.Core.Logic.{⊎_elim}
use mathlib.Core.List.{List}
use Rattle.std.specs.Prelude.{Some, Option, None}
use native.Mathlib.Numerals.{add-one}
use native.Mathlib.Omega.{arith}
use borrow.Author.Rules.{rules}
use lib.ListN.{length, get_or, drop, length-drop}
use lib.Seq.{drop-drop}
use Rattle.octets.proofs.Lists.{lt_or_le, drop_one, drop_done}
use Rattle.runs.specs.Runs.{belongs}
use Rattle.runs.specs.declared.Class.TheVariants.{Digit, Letter}
use Rattle.runs.proofs.Running.{run_short}
use Rattle.tokens.specs.Tokens.{skipped}
use Rattle.tokens.specs.Answers.{reached}
use Rattle.tokens.proofs.Skipping.{skip_left, skip_unreadable}
use Rattle.datewords.specs.Words.{opening_of, further, token_at, first_token}
use Rattle.datewords.specs.Answers.{token_in}
use Rattle.datewords.specs.declared.token.Opening.{Opening}
use Rattle.datewords.specs.declared.token.Opening.TheVariants.{Number, Word, Plus, Minus, Mark}
use Rattle.datewords.specs.declared.token.WordAt.TheVariants.{Between, End, Unreadable}
use Rattle.datewords.proofs.Opened.{end_of}

further_short : (k : Opening) (s : List ℕ) → further k s ≤ length s
unfolding further
further_short Number s = run_short (belongs Digit) s
further_short Word s = run_short (belongs Letter) s
further_short Plus s = run_short (belongs Digit) s
further_short Minus s = run_short (belongs Digit) s
further_short Mark s = omega arith

module _ (s : List ℕ) (at : ℕ) (r : Option ℕ) (e : r ≡ reached s (skipped (drop at s))) where
  skip_any : (n : ℕ) → r ≡ Some n → skipped (drop at s) ≡ Some (drop n s)
  skip_any n q = ⊎_elim within beyond (lt_or_le at (length s))
    where
      within : at < length s → skipped (drop at s) ≡ Some (drop n s)
      within l = skip_left s at r e n q (omega arith)

      same : length s ≤ at → drop at s ≡ drop (length s) s
      same l = drop_done s at l ∙ sym (drop_done s (length s) (omega arith))

      beyond : length s ≤ at → skipped (drop at s) ≡ Some (drop n s)
      beyond l = rw (same l) (skip_left s (length s) r (rw (same l) at e) n q (omega arith))

  pub found_unreadable : r ≡ None → token_in s Unreadable ≡ first_token (drop at s)
  unfolding token_in first_token
  found_unreadable q = rw (first_token, skip_unreadable s at r e q)

  module _ (from : ℕ) (q : r ≡ Some from) where
    pub found_end : length s ≤ from → token_in s End ≡ first_token (drop at s)
    unfolding token_in first_token token_at
    found_end l = rw (first_token, skip_any from q, drop_done s from l)

    module _ (to : ℕ) (p : to ≡ end_of s from) (l : from < length s) where
      pub found_between : token_in s (Between from to) ≡ first_token (drop at s)
      unfolding token_in first_token token_at
      found_between =
          let n : ℕ = further (opening_of (get_or s from 0)) (drop (from + 1) s) in
          let w : to - from ≡ suc n = (let v : to - from ≡ n + 1 = omega arith in v ∙ add-one n) in
          rw (first_token, skip_any from q, drop_one s from l, w, p, ← drop-drop n (from + 1) s)

      pub found_order : from ≤ to
      found_order = omega arith

      pub found_upto : to ≤ length s
      found_upto =
          omega (arith, further_short (opening_of (get_or s from 0)) (drop (from + 1) s), length-drop (from + 1) s)

pub ruleset finding = (found_unreadable, found_end, found_between, found_order, found_upto, rules)
