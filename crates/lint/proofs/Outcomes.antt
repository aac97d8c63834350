-- What comes with each answer of `lint`.
--     refused_row, done_row     the answer tells whether a row held, and which
--     refused_untouched         a refusal leaves the list as it was (R32)
--     Lists, done_lists         success: the blocks were readable and there was one sender, and the faults stand in front of the rest of the list
--     linted_few                an answer has at most 32,768 faults (O11)
--     lint_roomy                with room for so many, 12 is never answered (O11)
-- Assumes nothing.
use Prim.Native.Nat.{ℕ, ◌*◌, ◌≤◌}
use mathlib.Core.Path.{◌≡◌, refl, sym, ap}
use mathlib.Core.Bool.{true}
use mathlib.Core.List.{List, []}
use Rattle.std.specs.Prelude.{Option, Some, None, Result, Ok, Err}
use native.Mathlib.Omega.{arith}
use borrow.Author.Tests.{leb-true, leb-false, not-true, not-false}
use lib.Dec.{leb}
use lib.ListN.{length}
use Rattle.octets.specs.Options.{is_some, or_else}
use Rattle.octets.specs.Written.{onto}
use Rattle.refusals.specs.Refusals.{number_of}
use Rattle.refusals.specs.Rows.{Gives, nothing, here, behind, answered_by}
use Rattle.refusals.specs.declared.Refusal.{Refusal}
use Rattle.refusals.specs.declared.Refusal.TheVariants.{OuterBlock, Sender, PayloadBlock, OutputLength}
use Rattle.refusals.proofs.Rows.{exactly, none_here, none_rest, refused_is, done_is}
use Rattle.header.specs.Header.{readable}
use Rattle.fields.specs.Fields.{fields_in}
use Rattle.outer.specs.Outer.{sender_in, recipients_in}
use Rattle.faults.specs.Faults.{numbers_of}
use Rattle.lookover.proofs.Few.{few_faults}
use Rattle.lint.specs.Linting.{fault_room, mail_faults, list_rows, linting_rows, refused_linting, linted_of, left_by_linting, FewFaults}

module _ (d : ℕ) where
  answer_refused : (o : Option Refusal) (r : Refusal) → answered_by o Err (Ok d) ≡ Err r → o ≡ Some r
  unfolding answered_by
  answer_refused (Some q) r e = ap Some cc
  answer_refused None r e = cc

  answer_done : (o : Option Refusal) (n : ℕ) → answered_by o Err (Ok d) ≡ Ok n → (o ≡ None) × (d ≡ n)
  unfolding answered_by
  answer_done (Some q) n e = (cc, cc)
  answer_done None n e = (refl, cc)

-- the faults of two readable blocks are few
mail_few : (outer payload : List ℕ) → readable outer ≡ true → readable payload ≡ true → length (mail_faults outer payload) ≤ fault_room
unfolding mail_faults
mail_few outer payload o p = few_faults (or_else [] (sender_in (fields_in outer))) (recipients_in (fields_in outer)) outer payload o p

module _ (outer payload : List ℕ) (room : ℕ) where
  pub refused_row : (r : Refusal) → linted_of outer payload room ≡ Err r → refused_linting outer payload room ≡ Some r
  unfolding linted_of
  refused_row r e = answer_refused (length (mail_faults outer payload)) (refused_linting outer payload room) r e

  pub done_row : (n : ℕ) → linted_of outer payload room ≡ Ok n → (refused_linting outer payload room ≡ None) × (length (mail_faults outer payload) ≡ n)
  unfolding linted_of
  done_row n e = answer_done (length (mail_faults outer payload)) (refused_linting outer payload room) n e

  -- no row holds
  module _ (e : refused_linting outer payload room ≡ None) where
    row_outer : readable outer ≡ true
    unfolding refused_linting linting_rows
    row_outer = not-false (readable outer) (none_here OuterBlock _ _ e)

    row_sender : is_some (sender_in (fields_in outer)) ≡ true
    unfolding refused_linting linting_rows
    row_sender = not-false (is_some (sender_in (fields_in outer))) (none_here Sender _ _ (none_rest OuterBlock _ _ e))

    row_payload : readable payload ≡ true
    unfolding refused_linting linting_rows
    row_payload = not-false (readable payload) (none_here PayloadBlock _ _ (none_rest Sender _ _ (none_rest OuterBlock _ _ e)))

    row_fits : 3 * length (mail_faults outer payload) ≤ room
    unfolding refused_linting linting_rows list_rows
    row_fits =
        leb-true (3 * length (mail_faults outer payload)) room
        (not-false (leb (3 * length (mail_faults outer payload)) room)
        (none_here OutputLength _ _ (none_rest PayloadBlock _ _ (none_rest Sender _ _ (none_rest OuterBlock _ _ e)))))

  few : (r : Result ℕ Refusal) → linted_of outer payload room ≡ r → FewFaults r
  unfolding FewFaults
  few (Ok n) e =
      let d = done_row n e in
      omega (arith, d.1, mail_few outer payload (row_outer d.0) (row_payload d.0))
  few (Err r) e = tt

  pub linted_few : (r : Result ℕ Refusal) → r ≡ linted_of outer payload room → FewFaults r
  linted_few r e = few r (sym e)

pub record Lists (outer payload list : List ℕ) (n : ℕ) : Type 0 where
  pub outer_readable : readable outer ≡ true
  pub sent : is_some (sender_in (fields_in outer)) ≡ true
  pub payload_readable : readable payload ≡ true
  pub fits : 3 * length (mail_faults outer payload) ≤ length list
  pub many : n ≡ length (mail_faults outer payload)
  pub there : left_by_linting outer payload list ≡ onto (numbers_of (mail_faults outer payload)) list

module _ (outer payload list : List ℕ) where
  abbrev refused : Option Refusal
  refused = refused_linting outer payload (length list)

  pub refused_untouched : (r : Refusal) → linted_of outer payload (length list) ≡ Err r → left_by_linting outer payload list ≡ list
  unfolding left_by_linting
  refused_untouched r e =
      refused_is (λ (q : Refusal). list) (onto (numbers_of (mail_faults outer payload)) list) refused r (refused_row outer payload (length list) r e)

  pub done_lists : (n : ℕ) → linted_of outer payload (length list) ≡ Ok n → Lists outer payload list n
  unfolding left_by_linting
  done_lists n e =
      let none_holds : refused ≡ None = (done_row outer payload (length list) n e).0 in
      record {
        outer_readable = row_outer outer payload (length list) none_holds;
        sent = row_sender outer payload (length list) none_holds;
        payload_readable = row_payload outer payload (length list) none_holds;
        fits = row_fits outer payload (length list) none_holds;
        many = sym (done_row outer payload (length list) n e).1;
        there = done_is (λ (q : Refusal). list) (onto (numbers_of (mail_faults outer payload)) list) refused none_holds;
      }

-- the row of 12 says that both blocks were readable, and that their faults did not fit
module _ (outer payload : List ℕ) (room : ℕ) (l : 3 * fault_room ≤ room) where
  too_many : Gives (linting_rows outer payload room) 12 → ⊥
  unfolding linting_rows list_rows
  too_many (here p q) = omega arith
  too_many (behind p (here s q)) = omega arith
  too_many (behind p (behind s (here t q))) = omega arith
  too_many (behind p (behind s (behind t (here u q)))) =
      omega (
        arith,
        mail_few outer payload (not-false (readable outer) p) (not-false (readable payload) t),
        leb-false (3 * length (mail_faults outer payload)) room (not-true (leb (3 * length (mail_faults outer payload)) room) u),
      )
  too_many (behind p (behind s (behind t (behind u (nothing q))))) = omega arith

  pub lint_roomy : linted_of outer payload room ≡ Err OutputLength → ⊥
  unfolding refused_linting
  lint_roomy e =
      too_many ((exactly (linting_rows outer payload room) 12).0 (refused_is number_of 0 _ OutputLength (refused_row outer payload room OutputLength e)))
