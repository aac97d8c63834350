-- What comes with each answer of `display`.
--     refused_row, done_row       the answer tells whether a row held, and which
--     refused_untouched           a refusal leaves the output as it was (R32)
--     Shows, done_shows           success: the address was plain, and what is shown stands in front of the rest of the output
--     display_back                what stands there has the canonical form of the address (C20)
--     display_roomy               with the room that the C header promises, 12 is never answered (W11)
-- Assumes nothing.
use Prim.Native.Nat.{ℕ, ◌≤◌}
use mathlib.Core.Path.{◌≡◌, sym, ap, ◌∙◌}
use mathlib.Core.Bool.{true}
use mathlib.Core.List.{List}
use Rattle.std.specs.Prelude.{Option, Some, None, Ok, Err}
use native.Mathlib.Omega.{arith}
use borrow.Author.Tests.{leb-true, leb-false, not-true, not-false}
use lib.Dec.{leb}
use lib.ListN.{length, take, drop}
use lib.Seq.{take-append_seam}
use Rattle.octets.specs.Written.{onto}
use Rattle.refusals.specs.Refusals.{number_of}
use Rattle.refusals.specs.Rows.{Gives, nothing, here, behind}
use Rattle.refusals.specs.declared.Refusal.{Refusal}
use Rattle.refusals.specs.declared.Refusal.TheVariants.{OwnAddress, OutputLength}
use Rattle.refusals.proofs.Rows.{exactly, none_here, none_rest, refused_is, done_is}
use Rattle.address.specs.Address.{plain, canonical}
use Rattle.showing.specs.Showing.{displayed}
use Rattle.showing.proofs.Typing.{canonical_displayed, displayed_most}
use Rattle.write.proofs.Outcomes.{answer_refused, answer_done}
use Rattle.display.specs.Displaying.{display_room, displaying_rows, refused_displaying, displayed_of, left_by_displaying}

module _ (address : List ℕ) (room : ℕ) where
  pub refused_row : (r : Refusal) → displayed_of address room ≡ Err r → refused_displaying address room ≡ Some r
  unfolding displayed_of
  refused_row r e = answer_refused (length (displayed address)) (refused_displaying address room) r e

  pub done_row : (n : ℕ) → displayed_of address room ≡ Ok n → (refused_displaying address room ≡ None) × (length (displayed address) ≡ n)
  unfolding displayed_of
  done_row n e = answer_done (length (displayed address)) (refused_displaying address room) n e

  -- no row holds
  module _ (e : refused_displaying address room ≡ None) where
    row_plain : plain address ≡ true
    unfolding refused_displaying displaying_rows
    row_plain = not-false (plain address) (none_here OwnAddress _ _ e)

    row_fits : length (displayed address) ≤ room
    unfolding refused_displaying displaying_rows
    row_fits =
        leb-true (length (displayed address)) room
        (not-false (leb (length (displayed address)) room) (none_here OutputLength _ _ (none_rest OwnAddress _ _ e)))

pub record Shows (address out : List ℕ) (n : ℕ) : Type 0 where
  pub address_plain : plain address ≡ true
  pub fits : length (displayed address) ≤ length out
  pub long : n ≡ length (displayed address)
  pub there : left_by_displaying address out ≡ onto (displayed address) out

module _ (address out : List ℕ) where
  abbrev refused : Option Refusal
  refused = refused_displaying address (length out)

  pub refused_untouched : (r : Refusal) → displayed_of address (length out) ≡ Err r → left_by_displaying address out ≡ out
  unfolding left_by_displaying
  refused_untouched r e =
      refused_is (λ (q : Refusal). out) (onto (displayed address) out) refused r (refused_row address (length out) r e)

  module _ (n : ℕ) (e : displayed_of address (length out) ≡ Ok n) where
    pub done_shows : Shows address out n
    unfolding left_by_displaying
    done_shows =
        let none_holds : refused ≡ None = (done_row address (length out) n e).0 in
        record {
          address_plain = row_plain address (length out) none_holds;
          fits = row_fits address (length out) none_holds;
          long = sym (done_row address (length out) n e).1;
          there = done_is (λ (q : Refusal). out) (onto (displayed address) out) refused none_holds;
        }

    front : take n (left_by_displaying address out) ≡ displayed address
    unfolding onto
    front =
        ap (take n) done_shows.there
        ∙ rw done_shows.long (take-append_seam (displayed address) (drop (length (displayed address)) out))

    pub display_back : canonical (take n (left_by_displaying address out)) ≡ canonical address
    display_back = rw front (canonical_displayed address done_shows.address_plain)

-- the row of 12 says that the address was plain, and that what is shown of it did not fit
module _ (address : List ℕ) (room : ℕ) (l : display_room ≤ room) where
  too_long : Gives (displaying_rows address room) 12 → ⊥
  unfolding displaying_rows
  too_long (here p q) = omega arith
  too_long (behind p (here s q)) =
      omega (
        arith,
        displayed_most address (not-false (plain address) p),
        leb-false (length (displayed address)) room (not-true (leb (length (displayed address)) room) s),
      )
  too_long (behind p (behind s (nothing q))) = omega arith

  pub display_roomy : displayed_of address room ≡ Err OutputLength → ⊥
  unfolding refused_displaying
  display_roomy e =
      too_long ((exactly (displaying_rows address room) 12).0 (refused_is number_of 0 _ OutputLength (refused_row address room OutputLength e)))
