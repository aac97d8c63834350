-- What comes with each answer of the writers.
--     answer_refused, answer_done    the answer of any call that writes, by its first row that holds
--     refused_row, done_row      the answer tells whether a row held, and which
--     refused_untouched          a refusal leaves the output as it was (R32)
--     Wrote, done_wrote          success: address and key were in order, and the field stands in front of the rest of the output
-- Assumes nothing.
use Prim.Native.Nat.{ℕ, ◌≤◌}
use mathlib.Core.Path.{◌≡◌, refl, sym, ap}
use mathlib.Core.Bool.{Bool, true}
use mathlib.Core.List.{List, [], ◌∷◌}
use Rattle.std.specs.Prelude.{Option, Some, None, Ok, Err}
use borrow.Author.Tests.{leb-true, not-false}
use lib.Dec.{leb}
use lib.ListN.{length}
use Rattle.octets.specs.Written.{onto}
use Rattle.octets.specs.Tests.{one_to}
use Rattle.address.specs.Address.{plain}
use Rattle.slots.specs.Slot.{key_limit}
use Rattle.writer.specs.Writing.{written}
use Rattle.refusals.specs.Rows.{Row, ◌unless◌, answered_by}
use Rattle.refusals.specs.declared.Refusal.{Refusal}
use Rattle.refusals.specs.declared.Refusal.TheVariants.{OwnAddress, KeyLength, OutputLength}
use Rattle.refusals.proofs.Rows.{none_here, none_rest, refused_is, done_is}
use Rattle.write.specs.Writing.{writing_rows, refused_writing, written_of, left_by_writing}

module _ (d : ℕ) where
  pub answer_refused : (o : Option Refusal) (r : Refusal) → answered_by o Err (Ok d) ≡ Err r → o ≡ Some r
  unfolding answered_by
  answer_refused (Some q) r e = ap Some cc
  answer_refused None r e = cc

  pub answer_done : (o : Option Refusal) (n : ℕ) → answered_by o Err (Ok d) ≡ Ok n → (o ≡ None) × (d ≡ n)
  unfolding answered_by
  answer_done (Some q) n e = (cc, cc)
  answer_done None n e = (refl, cc)

module _ (name address : List ℕ) (m : Bool) (key : List ℕ) (room : ℕ) where
  pub refused_row : (r : Refusal) → written_of name address m key room ≡ Err r → refused_writing address key (written name address m key) room ≡ Some r
  unfolding written_of
  refused_row r e = answer_refused (length (written name address m key)) (refused_writing address key (written name address m key) room) r e

  pub done_row : (n : ℕ) → written_of name address m key room ≡ Ok n
      → (refused_writing address key (written name address m key) room ≡ None) × (length (written name address m key) ≡ n)
  unfolding written_of
  done_row n e = answer_done (length (written name address m key)) (refused_writing address key (written name address m key) room) n e

-- no row holds
module _ (address key field : List ℕ) (room : ℕ) (e : refused_writing address key field room ≡ None) where
  abbrev last : List Row
  last = (OutputLength unless leb (length field) room) ∷ []

  abbrev later : List Row
  later = (KeyLength unless one_to key_limit (length key)) ∷ last

  row_plain : plain address ≡ true
  unfolding refused_writing writing_rows
  row_plain = not-false (plain address) (none_here OwnAddress _ later e)

  row_key : one_to key_limit (length key) ≡ true
  unfolding refused_writing writing_rows
  row_key = not-false (one_to key_limit (length key)) (none_here KeyLength _ last (none_rest OwnAddress _ later e))

  row_fits : length field ≤ room
  unfolding refused_writing writing_rows
  row_fits =
      leb-true (length field) room
      (not-false (leb (length field) room) (none_here OutputLength _ [] (none_rest KeyLength _ last (none_rest OwnAddress _ later e))))

pub record Wrote (name address : List ℕ) (m : Bool) (key out : List ℕ) (n : ℕ) : Type 0 where
  pub address_plain : plain address ≡ true
  pub key_in_range : one_to key_limit (length key) ≡ true
  pub fits : length (written name address m key) ≤ length out
  pub long : n ≡ length (written name address m key)
  pub there : left_by_writing name address m key out ≡ onto (written name address m key) out

module _ (name address : List ℕ) (m : Bool) (key out : List ℕ) where
  abbrev refused : Option Refusal
  refused = refused_writing address key (written name address m key) (length out)

  pub refused_untouched : (r : Refusal) → written_of name address m key (length out) ≡ Err r → left_by_writing name address m key out ≡ out
  unfolding left_by_writing
  refused_untouched r e = refused_is (λ (q : Refusal). out) (onto (written name address m key) out) refused r (refused_row name address m key (length out) r e)

  pub done_wrote : (n : ℕ) → written_of name address m key (length out) ≡ Ok n → Wrote name address m key out n
  unfolding left_by_writing
  done_wrote n e =
      let none_holds : refused ≡ None = (done_row name address m key (length out) n e).0 in
      record {
        address_plain = row_plain address key (written name address m key) (length out) none_holds;
        key_in_range = row_key address key (written name address m key) (length out) none_holds;
        fits = row_fits address key (written name address m key) (length out) none_holds;
        long = sym (done_row name address m key (length out) n e).1;
        there = done_is (λ (q : Refusal). out) (onto (written name address m key) out) refused none_holds;
      }
