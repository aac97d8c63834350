-- The two writers: what the tests of the code say of the rows.
--     key_none, key_long, key_good      the key's length (R11), as the code tests it
--     field_fits, field_done, field_there    the field has room: what the lower writer answers and leaves
--     field_long, nothing_there         it has none
--     the ruleset                       writing, for `write`
-- Assumes nothing.
use Rattle.std.specs.Prelude.{Option, Some, None, Result, Ok}
use Rattle.refusals.specs.declared.Refusal.{Refusal}
use Prim.Native.Nat.{ℕ, ◌<◌, ◌≤◌}
use mathlib.Core.Path.{◌≡◌, sym, ap, ◌∙◌}
use mathlib.Core.Bool.{Bool, true, false}
use mathlib.Core.List.{List}
use native.Mathlib.Omega.{arith}
use borrow.Author.Tests.{le-leb, lt-leb, eqb-true, eqb-false}
use lib.Dec.{leb, eqb}
use lib.ListN.{length}
use Rattle.octets.specs.Written.{onto}
use Rattle.octets.specs.Tests.{one_to}
use Rattle.address.specs.Answers.{written_of as fitted_of, onto_if_fits}
use Rattle.address.proofs.Room.{written_length, written_no_room, onto_fits, onto_none}
use Rattle.slots.specs.Slot.{key_limit}
use borrow.Author.Rules.{rules}
use Rattle.refusals.proofs.Rows.{denied_refuses, denied_passes, unless_refuses, unless_passes, no_row}

pub key_none : (n : ℕ) (b : Bool) → b ≡ eqb n 0 → b ≡ true → one_to key_limit n ≡ false
key_none n b e t = rw (eqb-true n 0 (sym e ∙ t))

pub key_long : (n : ℕ) → 2048 < n → one_to key_limit n ≡ false
key_long n l = rw (le-leb 1 n (omega arith), lt-leb n 2048 l)

pub key_good : (n : ℕ) (b : Bool) → b ≡ eqb n 0 → b ≡ false → n ≤ 2048 → one_to key_limit n ≡ true
key_good n b e f l =
    let some : n ≡ 0 → ⊥ = eqb-false n 0 (sym e ∙ f) in
    rw (le-leb 1 n (omega arith), le-leb n 2048 l)

-- the answer of the lower writer
module _ (field d : List ℕ) (k : Option ℕ) (e : k ≡ fitted_of field (length d)) where
  module _ (m : ℕ) (q : k ≡ Some m) where
    pub field_fits : leb (length field) (length d) ≡ true
    field_fits = le-leb (length field) (length d) (written_length field (length d) m (sym q ∙ e)).1

    pub field_done : ◌≡◌ {A = Result ℕ Refusal} (Ok m) (Ok (length field))
    field_done = ap (λ (n : ℕ). Ok n) (written_length field (length d) m (sym q ∙ e)).0

    pub field_there : (out : List ℕ) → out ≡ onto_if_fits field d → out ≡ onto field d
    field_there out o = o ∙ onto_fits field d (written_length field (length d) m (sym q ∙ e)).1

  module _ (q : k ≡ None) where
    pub field_long : leb (length field) (length d) ≡ false
    field_long = lt-leb (length field) (length d) (written_no_room field (length d) (sym q ∙ e))

    pub nothing_there : (out : List ℕ) → out ≡ onto_if_fits field d → out ≡ d
    nothing_there out o = o ∙ onto_none field d (written_no_room field (length d) (sym q ∙ e))

pub ruleset writing = (
  denied_refuses,
  denied_passes,
  unless_refuses,
  unless_passes,
  key_none,
  key_long,
  key_good,
  field_fits,
  field_done,
  field_there,
  field_long,
  nothing_there,
  no_row,
  rules,
)
