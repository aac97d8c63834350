-- A field measured, then written where it fits; and its address in canonical form.
--     fit_none .. fit_kept       what is answered and left, by the field's length
--     form_there .. form_most    the canonical form stands in the buffer that was lent for it
--     never_answered, never_left     for which it is never too long
--     the rulesets               fitting, for `fit_field`; forming, for `write_field`
-- Assumes nothing.
use Rattle.std.specs.Prelude.{Option, Some, None}
use Prim.Native.Nat.{ℕ, ◌<◌, ◌≤◌}
use mathlib.Core.Path.{◌≡◌, sym, ◌∙◌}
use mathlib.Core.Bool.{true}
use mathlib.Core.List.{List}
use native.Mathlib.Nat.{sub-zero}
use native.Mathlib.Omega.{arith}
use borrow.Author.Rules.{rules}
use lib.ListN.{length, take}
use Rattle.octets.specs.Written.{onto}
use Rattle.address.specs.Address.{plain, canonical}
use Rattle.address.specs.Answers.{written_of, onto_if_fits}
use Rattle.address.proofs.Room.{written_fits, written_none, onto_fits, onto_none}
use Rattle.address.proofs.Forming.{form_fits, form_never, form_there as buffer_there, form_end as buffer_end}

-- `fit_field`
module _ (w d : List ℕ) (n : ℕ) (e : n ≡ length w) where
  module _ (l : length d < n) where
    pub fit_none : None ≡ written_of w (length d)
    fit_none = sym (written_none w (length d) (omega arith))

    pub none_kept : d ≡ onto_if_fits w d
    none_kept = sym (onto_none w d (omega arith))

  module _ (l : n ≤ length d) where
    pub fit_room : length w ≤ length d
    fit_room = omega arith

    pub fit_written : Some n ≡ written_of w (length d)
    fit_written = rw e (sym (written_fits w (length d) fit_room))

    pub fit_kept : (out : List ℕ) → out ≡ onto w d → out ≡ onto_if_fits w d
    fit_kept out q = q ∙ sym (onto_fits w d fit_room)

pub ruleset fitting = (fit_none, none_kept, fit_room, fit_written, fit_kept, rules)

-- `write_field`: the canonical form of an address s stands in the buffer of 256 octets that is lent for it
module _ (s : List ℕ) (plainly : plain s ≡ true) (g : Option ℕ) (e : g ≡ written_of (canonical s) 256) where
  module _ (r : g ≡ None) where
    pub never_answered : (w : List ℕ) (room : ℕ) → None ≡ written_of w room
    never_answered w room = absurd (form_never s plainly 256 (omega arith) g e r)

    pub never_left : (w d : List ℕ) → d ≡ onto_if_fits w d
    never_left w d = absurd (form_never s plainly 256 (omega arith) g e r)

  module _ (n : ℕ) (q : g ≡ Some n) (b out : List ℕ) (o : out ≡ onto_if_fits (canonical s) b) (l : length b ≡ 256) where
    pub form_there : take n out ≡ canonical s
    form_there = rw sub-zero at (buffer_there s plainly 256 (omega arith) g e n q b out o l)

    pub form_end : n ≤ length out
    form_end = buffer_end s plainly 256 (omega arith) g e n q b out o l

    pub form_most : length (take n out) ≤ 256
    form_most = rw form_there (form_fits s plainly 256 (omega arith))

pub ruleset forming = (never_answered, never_left, form_there, form_end, form_most, rules)
