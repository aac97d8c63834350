-- The call (T16, T17): what it answers and leaves, and what that comes to.
--     old_opens .. refused_left       the answers of `convert_old`
--     sound_done, sound_left          a table that is sound already
--     refused_untouched               a refusal leaves the table (R32)
--     index_lowest, lowest_index      2 is given exactly with the index of the lowest slot that is neither free nor was sound
--     done_was_sound, was_sound_done  and 0 exactly for tables that were sound by the old rule
--     done_sound, done_octets, done_entry    the table is then sound, and has the merged entries (C19)
--     sound_untouched                 a sound table stays as it is (T19)
--     the rulesets                    converting_old, for `convert_old`; converting, for `convert`
-- Assumes nothing.
use Prim.Native.Nat.{ℕ}
use mathlib.Core.Path.{◌≡◌, sym, ◌∙◌}
use mathlib.Core.List.{List}
use Rattle.std.specs.Prelude.{Some, None, Result, Ok, Err}
use borrow.Author.Rules.{rules}
use mir.Syntax.{w8}
use mir.Val.{Fits}
use lib.ListN.{get_or}
use Rattle.octets.specs.Octets.{AllOctets}
use Rattle.octets.proofs.Lists.{given_octets}
use Rattle.refusals.specs.Rows.{first_of, answer_of}
use Rattle.refusals.specs.declared.Refusal.{Refusal}
use Rattle.refusals.specs.declared.Refusal.TheVariants.{BrokenSlot}
use Rattle.refusals.proofs.Rows.{refused_is, done_is, answer_refused, answer_done}
use Rattle.slots.specs.declared.Spelling.TheVariants.{Canonical, Ascii}
use Rattle.table.specs.Table.{slots, checked_by, checked}
use Rattle.table.specs.Entries.{entry_in}
use Rattle.table.specs.Slotwise.{BrokenBy}
use Rattle.table.specs.Tagged.{OpenBy}
use Rattle.table.specs.declared.Checked.TheVariants.{Sound}
use Rattle.table.proofs.Keeping.{table_by}
use Rattle.inspect.specs.Inspecting.{table_rows_by, table_rows, OpensBy}
use Rattle.inspect.proofs.Tables.{sound_rows, rows_sound, lowest_broken, broken_refused}
use Rattle.convert.specs.Converting.{gathered, converted, converting_rows, refused_converting, left_by_converting}
use Rattle.convert.proofs.Results.{converted_octets, converted_sound, converted_entry, was_sound, sound_stays}

module _ (t : List ℕ) where
  -- with a refusal the table stays, and else it is converted
  pub left_refused : (r : Refusal) → refused_converting t ≡ Some r → left_by_converting t ≡ t
  unfolding left_by_converting
  left_refused r e = refused_is (λ (x : Refusal). t) (converted t) (refused_converting t) r e

  pub left_done : refused_converting t ≡ None → left_by_converting t ≡ converted t
  unfolding left_by_converting
  left_done e = done_is (λ (x : Refusal). t) (converted t) (refused_converting t) e

  -- as the code has it: r is what the check by the old rule answered
  module _ (tags : List ℕ) (r : Result (Unit {0}) Refusal) (h : OpensBy Ascii t tags r) where
    answered : r ≡ answer_of (refused_converting t)
    unfolding refused_converting converting_rows
    answered = h.answer

    pub old_opens : r ≡ Ok tt → OpenBy Ascii t tags
    old_opens q = h.opens q

    pub done_answer : r ≡ Ok tt → (Ok tt) ≡ answer_of (refused_converting t)
    done_answer q = sym q ∙ answered

    pub done_left : r ≡ Ok tt → (out : List ℕ) → out ≡ converted t → out ≡ left_by_converting t
    done_left q out e = e ∙ sym (left_done (answer_done (refused_converting t) (sym answered ∙ q)))

    pub refused_answer : (x : Refusal) → r ≡ Err x → Err x ≡ answer_of (refused_converting t)
    refused_answer x q = sym q ∙ answered

    pub refused_left : (x : Refusal) → r ≡ Err x → t ≡ left_by_converting t
    refused_left x q = sym (left_refused x (answer_refused (refused_converting t) x (sym answered ∙ q)))

  -- a table that is sound already
  module _ (s : checked t ≡ Sound) where
    not_refused : refused_converting t ≡ None
    unfolding refused_converting converting_rows
    not_refused = sound_rows Ascii t (was_sound t s)

    pub sound_untouched : AllOctets t → left_by_converting t ≡ t
    sound_untouched o = left_done not_refused ∙ sound_stays t s o

  module _ (r : Result (Unit {0}) Refusal) (q : r ≡ Ok tt) (h : r ≡ answer_of (first_of (table_rows t))) where
    passed : checked t ≡ Sound
    passed = rows_sound Canonical t (answer_done (first_of (table_rows t)) (sym h ∙ q))

    pub sound_done : (Ok tt) ≡ answer_of (refused_converting t)
    sound_done = sym (done_is Err (Ok tt) (refused_converting t) (not_refused passed))

    pub sound_left : ((j : ℕ) → Fits w8 (get_or t j 0)) → t ≡ left_by_converting t
    sound_left g = sym (sound_untouched passed (given_octets t g))

pub ruleset converting_old = (old_opens, done_answer, done_left, refused_answer, refused_left, rules)

pub ruleset converting = (sound_done, sound_left, rules)

-- what callers know of an answer
module _ (t : List ℕ) where
  pub refused_untouched : (r : Refusal) → answer_of (refused_converting t) ≡ Err r → left_by_converting t ≡ t
  refused_untouched r e = left_refused t r (answer_refused (refused_converting t) r e)

  pub index_lowest : (i : ℕ) → answer_of (refused_converting t) ≡ Err (BrokenSlot i) → BrokenBy Ascii t i
  unfolding refused_converting converting_rows
  index_lowest i e = lowest_broken Ascii t i (answer_refused (first_of (table_rows_by Ascii t)) (BrokenSlot i) e)

  pub lowest_index : (i : ℕ) → BrokenBy Ascii t i → answer_of (refused_converting t) ≡ Err (BrokenSlot i)
  unfolding refused_converting converting_rows
  lowest_index i b = refused_is Err (Ok tt) (first_of (table_rows_by Ascii t)) (BrokenSlot i) (broken_refused Ascii t i b)

  pub was_sound_done : checked_by Ascii t ≡ Sound → answer_of (refused_converting t) ≡ Ok tt
  unfolding refused_converting converting_rows
  was_sound_done s = done_is Err (Ok tt) (first_of (table_rows_by Ascii t)) (sound_rows Ascii t s)

  module _ (e : answer_of (refused_converting t) ≡ Ok tt) where
    pub done_was_sound : checked_by Ascii t ≡ Sound
    unfolding refused_converting converting_rows
    done_was_sound = rows_sound Ascii t (answer_done (first_of (table_rows_by Ascii t)) e)

    module _ (o : AllOctets t) where
      left : left_by_converting t ≡ converted t
      left = left_done t (answer_done (refused_converting t) e)

      pub done_sound : checked (left_by_converting t) ≡ Sound
      done_sound = rw left (converted_sound t done_was_sound o)

      pub done_octets : AllOctets (left_by_converting t)
      done_octets = rw left (converted_octets t (table_by Ascii t done_was_sound) o)

      pub done_entry : (a : List ℕ) → entry_in (left_by_converting t) a ≡ gathered a t (slots t)
      done_entry a = rw left (converted_entry t (table_by Ascii t done_was_sound) o a)
