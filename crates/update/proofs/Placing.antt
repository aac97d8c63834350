-- The slot of an address, begun where it has none, and what `put` leaves there.
--     begun_own, begun_new, begun_full    the three ways that an address is placed
--     begun_found                         a new entry stands in the slot that was lowest
--     begun_sound, begun_octets           the table stays sound, and its octets octets
--     put_at, put_nothing                 the table with the entry changed, and where there was no slot
--     placing                             what `place` asks
-- Assumes nothing.
use Rattle.std.specs.Prelude.{Option, Some, None}
use Prim.Native.Nat.{ℕ}
use mathlib.Core.Path.{◌≡◌, sym, ◌∙◌}
use mathlib.Core.Bool.{true}
use mathlib.Core.List.{List}
use borrow.Author.Rules.{rules}
use mir.Syntax.{w8}
use mir.Val.{Fits}
use lib.ListN.{get_or}
use Rattle.octets.specs.Octets.{AllOctets}
use Rattle.octets.proofs.Lists.{given_octets}
use Rattle.address.specs.Address.{is_canonical}
use Rattle.heads.specs.Entry.{Entry, newcomer}
use Rattle.slots.specs.Entry.{entry_of, slot_of, Good}
use Rattle.slots.proofs.Made.{slot_octets}
use Rattle.heads.proofs.Goodness.{good_newcomer}
use Rattle.table.specs.Table.{slot_at, with_slot, found, lowest_free, checked}
use Rattle.table.specs.Tagged.{Tagged, Open, Begins}
use Rattle.table.specs.declared.Checked.TheVariants.{Sound}
use Rattle.table.proofs.Finding.{found_nothing, free_at}
use Rattle.table.proofs.Keeping.{table_sound, write_new}
use Rattle.table.proofs.Replaced.{found_written, written_octets}
use Rattle.table.proofs.Lowest.{by_found}
use Rattle.update.specs.Update.{begun_at, begun, changed_at, put}

module _ (t a : List ℕ) where
  pub begun_own : (i : ℕ) → found t a ≡ Some i → begun t a ≡ t
  unfolding begun
  begun_own i e = rw (begun, e)

  module _ (e : found t a ≡ None) where
    pub begun_new : (i : ℕ) → lowest_free t ≡ Some i → begun t a ≡ with_slot t i (slot_of (newcomer a))
    unfolding begun begun_at
    begun_new i f = rw (begun, e, f)

    pub begun_full : lowest_free t ≡ None → begun t a ≡ t
    unfolding begun begun_at
    begun_full f = rw (begun, e, f)

  module _ (change : Entry → Entry) where
    pub put_at : (i : ℕ) → found (begun t a) a ≡ Some i → put t a change ≡ with_slot (begun t a) i (slot_of (change (entry_of (slot_at (begun t a) i))))
    unfolding put changed_at
    put_at i e = rw e

    pub put_nothing : found (begun t a) a ≡ None → put t a change ≡ begun t a
    unfolding put changed_at
    put_nothing e = rw e

  module _ (c : is_canonical a ≡ true) (o : AllOctets a) where
    new : Good (newcomer a)
    new = good_newcomer a c o

    pub begun_found : (i : ℕ) → found t a ≡ None → lowest_free t ≡ Some i → found (begun t a) a ≡ Some i
    unfolding newcomer
    begun_found i e f =
        rw (begun_new e i f) (found_written t i (free_at t i f).0 (newcomer a) new (λ j k d. found_nothing t a e j k))

    pub begun_sound : checked t ≡ Sound → checked (begun t a) ≡ Sound
    unfolding newcomer
    begun_sound s =
        by_found (found t a) (λ i e. rw (begun_own i e) s)
        (λ e.
        by_found (lowest_free t) (λ i f. rw (begun_new e i f) (write_new t (table_sound t s) (newcomer a) new i (free_at t i f).0 e))
        (λ f. rw (begun_full e f) s))

    pub begun_octets : AllOctets t → AllOctets (begun t a)
    begun_octets p =
        by_found (found t a) (λ i e. rw (begun_own i e) p)
        (λ e.
        by_found (lowest_free t) (λ i f. rw (begun_new e i f) (written_octets t (slot_of (newcomer a)) i p (slot_octets (newcomer a) new)))
        (λ f. rw (begun_full e f) p))

-- as the code has it: f and g are what the calls answered, u what `begin` left
module _ (t a : List ℕ) (f : Option ℕ) (ef : f ≡ found t a) where
  module _ (i : ℕ) (ei : f ≡ Some i) where
    pub own_place : Some i ≡ found (begun t a) a
    own_place = rw (begun_own t a i (sym ef ∙ ei)) (sym ei ∙ ef)

    pub own_table : t ≡ begun t a
    own_table = sym (begun_own t a i (sym ef ∙ ei))

  module _ (en : f ≡ None) (g : Option ℕ) (eg : g ≡ lowest_free t) where
    module _ (i : ℕ) (ei : g ≡ Some i) where
      pub new_place : is_canonical a ≡ true → ((j : ℕ) → Fits w8 (get_or a j 0)) → Some i ≡ found (begun t a) a
      new_place c o = sym (begun_found t a c (given_octets a o) i (sym ef ∙ en) (sym eg ∙ ei))

      pub new_table : (u : List ℕ) → u ≡ with_slot t i (slot_of (newcomer a)) → u ≡ begun t a
      new_table u e = e ∙ sym (begun_new t a (sym ef ∙ en) i (sym eg ∙ ei))

      pub new_open : (u tags tags₂ : List ℕ) → u ≡ with_slot t i (slot_of (newcomer a)) → Tagged u tags₂ → Open t tags → is_canonical a ≡ true
          → ((j : ℕ) → Fits w8 (get_or a j 0)) → Open u tags₂
      new_open u tags tags₂ e h s c o =
          record { sound = rw (new_table u e) (begun_sound t a c (given_octets a o) s.sound); tagged = h }

    module _ (ei : g ≡ None) where
      pub full_place : None ≡ found (begun t a) a
      full_place = rw (begun_full t a (sym ef ∙ en) (sym eg ∙ ei)) (sym en ∙ ef)

      pub full_table : t ≡ begun t a
      full_table = sym (begun_full t a (sym ef ∙ en) (sym eg ∙ ei))

-- what `begin` asks for, and the table that it leaves
pub begin_asks : (t tags a : List ℕ) (i : ℕ) (g : Option ℕ) → g ≡ lowest_free t → g ≡ Some i → Open t tags → is_canonical a ≡ true → Begins t tags i a
begin_asks t tags a i g eg ei o c = record { within = (free_at t i (sym eg ∙ ei)).0; canonical = c; tagged = o.tagged }

pub ruleset placing = (own_place, own_table, new_place, new_table, new_open, full_place, full_table, begin_asks, rules)
