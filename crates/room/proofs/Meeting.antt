-- One address, and the roll of those that are known to be new.
--     told_found .. told_rolled    whether it is new
--     rolls_begin                  the roll of none
--     meet_asks .. meet_none       what comes of it
--     met_list .. met_rolls        what a caller asks of the answer
-- Assumes nothing.
use Prim.Native.Nat.{ℕ, ◌+◌, ◌-◌, ◌≤◌}
use mathlib.Core.Path.{◌≡◌, sym, ap, ◌∙◌}
use mathlib.Core.Bool.{Bool, true, false, not}
use mathlib.Core.List.{List, [], ◌∷◌}
use Rattle.std.specs.Prelude.{Option, Some, None}
use native.Mathlib.Omega.{arith}
use borrow.Author.Rules.{rules}
use lib.ListN.{length, take, drop, length-append}
use Rattle.octets.specs.Tests.{every}
use Rattle.octets.proofs.Every.{every_append}
use Rattle.address.specs.Address.{is_canonical}
use Rattle.addresslist.specs.List.{among}
use Rattle.table.specs.Table.{found, free_count, checked}
use Rattle.table.specs.declared.Checked.TheVariants.{Sound}
use Rattle.table.proofs.Entries.{slots_most}
use Rattle.table.proofs.Lowest.{free_most}
use Rattle.roll.specs.Roll.{unrolled}
use Rattle.roll.specs.Growing.{in_roll, Kept, Adds, Grew}
use Rattle.roll.specs.declared.Rolled.{Rolled}
use Rattle.roll.proofs.Growing.{begin_none, kept_begin, kept_list, adds_one}
use Rattle.room.specs.Room.{is_new, with_new}
use Rattle.room.specs.Counting.{Asks, Rolls, Meets, IsTooMany, MetAs, RollsAs}

module _ (t a : List ℕ) (f : Option ℕ) (e : f ≡ found t a) where
  pub told_found : (old : List (List ℕ)) (i : ℕ) → f ≡ Some i → false ≡ is_new t old a
  unfolding is_new
  told_found old i q = rw (← e, q)

  pub told_held : (old : List (List ℕ)) → f ≡ None → (b : Bool) → b ≡ among a old → not b ≡ is_new t old a
  unfolding is_new
  told_held old q b h = rw (← e, q, h)

  -- by the part of the memory that is the roll
  pub told_rolled :
      (tags known numbers spots : List ℕ) (at : Rolled) → Asks t tags known numbers spots at a → f ≡ None → (b : Bool)
      → b ≡ among a (unrolled (take (at.end - 0) (drop 0 known))) → not b ≡ is_new t (in_roll at known) a
  told_rolled tags known numbers spots at k q b h =
      told_held (in_roll at known) q b (h ∙ ap (among a) (kept_list known numbers spots at k.kept))

pub rolls_begin :
    (t known numbers spots : List ℕ) (free : ℕ) (at : Rolled) → at.end ≡ 0 → at.many ≡ 0 → free ≡ free_count t → checked t ≡ Sound
    → length known ≡ 65536 → length numbers ≡ 256 → length spots ≡ 256 → Rolls t free known numbers spots at
unfolding every
rolls_begin t known numbers spots free at e n f s l m o =
    record {
      kept = kept_begin known numbers spots at e n;
      own = rw (begin_none known at e);
      counted = f;
      shared = omega (arith, n);
      few = omega (arith, f, free_most t, slots_most t s);
      octets = l;
      wide = m;
      roomy = o;
    }

module _ (t tags : List ℕ) (free : ℕ) (known numbers spots : List ℕ) (at : Rolled) (a : List ℕ) (m : Meets t tags free known numbers spots at a) where
  pub meet_asks : Asks t tags known numbers spots at a
  meet_asks = record { tagged = m.tagged; kept = m.rolls.kept; canonical = m.canonical }

  pub meet_shared : at.many ≤ free
  meet_shared = m.rolls.shared

  pub meet_stays : RollsAs t free known numbers spots (Some at)
  unfolding RollsAs
  meet_stays = m.rolls

  -- there is a free slot for one more
  module _ (g : free - at.many ≡ 0 → ⊥) where
    one_more : at.many + 1 ≤ free
    one_more = omega (arith, m.rolls.shared, g)

    pub meet_adds : Adds known numbers spots at (a ∷ [])
    meet_adds =
        adds_one known numbers spots at m.rolls.kept m.rolls.own a m.canonical
        (omega (arith, one_more, m.rolls.few))
        m.rolls.octets
        (omega (arith, m.rolls.wide))
        (omega (arith, m.rolls.roomy))

    pub meet_grown :
        (out outs places : List ℕ) (r : Rolled) → Grew known at (a ∷ []) out r → Kept out outs places r → length out ≡ length known
        → length outs ≡ length numbers → length places ≡ length spots → RollsAs t free out outs places (Some r)
    unfolding RollsAs every
    meet_grown out outs places r w k l n o =
        record {
          kept = k;
          own = rw (w.grown, every_append is_canonical (in_roll at known) (a ∷ []), m.rolls.own, m.canonical);
          counted = m.rolls.counted;
          shared =
              omega (
                arith,
                one_more,
                k.count,
                ap length w.grown,
                length-append (in_roll at known) (a ∷ []),
                m.rolls.kept.count,
              );
          few = m.rolls.few;
          octets = l ∙ m.rolls.octets;
          wide = n ∙ m.rolls.wide;
          roomy = o ∙ m.rolls.roomy;
        }

  module _ (b : Bool) (e : b ≡ is_new t (in_roll at known) a) where
    pub meet_known : b ≡ false → MetAs t (in_roll at known) a known (Some at)
    unfolding MetAs with_new
    meet_known y = rw (with_new, ← e, y)

    module _ (y : b ≡ true) where
      pub meet_full : free - at.many ≡ 0 → (out : List ℕ) → MetAs t (in_roll at known) a out None
      unfolding MetAs
      meet_full g out =
          record {
            new = sym e ∙ y;
            full = omega (arith, g, m.rolls.shared, m.rolls.counted, m.rolls.kept.count);
          }

      pub meet_added : (out : List ℕ) (r : Rolled) → Grew known at (a ∷ []) out r → MetAs t (in_roll at known) a out (Some r)
      unfolding MetAs with_new
      meet_added out r w = rw (with_new, ← e, y) w.grown

pub meet_none : (t : List ℕ) (free : ℕ) (known numbers spots : List ℕ) → RollsAs t free known numbers spots None
unfolding RollsAs
meet_none t free known numbers spots = tt

pub ruleset meeting =
    (meet_asks, meet_shared, meet_stays, meet_adds, meet_grown, meet_known, meet_full, meet_added, meet_none, rules)

-- as a caller asks it of an answer m
module _ (t : List ℕ) (old : List (List ℕ)) (a known : List ℕ) (m : Option Rolled) (p : MetAs t old a known m) where
  pub met_list : (r : Rolled) → m ≡ Some r → in_roll r known ≡ with_new t old a
  unfolding MetAs
  met_list r q = rw q at p

  pub met_full : m ≡ None → IsTooMany t old a
  unfolding MetAs
  met_full q = rw q at p

pub met_rolls :
    (t : List ℕ) (free : ℕ) (known numbers spots : List ℕ) (m : Option Rolled) → RollsAs t free known numbers spots m → (r : Rolled) → m ≡ Some r
    → Rolls t free known numbers spots r
unfolding RollsAs
met_rolls t free known numbers spots m p r q = rw q at p
