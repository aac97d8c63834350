-- What a table has of an address.
--     held_none .. held_gossip     each way through `entry_of`
--     holding                      what `entry_of` asks
--     by_held                      an answer is an entry or that there is none
--     held_in                      what is told of an entry in a slot
--     Tells t a e                  what the answer says: whose entry it is, and that its keys lie where it says
--     held_tells, held_not         of a sound table
-- Assumes nothing.
use Prim.Native.Nat.{ℕ, ◌+◌, ◌*◌, ◌<◌, ◌≤◌}
use mathlib.Core.Path.{◌≡◌, refl, sym, ◌∙◌}
use mathlib.Core.Bool.{true}
use Rattle.std.specs.Prelude.{Option, Some, None}
use mathlib.Core.List.{List}
use native.Mathlib.Omega.{arith}
use borrow.Author.Rules.{rules}
use mir.Syntax.{w64}
use mir.Val.{Fits}
use lib.ListN.{length, take, drop}
use Rattle.heads.specs.declared.Head.{Head}
use Rattle.heads.specs.Head.{head_of}
use Rattle.slots.specs.Slot.{direct_key_of, gossip_key_of, sound}
use Rattle.slots.specs.Entry.{entry_of}
use Rattle.slots.specs.Facts.{Sound as SoundSlot}
use Rattle.slots.proofs.Sounds.{sound_parts}
use Rattle.table.specs.Table.{slots, slot_at, found, checked}
use Rattle.table.specs.Tagged.{Open}
use Rattle.table.specs.Entries.{entry_in}
use Rattle.table.specs.declared.Checked.TheVariants.{Sound}
use Rattle.table.proofs.Slots.{room, area_octets}
use Rattle.table.proofs.Lowest.{by_found}
use Rattle.table.proofs.Finding.{found_at}
use Rattle.table.proofs.Entries.{entry_at, entry_nothing, entry_sound}
use Rattle.lookup.specs.Held.{held_at, held_of}
use Rattle.lookup.specs.declared.Held.{Held}

-- of an entry in slot i, with these numbers
abbrev pub held_in : ℕ → Head → Held
held_in i n = record { numbers = n; direct = i * 4392 + 296; gossip = i * 4392 + 2344 }

-- as the code has it: f is what `find` answered
module _ (t a : List ℕ) (f : Option ℕ) (e : f ≡ found t a) where
  pub held_none : f ≡ None → None ≡ held_of t a
  unfolding held_of held_at
  held_none q = rw (held_of, sym e ∙ q)

  module _ (i : ℕ) (q : f ≡ Some i) where
    pub held_at_lem : (n : Head) → n ≡ head_of (slot_at t i) → Some (held_in i n) ≡ held_of t a
    unfolding held_of held_at
    held_at_lem n p = rw (held_of, sym e ∙ q, p)

    pub held_within : i < slots t
    held_within = (found_at t a i (sym e ∙ q)).0

    -- the sums that the code makes
    module _ (tags : List ℕ) (o : Open t tags) where
      low : i < 256
      low = omega (arith, held_within, o.tagged.few)

      pub held_place : Fits w64 (i * 4392)
      held_place = record { fits = omega (arith, low) }

      pub held_direct : Fits w64 (i * 4392 + 296)
      held_direct = record { fits = omega (arith, low) }

      pub held_gossip : Fits w64 (i * 4392 + 2344)
      held_gossip = record { fits = omega (arith, low) }

pub ruleset holding = (held_none, held_at_lem, held_within, held_place, held_direct, held_gossip, rules)

pub by_held : {P : Type 0} (h : Option Held) → ((e : Held) → h ≡ Some e → P) → (h ≡ None → P) → P
by_held (Some e) a b = a e refl
by_held None a b = b refl

pub record Tells (t a : List ℕ) (e : Held) : Type 0 where
  pub slot : List ℕ
  pub whose : entry_in t a ≡ Some (entry_of slot)
  pub is_sound : sound slot ≡ true
  pub numbers : e.numbers ≡ head_of slot
  pub direct_lies : e.numbers.direct ≡ true
      → (take e.numbers.direct_length (drop e.direct t) ≡ direct_key_of slot) × (e.direct + e.numbers.direct_length ≤ length t)
  pub gossip_lies : e.numbers.gossip ≡ true
      → (take e.numbers.gossip_length (drop e.gossip t) ≡ gossip_key_of slot) × (e.gossip + e.numbers.gossip_length ≤ length t)

-- the entry in slot i
module _ (t a : List ℕ) (s : checked t ≡ Sound) (i : ℕ) (e : found t a ≡ Some i) where
  parts : SoundSlot (slot_at t i)
  parts = sound_parts (slot_at t i) (entry_sound t a s i e)

  ends : i * 4392 + 4392 ≤ length t
  ends = room t i (found_at t a i e).0

  slot_tells : Tells t a (held_in i (head_of (slot_at t i)))
  unfolding head_of direct_key_of gossip_key_of
  slot_tells =
      record {
        slot = slot_at t i;
        whose = entry_at t a i e;
        is_sound = entry_sound t a s i e;
        numbers = refl;
        direct_lies = λ b. (
          area_octets t i 296 2048 (head_of (slot_at t i)).direct_length (omega arith) (parts.direct_length_fits b).1,
          omega (arith, (parts.direct_length_fits b).1, ends),
        );
        gossip_lies = λ b. (
          area_octets t i 2344 2048 (head_of (slot_at t i)).gossip_length (omega arith) (parts.gossip_length_fits b).1,
          omega (arith, (parts.gossip_length_fits b).1, ends),
        );
      }

module _ (t a : List ℕ) where
  pub held_not : held_of t a ≡ None → entry_in t a ≡ None
  held_not q =
      by_found (found t a)
      (λ i e.
      let z : Some (held_in i (head_of (slot_at t i))) ≡ None = held_at_lem t a (found t a) refl i e (head_of (slot_at t i)) refl ∙ q in
      cc)
      (λ e. entry_nothing t a e)

  pub held_tells : checked t ≡ Sound → (e : Held) → held_of t a ≡ Some e → Tells t a e
  held_tells s e q =
      by_found (found t a)
      (λ i p.
      let z : Some (held_in i (head_of (slot_at t i))) ≡ Some e = held_at_lem t a (found t a) refl i p (head_of (slot_at t i)) refl ∙ q in
      let u : held_in i (head_of (slot_at t i)) ≡ e = cc in
      rw (← u) (slot_tells t a s i p))
      (λ p.
      let z : None ≡ Some e = held_none t a (found t a) refl p ∙ q in
      cc)
