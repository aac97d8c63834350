-- R8: the count of the addresses that are new with a message.
--     Counts, count_begin .. count_full   the loop over the gossip
--     first_meets .. first_seated         the sender first
--     alone_own, alone_free               the sender and no other
-- Assumes nothing.
use Prim.Native.Nat.{ℕ, ◌-◌, ◌<◌, ◌≤◌}
use mathlib.Core.Path.{◌≡◌, refl, sym, ap, ◌∙◌}
use mathlib.Core.Bool.{Bool, true, false}
use mathlib.Core.List.{List, [], ◌∷◌}
use Rattle.std.specs.Prelude.{Option, Some, None}
use native.Mathlib.Omega.{arith}
use native.Mathlib.Nat.{sub-zero}
use borrow.Author.Rules.{rules}
use lib.Dec.{ltb}
use lib.ListN.{length, take, drop}
use Rattle.octets.specs.Options.{is_some}
use Rattle.header.specs.Answers.{fields_from}
use Rattle.addresslist.specs.List.{among}
use Rattle.table.specs.Table.{found, free_count}
use Rattle.roll.specs.Roll.{unrolled}
use Rattle.roll.specs.Growing.{in_roll}
use Rattle.roll.specs.declared.Rolled.{Rolled}
use Rattle.roll.proofs.Growing.{begin_none}
use Rattle.update.specs.Message.{Gossiped, gossip_addresses, newcomers}
use Rattle.fields.proofs.Values.{block_begin}
use Rattle.keys.specs.Answers.{gossip_from, Hears, HeardAt, HeardAs}
use Rattle.keys.specs.declared.Heard.{Heard}
use Rattle.keys.proofs.GossipFields.{gossip_all, heard_at, heard_less, heard_over}
use Rattle.room.specs.Room.{gossiped_in, room_beside}
use Rattle.room.specs.Counting.{Rolls, Meets, MetAs, RollsAs, Seats, Seeks}
use Rattle.room.proofs.Beside.{beside_over, beside_known, beside_new, beside_one, beside_full}
use Rattle.room.proofs.Meeting.{told_found, told_held, rolls_begin, met_list, met_full, met_rolls}

-- the addresses of the gossip from a place of the payload on
unfoldable pub gossiped_from : ℕ → List ℕ → List ℕ → ℕ → List (List ℕ)
gossiped_from limit recipients payload place = gossip_addresses (gossip_from limit (unrolled recipients) payload place)

-- The gossip up to a place is counted: there is room beside the old ones if there is room for the rest, beside those that are known now.
pub record Counts (t : List ℕ) (free limit : ℕ) (recipients payload : List ℕ) (old : List (List ℕ)) (known numbers spots : List ℕ) (at : Rolled) (place : ℕ) : Type 0 where
  pub so_far :
      room_beside t old (gossiped_in limit recipients payload) ≡ room_beside t (in_roll at known) (gossiped_from limit recipients payload place)
  pub rolls : Rolls t free known numbers spots at
  pub clear : is_some (fields_from payload place) ≡ true

module _ (t tags : List ℕ) (free limit : ℕ) (payload recipients listed places text known₀ numbers₀ spots₀ : List ℕ) (at₀ : Rolled)
    (k : Seats t tags free limit payload recipients listed places text known₀ numbers₀ spots₀ at₀) where
  pub count_begin : Counts t free limit recipients payload (in_roll at₀ known₀) known₀ numbers₀ spots₀ at₀ 0
  unfolding gossiped_in gossiped_from
  count_begin =
      record {
        so_far =
            ap (λ (gs : List Gossiped). room_beside t (in_roll at₀ known₀) (gossip_addresses gs))
            (sym (gossip_all limit (unrolled recipients) payload k.reads.readably));
        rolls = met_rolls t free known₀ numbers₀ spots₀ (Some at₀) k.rolls at₀ refl;
        clear = block_begin payload k.reads.readably;
      }

  module _ (old : List (List ℕ)) (known numbers spots : List ℕ) (at : Rolled) (place : ℕ)
      (h : Counts t free limit recipients payload old known numbers spots at place) where
    pub count_hears :
        (u address key : List ℕ) → length u ≡ length text → length address ≡ 256 → length key ≡ 2048
        → Hears limit payload place recipients listed places u address key
    count_hears u address key l m n =
        record {
          clear = h.clear;
          index = k.index;
          room = omega (arith, k.reads.room, l);
          room_for_address = omega (arith, m);
          key_room = omega (arith, k.most, n);
        }

    pub count_meets :
        (address key : List ℕ) (r : Option Heard) → HeardAs limit (unrolled recipients) payload place address key r → (w : Heard) → r ≡ Some w
        → Meets t tags free known numbers spots at (take (w.gossip.address - 0) (drop 0 address))
    count_meets address key r p w q =
        record {
          tagged = k.tagged;
          rolls = h.rolls;
          canonical = rw sub-zero (heard_at limit (unrolled recipients) payload place address key r p w q).canonical;
        }

module _ (t : List ℕ) (free limit : ℕ) (recipients payload : List ℕ) (old : List (List ℕ)) (known numbers spots : List ℕ) (at : Rolled) (place : ℕ)
    (h : Counts t free limit recipients payload old known numbers spots at place) (address key : List ℕ) (r : Option Heard)
    (p : HeardAs limit (unrolled recipients) payload place address key r) where
  pub count_over : r ≡ None → true ≡ room_beside t old (gossiped_in limit recipients payload)
  unfolding gossiped_from gossip_addresses
  count_over q =
      sym
      (h.so_far
      ∙ ap (λ (gs : List Gossiped). room_beside t (in_roll at known) (gossip_addresses gs))
      (heard_over limit (unrolled recipients) payload place address key r p q)
      ∙ beside_over t (in_roll at known) (omega (arith, h.rolls.shared, h.rolls.counted, h.rolls.kept.count)))

  module _ (w : Heard) (q : r ≡ Some w) where
    heard : HeardAt limit (unrolled recipients) payload place address key w
    heard = heard_at limit (unrolled recipients) payload place address key r p w q

    pub count_within : w.gossip.address ≤ length address
    count_within = heard.address_within

    pub count_less : length payload - w.end < length payload - place
    count_less = heard_less limit (unrolled recipients) payload place address key r p w q

    abbrev a : List ℕ
    a = take (w.gossip.address - 0) (drop 0 address)

    abbrev rest : List (List ℕ)
    rest = gossiped_from limit recipients payload w.end

    stands : room_beside t old (gossiped_in limit recipients payload) ≡ room_beside t (in_roll at known) (a ∷ rest)
    unfolding gossiped_from gossip_addresses
    stands =
        h.so_far
        ∙ ap (λ (gs : List Gossiped). room_beside t (in_roll at known) (gossip_addresses gs)) heard.first
        ∙ rw sub-zero

    module _ (out : List ℕ) (m : Option Rolled) (met : MetAs t (in_roll at known) (take (w.gossip.address - 0) (drop 0 address)) out m) where
      pub count_full : m ≡ None → false ≡ room_beside t old (gossiped_in limit recipients payload)
      count_full y =
          let f = met_full t (in_roll at known) a out m met y in
          sym (stands ∙ beside_full t (in_roll at known) a rest f.new f.full)

      pub count_on :
          (outs ends : List ℕ) → RollsAs t free out outs ends m → (behind : Rolled) → m ≡ Some behind
          → Counts t free limit recipients payload old out outs ends behind w.end
      count_on outs ends v behind y =
          record {
            so_far = stands ∙ beside_one t (in_roll at known) a rest ∙ rw (met_list t (in_roll at known) a out m met behind y);
            rolls = met_rolls t free out outs ends m v behind y;
            clear = heard.readable;
          }

pub ruleset counting = (count_begin, count_hears, count_within, count_less, count_meets, count_over, count_full, count_on, rules)

-- the sender first
pub first_meets :
    (t tags : List ℕ) (limit : ℕ) (sender payload recipients listed places text : List ℕ) → Seeks t tags limit sender payload recipients listed places text
    → (free : ℕ) (known numbers spots : List ℕ) (at : Rolled) → Rolls t free known numbers spots at → Meets t tags free known numbers spots at sender
first_meets t tags limit sender payload recipients listed places text h free known numbers spots at k =
    record { tagged = h.opened.tagged; rolls = k; canonical = h.canonical }

pub first_rolls :
    (t : List ℕ) (free : ℕ) (known numbers spots : List ℕ) (m : Option Rolled) → RollsAs t free known numbers spots m → (at : Rolled) → m ≡ Some at
    → RollsAs t free known numbers spots (Some at)
first_rolls t free known numbers spots m w at q = rw q at w

module _ (t known : List ℕ) (none : Rolled) (e : none.end ≡ 0) (sender out : List ℕ) (m : Option Rolled) (met : MetAs t (in_roll none known) sender out m)
    (gossiped : List (List ℕ)) where
  pub first_full : m ≡ None → false ≡ room_beside t [] (sender ∷ gossiped)
  first_full q =
      let f = met_full t (in_roll none known) sender out m met q in
      rw (← begin_none known none e) (sym (beside_full t (in_roll none known) sender gossiped f.new f.full))

  pub first_seated : (at : Rolled) → m ≡ Some at → (b : Bool) → b ≡ room_beside t (in_roll at out) gossiped → b ≡ room_beside t [] (sender ∷ gossiped)
  first_seated at q b r =
      r
      ∙ rw (met_list t (in_roll none known) sender out m met at q, ← begin_none known none e)
      (sym (beside_one t (in_roll none known) sender gossiped))

pub ruleset seating = (first_meets, first_rolls, first_full, first_seated, rolls_begin, rules)

-- the sender and no other
module _ (t sender : List ℕ) (f : Option ℕ) (e : f ≡ found t sender) where
  pub alone_own : (i : ℕ) → f ≡ Some i → true ≡ room_beside t [] (sender ∷ [])
  alone_own i q =
      sym (beside_known t [] sender [] (sym (told_found t sender f e [] i q)) ∙ beside_over t [] (omega arith))

  pub alone_free : f ≡ None → (free : ℕ) → free ≡ free_count t → ltb 0 free ≡ room_beside t [] (sender ∷ [])
  unfolding among room_beside newcomers
  alone_free q free h = rw h (sym (beside_new t [] sender [] (sym (told_held t sender f e [] q false refl))))

pub ruleset alone = (alone_own, alone_free, rules)
