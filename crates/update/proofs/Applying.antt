-- A message applied whole (U2): the table stays sound (C4), and the entry of every address is what the message makes of it.
--     gossip_canonical                     the addresses of good gossip are canonical
--     heard_all_append                     gossip behind gossip
--     heard_all_sound, heard_all_octets    the gossip of a message
--     heard_all_entry                      and what it makes of an entry, where there is room
--     sender_sound, sender_octets          the sender's part
--     applied_sound, applied_octets, applied_entry    the whole message
-- Assumes nothing.
use Prim.Native.Nat.{ℕ, ◌≤◌}
use mathlib.Core.Path.{◌≡◌, refl, ◌∙◌}
use mathlib.Core.Bool.{true}
use mathlib.Core.List.{List, [], ◌∷◌, ◌++◌}
use borrow.Author.Tests.{leb-true}
use lib.ListN.{length}
use Rattle.octets.specs.Octets.{AllOctets}
use Rattle.octets.specs.Tests.{every}
use Rattle.address.specs.Address.{is_canonical}
use Rattle.heads.specs.Head.{time_limit}
use Rattle.table.specs.Table.{free_count, checked}
use Rattle.table.specs.Entries.{entry_in}
use Rattle.table.specs.declared.Checked.TheVariants.{Sound}
use Rattle.update.specs.Update.{updated, heard, put}
use Rattle.update.specs.Message.{Gossiped, Message, gossip_addresses, addresses_of, newcomers, has_room, heard_all, applied, entry_heard, entry_after, GoodGossiped, GoodGossipeds, GoodMessage}
use Rattle.update.proofs.Putting.{Keeps, keeps_updated, keeps_heard, put_sound, put_octets, put_entry}
use Rattle.update.proofs.Room.{room_first, room_rest}

pub gossip_canonical : (gs : List Gossiped) → GoodGossipeds gs → every is_canonical (gossip_addresses gs) ≡ true
unfolding GoodGossipeds gossip_addresses every
gossip_canonical [] h = refl
gossip_canonical (g ∷ gs) h = rw h.0.canonical (gossip_canonical gs h.1)

pub heard_all_append : (date : ℕ) (x y : List Gossiped) (t : List ℕ) → heard_all date (x ++ y) t ≡ heard_all date y (heard_all date x t)
unfolding heard_all
heard_all_append date [] y t = refl
heard_all_append date (g ∷ x) y t = heard_all_append date x y (put t g.address (heard date g.key))

module _ (date : ℕ) (d : date ≤ time_limit) where
  -- one accepted field
  module _ (t : List ℕ) (g : Gossiped) (h : GoodGossiped g) (s : checked t ≡ Sound) (o : AllOctets t) where
    keeps : Keeps (heard date g.key)
    keeps = keeps_heard date d g.key h.key

    one_sound : checked (put t g.address (heard date g.key)) ≡ Sound
    one_sound = put_sound t g.address h.canonical h.octets (heard date g.key) keeps s o

    one_octets : AllOctets (put t g.address (heard date g.key))
    one_octets = put_octets t g.address h.canonical h.octets (heard date g.key) keeps s o

  pub heard_all_sound : (gs : List Gossiped) → GoodGossipeds gs → (t : List ℕ) → checked t ≡ Sound → AllOctets t → checked (heard_all date gs t) ≡ Sound
  unfolding heard_all GoodGossipeds
  heard_all_sound [] h t s o = s
  heard_all_sound (g ∷ gs) h t s o =
      heard_all_sound gs h.1 (put t g.address (heard date g.key)) (one_sound t g h.0 s o) (one_octets t g h.0 s o)

  pub heard_all_octets : (gs : List Gossiped) → GoodGossipeds gs → (t : List ℕ) → checked t ≡ Sound → AllOctets t → AllOctets (heard_all date gs t)
  unfolding heard_all GoodGossipeds
  heard_all_octets [] h t s o = o
  heard_all_octets (g ∷ gs) h t s o =
      heard_all_octets gs h.1 (put t g.address (heard date g.key)) (one_sound t g h.0 s o) (one_octets t g h.0 s o)

  pub heard_all_entry : (gs : List Gossiped) → GoodGossipeds gs → (t : List ℕ) → checked t ≡ Sound → AllOctets t
      → length (newcomers t [] (gossip_addresses gs)) ≤ free_count t → (b : List ℕ) → entry_in (heard_all date gs t) b ≡ entry_heard date gs b (entry_in t b)
  unfolding heard_all entry_heard GoodGossipeds gossip_addresses
  heard_all_entry [] h t s o r b = refl
  heard_all_entry (g ∷ gs) h t s o r b =
      let k : Keeps (heard date g.key) = keeps t g h.0 s o in
      heard_all_entry gs h.1 (put t g.address (heard date g.key)) (one_sound t g h.0 s o) (one_octets t g h.0 s o)
      (room_rest t g.address (gossip_addresses gs) r h.0.canonical (gossip_canonical gs h.1) h.0.octets (heard date g.key) k s o)
      b
      ∙ rw (put_entry t g.address h.0.canonical h.0.octets (heard date g.key) k s o (room_first t g.address (gossip_addresses gs) r) b)

module _ (t : List ℕ) (m : Message) (g : GoodMessage m) (s : checked t ≡ Sound) (o : AllOctets t) where
  sender_keeps : Keeps (updated m.date m.direct)
  sender_keeps = keeps_updated m.date g.in_range m.direct g.direct

  pub sender_sound : checked (put t m.sender (updated m.date m.direct)) ≡ Sound
  sender_sound = put_sound t m.sender g.canonical g.octets (updated m.date m.direct) sender_keeps s o

  pub sender_octets : AllOctets (put t m.sender (updated m.date m.direct))
  sender_octets = put_octets t m.sender g.canonical g.octets (updated m.date m.direct) sender_keeps s o

  pub applied_sound : checked (applied t m) ≡ Sound
  unfolding applied
  applied_sound =
      heard_all_sound m.date g.in_range m.gossip g.gossip (put t m.sender (updated m.date m.direct)) sender_sound sender_octets

  pub applied_octets : AllOctets (applied t m)
  unfolding applied
  applied_octets =
      heard_all_octets m.date g.in_range m.gossip g.gossip (put t m.sender (updated m.date m.direct)) sender_sound sender_octets

  pub applied_entry : has_room t m ≡ true → (b : List ℕ) → entry_in (applied t m) b ≡ entry_after m b (entry_in t b)
  unfolding applied entry_after has_room addresses_of
  applied_entry h b =
      let r : length (newcomers t [] (m.sender ∷ gossip_addresses m.gossip)) ≤ free_count t = leb-true _ (free_count t) h in
      heard_all_entry m.date g.in_range m.gossip g.gossip (put t m.sender (updated m.date m.direct)) sender_sound sender_octets
      (room_rest t m.sender (gossip_addresses m.gossip) r g.canonical (gossip_canonical m.gossip g.gossip) g.octets (updated m.date m.direct) sender_keeps s o)
      b
      ∙ rw (put_entry t m.sender g.canonical g.octets (updated m.date m.direct) sender_keeps s o (room_first t m.sender (gossip_addresses m.gossip) r) b)
