-- SCOPE, T14: what a slot of the table holds, told as eleven numbers.
--     shown_count       how many
--     start_of, placed  start and length of a part of a slot, in the table: 0 and 0 where it is empty
--     told              the numbers of a slot: used or not, what octets 4 and 8 to 31 say, and where its three parts lie
--     used_at           is there such a slot, and is it used?
--     shown_at          the numbers of the slot at an index: zeros where it is free or past the end
--     Lies, Tells       what these numbers say of the entry
use Rattle.std.specs.Prelude.{ℕ, ◌+◌, ◌*◌, ◌≡◌, Bool, true, false, cond, ◌&&◌, List, [], ◌∷◌, ◌++◌, eqb, ltb, length, get_or, take, drop, replicate}
use Rattle.octets.specs.Options.{or_else}
use Rattle.heads.specs.declared.Head.{Head}
use Rattle.heads.specs.Head.{head_of, bits_of}
use Rattle.slots.specs.Slot.{slot_length, address_at, direct_at, gossip_at, marked}
use Rattle.heads.specs.Entry.{Entry, head_for, no_direct, no_gossip}
use Rattle.table.specs.Table.{slots, slot_at}

-- T14: eleven numbers tell a slot
abbrev pub shown_count : ℕ
shown_count = 11

-- T14: where n octets begin, counted from the table's first octet: they stand from the octet `offset` on of a slot that begins at the place `at`.
-- Of no octets it is 0
unfoldable pub start_of : ℕ → ℕ → ℕ → ℕ
start_of at offset n = cond (eqb n 0) 0 (at + offset)

-- T14: start and length of such a part, 0 and 0 where it is empty
unfoldable pub placed : ℕ → ℕ → ℕ → List ℕ
placed at offset n = start_of at offset n ∷ n ∷ []

-- T14, places 0 to 4: used or not, the bits, last seen, the Autocrypt timestamp and the gossip timestamp
unfoldable pub stated : ℕ → Head → List ℕ
stated used n = used ∷ bits_of n ∷ n.last_seen ∷ n.timestamp ∷ n.gossip_timestamp ∷ []

-- T14, places 5 to 10: start and length of address, direct key and gossip key
unfoldable pub parts : ℕ → Head → List ℕ
parts at n =
    placed at address_at n.address_length
    ++ (placed at direct_at n.direct_length ++ placed at gossip_at n.gossip_length)

-- T14: all eleven numbers
unfoldable pub told : ℕ → ℕ → Head → List ℕ
told used at n = stated used n ++ parts at n

-- T14: there is such a slot, and it is used
unfoldable pub used_at : List ℕ → ℕ → Bool
used_at t i = ltb i (slots t) && marked (slot_at t i)

-- T14: the numbers of the slot at an index; all are 0 where it is free, and where it is past the last slot
unfoldable pub shown_at : List ℕ → ℕ → List ℕ
shown_at t i =
    elim (used_at t i) [
      | true ↦ told 1 (i * slot_length) (head_of (slot_at t i))
      | false ↦ replicate shown_count 0
    ]

-- the two numbers from the place k on are start and length of the octets x in the table t; of no octets both are 0
pub record Lies (t w : List ℕ) (k : ℕ) (x : List ℕ) : Type 0 where
  pub long : get_or w (k + 1) 0 ≡ length x
  pub there : take (get_or w (k + 1) 0) (drop (get_or w k 0) t) ≡ x
  pub nowhere : x ≡ [] → get_or w k 0 ≡ 0

-- T14: the numbers w say what the entry e is, whose octets stand in the table t; what is absent is 0, and an empty part
pub record Tells (t : List ℕ) (e : Entry) (w : List ℕ) : Type 0 where
  pub count : length w ≡ shown_count
  pub used : get_or w 0 0 ≡ 1
  pub bits : get_or w 1 0 ≡ bits_of (head_for e)
  pub last_seen_told : get_or w 2 0 ≡ or_else 0 e.last_seen
  pub timestamp : get_or w 3 0 ≡ (or_else no_direct e.direct).timestamp
  pub gossip_timestamp_told : get_or w 4 0 ≡ (or_else no_gossip e.gossip).timestamp
  pub address : Lies t w 5 e.address
  pub direct_key : Lies t w 7 (or_else no_direct e.direct).key
  pub gossip_key_told : Lies t w 9 (or_else no_gossip e.gossip).key
