-- Heads worked out, by computing them (T3, T8).
--     empty_head_lem  the octets of an entry that holds an address only
--     alice_head      last seen and timestamp 1000, a mutual key of three octets, no gossip
--     alice_read      and the numbers that they read back as, behind any mark
--     mutual_alone, seen_below, seen_missing    what is not sound: by T8.9, T8.10, T8.10
-- Assumes nothing.
use Prim.Native.Nat.{ℕ}
use mathlib.Core.Path.{◌≡◌, refl}
use mathlib.Core.Bool.{true, false}
use mathlib.Core.List.{[], ◌∷◌}
use Rattle.octets.specs.Numbers.{number, digits}
use Rattle.heads.specs.declared.Head.{Head}
use Rattle.heads.specs.Head.{head_of, empty_head, seen_sound, direct_sound, head_seen, head_direct, bits_of, times, lengths, head_octets}

empty_head_lem : head_octets (empty_head 3)
    ≡ 3 ∷ 0 ∷ 0 ∷ 0 ∷ 0 ∷ 0 ∷ 0 ∷ 0 ∷ 0 ∷ 0 ∷ 0 ∷ 0 ∷ 0 ∷ 0 ∷ 0 ∷ 0 ∷ 0 ∷ 0 ∷ 0 ∷ 0 ∷ 0 ∷ 0 ∷ 0 ∷ 0 ∷ 0 ∷ 0 ∷ 0 ∷ 0 ∷ 0 ∷ 0 ∷ 0 ∷ 0 ∷ 0 ∷ 0 ∷ 0 ∷ 0 ∷ 0 ∷ 0 ∷ []
unfolding head_octets times lengths digits bits_of
empty_head_lem = refl

abbrev alice : Head
alice = head_direct 1000 3 true (head_seen 1000 (empty_head 15))

alice_head : head_octets alice
    ≡ 15 ∷ 0 ∷ 11 ∷ 0 ∷ 0 ∷ 0 ∷ 232 ∷ 3 ∷ 0 ∷ 0 ∷ 0 ∷ 0 ∷ 0 ∷ 0 ∷ 232 ∷ 3 ∷ 0 ∷ 0 ∷ 0 ∷ 0 ∷ 0 ∷ 0 ∷ 0 ∷ 0 ∷ 0 ∷ 0 ∷ 0 ∷ 0 ∷ 0 ∷ 0 ∷ 3 ∷ 0 ∷ 0 ∷ 0 ∷ 0 ∷ 0 ∷ 0 ∷ 0 ∷ []
unfolding head_octets times lengths digits bits_of
alice_head = refl

alice_read : (a b : ℕ) → head_of (a ∷ b ∷ head_octets alice) ≡ alice
unfolding head_of head_octets times lengths digits bits_of number
alice_read a b = refl

mutual_alone : direct_sound 2048 (record {
  address_length = 3;
  seen = true;
  direct = false;
  gossip = true;
  «mutual» = true;
  last_seen = 5;
  timestamp = 0;
  gossip_timestamp = 5;
  direct_length = 0;
  gossip_length = 3;
})
    ≡ false
mutual_alone = refl

seen_below : direct_sound 2048 (head_direct 1001 3 true (head_seen 1000 (empty_head 3))) ≡ false
seen_below = refl

seen_missing : seen_sound (head_direct 0 3 false (empty_head 3)) ≡ false
seen_missing = refl
