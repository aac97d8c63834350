-- SCOPE, T2, T3, T5, T6 and T8: octets 2 to 39 of a slot, the numbers of its entry. They are read from the first 40 octets of any
-- list; the two in front are a mark.
--     part                       the octets from one place to another, both included
--     head_length, time_limit    how far a head goes, and the latest time
--     address_length .. gossip_length  the numbers, in the order in which they stand
--     head_of                    all of them, as the code's own `Head`
--     empty_head                 those of an entry that holds an address only
--     clear                      what is zero in every head
--     seen_sound, direct_sound, gossip_sound    the conditions on last seen and on the two halves
--     head_address .. head_gossip               what the writers change
--     bits_of .. head_octets     the 38 octets of a head
use Rattle.std.specs.Prelude.{ℕ, ◌+◌, ◌-◌, ◌/◌, ◌%◌, max, Bool, true, false, not, cond, ◌&&◌, ◌||◌, List, ◌++◌, leb, ltb, eqb, get_or, take, drop}
use Rattle.octets.specs.Octets.{all_zero}
use Rattle.octets.specs.Numbers.{number, digits}
use Rattle.octets.specs.Tests.{one_to}
use Rattle.heads.specs.declared.Head.{Head}

-- T3: the octets from the first place to the last, both included
abbrev pub part : ℕ → ℕ → List ℕ → List ℕ
part from to s = take (to + 1 - from) (drop from s)

-- T3: the mark and octets 2 to 39
abbrev pub head_length : ℕ
head_length = 40

-- T6: the largest time, the last second of the year 9999
abbrev pub time_limit : ℕ
time_limit = 253402300799

-- T3: octets 2 and 3, how long the address is
abbrev pub address_length : List ℕ → ℕ
address_length s = number (part 2 3 s)

-- T3, T5: octet 4 says what an entry has
abbrev pub bits : List ℕ → ℕ
bits s = get_or s 4 0

-- is the lowest bit of a number set?
abbrev pub odd : ℕ → Bool
odd n = eqb (n % 2) 1

-- T5: bit 0 stands for last seen
abbrev pub has_last_seen : List ℕ → Bool
has_last_seen s = odd (bits s)

-- T5: bit 1 stands for the direct half
abbrev pub has_direct : List ℕ → Bool
has_direct s = odd (bits s / 2)

-- T5: bit 2 stands for the gossip half
abbrev pub has_gossip : List ℕ → Bool
has_gossip s = odd (bits s / 4)

-- T5: bit 3 stands for the preference
abbrev pub is_mutual : List ℕ → Bool
is_mutual s = odd (bits s / 8)

-- T3: octets 8 to 15, the time of last seen
abbrev pub last_seen : List ℕ → ℕ
last_seen s = number (part 8 15 s)

-- T3: octets 16 to 23, the timestamp of the direct half
abbrev pub timestamp : List ℕ → ℕ
timestamp s = number (part 16 23 s)

-- T3: octets 24 to 31, the timestamp of the gossip half
abbrev pub gossip_timestamp : List ℕ → ℕ
gossip_timestamp s = number (part 24 31 s)

-- T3: octets 32 and 33, how long the direct key is
abbrev pub direct_length : List ℕ → ℕ
direct_length s = number (part 32 33 s)

-- T3: octets 34 and 35, how long the gossip key is
abbrev pub gossip_length : List ℕ → ℕ
gossip_length s = number (part 34 35 s)

-- T3: all numbers of a head
unfoldable pub head_of : List ℕ → Head
head_of s =
    record {
      address_length = address_length s;
      seen = has_last_seen s;
      direct = has_direct s;
      gossip = has_gossip s;
      «mutual» = is_mutual s;
      last_seen = last_seen s;
      timestamp = timestamp s;
      gossip_timestamp = gossip_timestamp s;
      direct_length = direct_length s;
      gossip_length = gossip_length s;
    }

-- U4: that of an address that has no entry yet: how long it is, and all else absent
abbrev pub empty_head : ℕ → Head
empty_head n =
    record {
      address_length = n;
      seen = false;
      direct = false;
      gossip = false;
      «mutual» = false;
      last_seen = 0;
      timestamp = 0;
      gossip_timestamp = 0;
      direct_length = 0;
      gossip_length = 0;
    }

-- T8.4: the four upper bits of octet 4 are clear, and the seven unused octets are zero
unfoldable pub clear : List ℕ → Bool
clear s = ltb (bits s) 16 && all_zero (part 5 7 s) && all_zero (part 36 39 s)

-- T8.5: last seen is within the largest time. T8.7: it is zero without its bit. T8.10: it is there beside a direct half.
abbrev pub seen_sound : Head → Bool
seen_sound n = leb n.last_seen time_limit && (n.seen || eqb n.last_seen 0) && (not n.direct || n.seen)

-- The direct half, for keys of at most `limit` octets. With its bit: a key of at least one octet (T8.6), and a timestamp that is
-- within the largest time (T8.5) and not above last seen (T8.10). Without its bit: zeros (T8.7), and no preference (T8.9).
abbrev pub direct_sound : ℕ → Head → Bool
direct_sound limit n =
    (not n.direct || one_to limit n.direct_length && leb n.timestamp time_limit && leb n.timestamp n.last_seen)
    && (n.direct || eqb n.timestamp 0 && eqb n.direct_length 0 && not n.«mutual»)

-- The gossip half, for keys of at most `limit` octets. With its bit: a key of at least one octet (T8.6), and a timestamp within the
-- largest time (T8.5), which may be above last seen (T11). Without its bit: zeros (T8.7).
abbrev pub gossip_sound : ℕ → Head → Bool
gossip_sound limit n =
    (not n.gossip || one_to limit n.gossip_length && leb n.gossip_timestamp time_limit)
    && (n.gossip || eqb n.gossip_timestamp 0 && eqb n.gossip_length 0)

-- T17: another address, of n octets
abbrev pub head_address : ℕ → Head → Head
head_address n h =
    record {
      address_length = n;
      seen = h.seen;
      direct = h.direct;
      gossip = h.gossip;
      «mutual» = h.«mutual»;
      last_seen = h.last_seen;
      timestamp = h.timestamp;
      gossip_timestamp = h.gossip_timestamp;
      direct_length = h.direct_length;
      gossip_length = h.gossip_length;
    }

-- U7: last seen is raised to the date, and is there from then on; an absent one counts as 0 (T8.7)
abbrev pub head_seen : ℕ → Head → Head
head_seen date n =
    record {
      address_length = n.address_length;
      seen = true;
      direct = n.direct;
      gossip = n.gossip;
      «mutual» = n.«mutual»;
      last_seen = max n.last_seen date;
      timestamp = n.timestamp;
      gossip_timestamp = n.gossip_timestamp;
      direct_length = n.direct_length;
      gossip_length = n.gossip_length;
    }

-- U8: timestamp, preference and a key of k octets replace the direct half
abbrev pub head_direct : ℕ → ℕ → Bool → Head → Head
head_direct t k m n =
    record {
      address_length = n.address_length;
      seen = n.seen;
      direct = true;
      gossip = n.gossip;
      «mutual» = m;
      last_seen = n.last_seen;
      timestamp = t;
      gossip_timestamp = n.gossip_timestamp;
      direct_length = k;
      gossip_length = n.gossip_length;
    }

-- G7: the timestamp and a key of k octets replace the gossip half. G8: all else stays.
abbrev pub head_gossip : ℕ → ℕ → Head → Head
head_gossip t k n =
    record {
      address_length = n.address_length;
      seen = n.seen;
      direct = n.direct;
      gossip = true;
      «mutual» = n.«mutual»;
      last_seen = n.last_seen;
      timestamp = n.timestamp;
      gossip_timestamp = t;
      direct_length = n.direct_length;
      gossip_length = k;
    }

-- T5: octet 4 is the sum of 1, 2, 4 and 8, each for what is there
unfoldable pub bits_of : Head → ℕ
bits_of n = cond n.seen 1 0 + cond n.direct 2 0 + cond n.gossip 4 0 + cond n.«mutual» 8 0

-- T3: octets 8 to 31, the three times. T2: a time takes eight octets.
unfoldable pub times : Head → List ℕ
times n = digits 8 n.last_seen ++ (digits 8 n.timestamp ++ digits 8 n.gossip_timestamp)

-- T3: octets 32 to 39, the lengths of both keys and four octets that are unused. T2: a length takes two octets.
unfoldable pub lengths : Head → List ℕ
lengths n = digits 2 n.direct_length ++ (digits 2 n.gossip_length ++ digits 4 0)

-- T3: octets 2 to 39: how long the address is, the bits, three octets that are unused, the times, the lengths
unfoldable pub head_octets : Head → List ℕ
head_octets n = digits 2 n.address_length ++ (digits 1 (bits_of n) ++ (digits 3 0 ++ (times n ++ lengths n)))
