-- SCOPE, W8: the parts of a line as they are written, each column with the octet behind it.
--     direct_part    what a line says of the direct half, by the numbers of its slot
--     gossip_part    what it says of the gossip half
--     numbers_part   all that stands behind the address
use Rattle.std.specs.Prelude.{List, ◌++◌, ℕ}
use Rattle.octets.specs.Octets.{octet}
use Rattle.heads.specs.declared.Head.{Head}
use Rattle.heads.specs.Entry.{present}
use Rattle.columns.specs.Columns.{decimal, time_text, preference_text, ended}

-- W8: the Autocrypt timestamp, how long the direct key is, and the preference
unfoldable pub direct_part : Head → List ℕ
direct_part n =
    ended (time_text (present n.direct n.timestamp)) (octet " ")
    ++ (ended (decimal n.direct_length) (octet " ") ++ ended (preference_text n.«mutual») (octet " "))

-- W8: the gossip timestamp, how long the gossip key is, and the end of the line
unfoldable pub gossip_part : Head → List ℕ
gossip_part n =
    ended (time_text (present n.gossip n.gossip_timestamp)) (octet " ") ++ ended (decimal n.gossip_length) (octet "\n")

-- W8: last seen, and what the line says of the two halves
unfoldable pub numbers_part : Head → List ℕ
numbers_part n =
    ended (time_text (present n.seen n.last_seen)) (octet " ") ++ (direct_part n ++ gossip_part n)
