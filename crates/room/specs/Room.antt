-- SCOPE, R8: whether there is a free slot for each address that is new with a message, address by address.
--     is_new         an address has no entry, and is not known yet to be new
--     with_new       those that are known to be new, behind one more address
--     gossiped_in    the addresses that there is accepted gossip about
--     room_beside    a free slot for each that is new, beside those that are known to be
use Rattle.std.specs.Prelude.{ℕ, ◌+◌, Bool, cond, not, ◌||◌, List, [], ◌∷◌, ◌++◌, leb, length}
use Rattle.addresslist.specs.List.{among}
use Rattle.table.specs.Table.{found, is_at, free_count}
use Rattle.update.specs.Message.{gossip_addresses, newcomers}
use Rattle.keys.specs.Answers.{gossip_of}

-- R8: an address is new that has no entry and was not counted before
unfoldable pub is_new : List ℕ → List (List ℕ) → List ℕ → Bool
is_new t known a = not (is_at (found t a) || among a known)

-- R8: those that are known to be new, once one more address was looked at
unfoldable pub with_new : List ℕ → List (List ℕ) → List ℕ → List (List ℕ)
with_new t known a = cond (is_new t known a) (known ++ (a ∷ [])) known

-- R8, G6: the addresses of accepted gossip, by the roll of the recipients and the payload, where a key has at most `limit` octets
unfoldable pub gossiped_in : ℕ → List ℕ → List ℕ → List (List ℕ)
gossiped_in limit recipients payload = gossip_addresses (gossip_of limit recipients payload)

-- R8: there are free slots for those that are known to be new and for each of the addresses that is new beside them
unfoldable pub room_beside : List ℕ → List (List ℕ) → List (List ℕ) → Bool
room_beside t known addresses = leb (length known + length (newcomers t known addresses)) (free_count t)
