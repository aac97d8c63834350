-- The names that a field is read by and written with (SCOPE, pages F and W), each as its octets.
--     autocrypt, gossip               the two fields
--     addr, prefer_encrypt, keydata   their attributes
--     preferring                      the one value of the second that says something
use Rattle.std.specs.Prelude.{ℕ, List}
use Rattle.octets.specs.Octets.{ascii}

-- B12, W3: the field of the outer block
abbrev pub autocrypt : List ℕ
autocrypt = ascii "Autocrypt"

-- B12, W3: the field of the payload
abbrev pub gossip : List ℕ
gossip = ascii "Autocrypt-Gossip"

-- F6: the address
abbrev pub addr : List ℕ
addr = ascii "addr"

-- F7: the preference
abbrev pub prefer_encrypt : List ℕ
prefer_encrypt = ascii "prefer-encrypt"

-- F7: the value that is the preference
abbrev pub preferring : List ℕ
preferring = ascii "mutual"

-- F8: the key
abbrev pub keydata : List ℕ
keydata = ascii "keydata"
