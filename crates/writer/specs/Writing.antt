-- SCOPE, W2 to W5: an Autocrypt or Autocrypt-Gossip field, as it is written.
--     addr_text .. key_text  what stands between the parts that a caller gives
--     preference             the attribute of the preference, where it is said
--     field_text             a field for an address that is written as it stands
--     written                the whole field of a name, an address, a preference and a key
use Rattle.std.specs.Prelude.{ℕ, Bool, true, false, List, [], ◌++◌}
use Rattle.octets.specs.Octets.{ascii}
use Rattle.letters.specs.Base64.{encode}
use Rattle.names.specs.Names as names
use Rattle.keylines.specs.Lines.{lines}
use Rattle.address.specs.Address.{canonical}

-- W2: what stands between name and address
abbrev pub addr_text : List ℕ
addr_text = ascii ": " ++ (names.addr ++ ascii "=")

-- W2: the attribute of the preference
abbrev pub prefer_text : List ℕ
prefer_text = ascii "; " ++ (names.prefer_encrypt ++ (ascii "=" ++ names.preferring))

-- W2: what stands before the lines of the key
abbrev pub key_text : List ℕ
key_text = ascii "; " ++ (names.keydata ++ ascii "=\r\n")

-- W3: the attribute is left out without mutual
unfoldable pub preference : Bool → List ℕ
preference true = prefer_text
preference false = []

-- W2: name, address, preference and key one behind the other. W4: the key in lines of Base64.
unfoldable pub field_text : List ℕ → List ℕ → Bool → List ℕ → List ℕ
field_text name address is_mutual key =
    name ++ addr_text ++ address ++ preference is_mutual ++ key_text ++ lines (encode key)

-- W5: the address is put into canonical form
unfoldable pub written : List ℕ → List ℕ → Bool → List ℕ → List ℕ
written name address is_mutual key = field_text name (canonical address) is_mutual key
