-- What a piece comes to, behind what was read before it (SCOPE, F5 to F8).
--     Step                            the reading goes on, it is at the key data, or the field is spoiled
--     with_address, with_preference   an address, and a preference
--     step                            a piece, by what it says
use Rattle.std.specs.Prelude.{ℕ, Bool, cond, List}
use Rattle.std.specs.Prelude.{Option, Some, None}
use Rattle.octets.specs.Octets.{same_octets}
use Rattle.names.specs.Names as names
use Rattle.address.specs.Address.{plain}
use Rattle.attributes.specs.Attribute.{Attribute, addr, prefer_encrypt, keydata, ignored, spoiling}

-- The reading goes on with the address and the preference seen so far, it is at the key data, or the field is spoiled.
pub data Step : Type 0 where
  on : Option (List ℕ) → Option Bool → Step
  last : List ℕ → Step
  spoils : Step

-- F6: `addr` stands once, and its value is a plain address with nothing around it
unfoldable pub with_address : Option (List ℕ) → Option Bool → List ℕ → Step
with_address None preference v = cond (plain v) (on (Some v) preference) spoils
with_address (Some a) preference v = spoils

-- F7: `prefer-encrypt` may stand once; the value `mutual` is the preference, and any other says that there is none
unfoldable pub with_preference : Option (List ℕ) → Option Bool → List ℕ → Step
with_preference address None v = on address (Some (same_octets v names.preferring))
with_preference address (Some m) v = spoils

-- F8: `keydata` has to be the last piece. F5: an ignored piece changes nothing. F3, F5: a spoiling piece spoils the field.
unfoldable pub step : Option (List ℕ) → Option Bool → Attribute → Step
step address preference (addr v) = with_address address preference v
step address preference (prefer_encrypt v) = with_preference address preference v
step address preference (keydata v) = last v
step address preference ignored = on address preference
step address preference spoiling = spoils
