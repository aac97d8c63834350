-- SCOPE, F13 and G5: the keys that a message brings, by the fields of its blocks. How many octets a key may have is said by `limit`.
--     counted_in               the Autocrypt field that counts
--     accepted, gossip_in      the accepted gossip fields
use Rattle.std.specs.Prelude.{ℕ, List}
use Rattle.std.specs.Prelude.{Option}
use Rattle.header.specs.Header.{FieldText}
use Rattle.keyfield.specs.Field.{Field, chosen, counted}
use Rattle.update.specs.Message.{Gossiped}
use Rattle.keyowner.specs.Owners.{accepted_for}
use Rattle.fields.specs.Fields.{values_of}
use Rattle.fields.specs.declared.Kind.TheVariants.{Autocrypt, AutocryptGossip}

-- F13: the field that counts, among all Autocrypt fields of the outer block (B12), for the sender in canonical form
unfoldable pub counted_in : ℕ → List FieldText → List ℕ → Option Field
counted_in limit fs sender = counted limit (values_of Autocrypt fs) sender

-- G5, G6: what the values of gossip fields bring, in order; those that are not accepted are left out
unfoldable pub accepted : ℕ → List (List ℕ) → List (List ℕ) → List Gossiped
accepted limit recipients values = chosen (accepted_for limit recipients) values

-- G5: the accepted gossip of the payload's fields, in their order; only those named Autocrypt-Gossip are looked at (B12)
unfoldable pub gossip_in : ℕ → List (List ℕ) → List FieldText → List Gossiped
gossip_in limit recipients payload = accepted limit recipients (values_of AutocryptGossip payload)
