-- SCOPE, O2 to O9: what is wrong with the fields of a mail.
--     is_outer, side_number        the two blocks
--     is_valid                     a valid Autocrypt value
--     names_only, lists            a value with the sender's address, and with that of a recipient
--     own_flaws, gossip_flaws      what is wrong with a value of each name
--     is_own, flaws_of, valid_in   an Autocrypt field that counts, what is wrong with a field of a block, and whether it is a valid one
--     faults_from, valid_behind    the faults of fields from a place on, and whether one of these is valid
--     faults_in                    the faults of a block
--     missing, faults_of           those of both blocks
use Rattle.std.specs.Prelude.{ℕ, ◌+◌, Bool, true, false, not, cond, ◌&&◌, ◌||◌, List, [], ◌∷◌, ◌++◌}
use Rattle.std.specs.Prelude.{Option, Some, None}
use Rattle.octets.specs.Octets.{same_octets}
use Rattle.octets.specs.Options.{is_some}
use Rattle.header.specs.Header.{FieldText}
use Rattle.fields.specs.Fields.{is_kind}
use Rattle.fields.specs.declared.Kind.TheVariants.{Autocrypt, AutocryptGossip}
use Rattle.addresslist.specs.List.{among}
use Rattle.slots.specs.Slot.{key_limit}
use Rattle.keyfield.specs.Field.{valid_for}
use Rattle.asked.specs.Asked.{occurs, named, has_key_data}
use Rattle.asked.specs.declared.Called.TheVariants.{PreferEncrypt, Unknown}
use Rattle.faults.specs.Faults.{Fault, no_valid, no_flaws, kinds, faults_at}
use Rattle.faults.specs.declared.Flaws.{Flaws}
use Rattle.lookover.specs.declared.Side.{Side}
use Rattle.lookover.specs.declared.Side.TheVariants.{Outer, Payload}

abbrev pub is_outer : Side → Bool
is_outer Outer = true
is_outer Payload = false

-- O2: the number of a block
abbrev pub side_number : Side → ℕ
side_number Outer = 0
side_number Payload = 1

-- O5: an Autocrypt value is valid by F12, for the sender in canonical form
unfoldable pub is_valid : List ℕ → List ℕ → Bool
is_valid sender v = is_some (valid_for key_limit sender v)

-- O6: an address is this one, in canonical form
unfoldable pub is_just : List ℕ → Option (List ℕ) → Bool
is_just sender None = false
is_just sender (Some a) = same_octets a sender

-- O6: the value names the sender
unfoldable pub names_only : List ℕ → List ℕ → Bool
names_only sender v = is_just sender (named v)

-- O6: an address is one of some
unfoldable pub is_one_of : List (List ℕ) → Option (List ℕ) → Bool
is_one_of recipients None = false
is_one_of recipients (Some a) = among a recipients

-- O6: the value names a recipient
unfoldable pub lists : List (List ℕ) → List ℕ → Bool
lists recipients v = is_one_of recipients (named v)

-- O3: what is wrong with the value of an Autocrypt field: kinds 2 to 5. `seen` says whether a valid one stands before it
unfoldable pub own_flaws : List ℕ → Bool → List ℕ → Flaws
own_flaws sender seen v =
    record {
      more_valid = seen && is_valid sender v;
      wrong_address = not (names_only sender v);
      unknown_attribute = occurs Unknown v;
      key_data = not (has_key_data v);
      gossip_outside = false;
      gossip_unlisted = false;
      gossip_preference = false;
    }

-- O3: what is wrong with the value of a gossip field: kinds 4 to 8
unfoldable pub gossip_flaws : Side → List (List ℕ) → List ℕ → Flaws
gossip_flaws side recipients v =
    record {
      more_valid = false;
      wrong_address = false;
      unknown_attribute = occurs Unknown v;
      key_data = not (has_key_data v);
      gossip_outside = is_outer side;
      gossip_unlisted = not (lists recipients v);
      gossip_preference = occurs PreferEncrypt v;
    }

-- O3: Autocrypt fields are looked at in the outer block alone
unfoldable pub is_own : Side → FieldText → Bool
is_own side f = is_outer side && is_kind Autocrypt f.name

-- O3: what is wrong with a field of a block; gossip fields are looked at in both
unfoldable pub flaws_of : Side → List ℕ → List (List ℕ) → Bool → FieldText → Flaws
flaws_of side sender recipients seen f =
    cond (is_own side f) (own_flaws sender seen f.value)
    (cond (is_kind AutocryptGossip f.name) (gossip_flaws side recipients f.value)
    no_flaws)

-- O5: a valid Autocrypt field of the outer block
unfoldable pub valid_in : Side → List ℕ → FieldText → Bool
valid_in side sender f = is_own side f && is_valid sender f.value

-- O2, O4: the faults of fields of which the first has this place; `seen` says whether a valid one stands before them
unfoldable pub faults_from : Side → List ℕ → List (List ℕ) → Bool → ℕ → List FieldText → List Fault
faults_from side sender recipients seen place [] = []
faults_from side sender recipients seen place (f ∷ rest) =
    faults_at (side_number side) place (kinds (flaws_of side sender recipients seen f))
    ++ faults_from side sender recipients (seen || valid_in side sender f) (place + 1) rest

-- O5: one of the fields is valid
unfoldable pub valid_behind : Side → List ℕ → List FieldText → Bool
valid_behind side sender [] = false
valid_behind side sender (f ∷ rest) = valid_in side sender f || valid_behind side sender rest

-- O2: the faults of a block, whose first field has place 1
unfoldable pub faults_in : Side → List ℕ → List (List ℕ) → List FieldText → List Fault
faults_in side sender recipients fs = faults_from side sender recipients false 1 fs

-- O3: the fault of a mail that has no valid Autocrypt field
unfoldable pub missing : Bool → List Fault
missing true = []
missing false = record { block = 0; place = 0; kind = no_valid } ∷ []

-- O4: the faults of a mail, by the fields of its blocks
unfoldable pub faults_of : List ℕ → List (List ℕ) → List FieldText → List FieldText → List Fault
faults_of sender recipients outer payload =
    missing (valid_behind Outer sender outer) ++ (faults_in Outer sender recipients outer ++ faults_in Payload sender recipients payload)
