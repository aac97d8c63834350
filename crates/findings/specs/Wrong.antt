-- SCOPE, O3: when a fault is there, kind by kind. It is said by the fields themselves, and not by a list of faults.
--     field_at       the field at a place, counted from 1
--     fields_on      the fields of a block
--     fault          a block, a place and a kind
--     LookedAt       a field that is looked at
--     Stands         it stands at a place of a block
--     Wrong          a fault that is there
use Rattle.std.specs.Prelude.{ℕ, zero, suc, ◌-◌, ◌≡◌, true, false, List, [], ◌∷◌, take}
use Rattle.std.specs.Prelude.{Option, Some, None}
use Rattle.octets.specs.Options.{is_some}
use Rattle.header.specs.Header.{FieldText}
use Rattle.fields.specs.Fields.{is_kind, values_of}
use Rattle.fields.specs.declared.Kind.{Kind}
use Rattle.fields.specs.declared.Kind.TheVariants.{Autocrypt, AutocryptGossip}
use Rattle.addresslist.specs.List.{among}
use Rattle.slots.specs.Slot.{key_limit}
use Rattle.keyfield.specs.Field.{valid_for, valid_fields}
use Rattle.asked.specs.Asked.{occurs, named, has_key_data}
use Rattle.asked.specs.declared.Called.TheVariants.{PreferEncrypt, Unknown}
use Rattle.faults.specs.Faults.{Fault, no_valid, more_valid, wrong_address, unknown_attribute, key_data, gossip_outside, gossip_unlisted, gossip_preference}
use Rattle.lookover.specs.Looking.{side_number}
use Rattle.lookover.specs.declared.Side.{Side}
use Rattle.lookover.specs.declared.Side.TheVariants.{Outer, Payload}

-- O2: places count the fields of a block from 1, whatever their names
unfoldable pub field_at : List FieldText → ℕ → Option FieldText
field_at [] place = None
field_at (f ∷ fs) zero = None
field_at (f ∷ fs) (suc zero) = Some f
field_at (f ∷ fs) (suc (suc n)) = field_at fs (suc n)

abbrev pub fields_on : Side → List FieldText → List FieldText → List FieldText
fields_on Outer outer payload = outer
fields_on Payload outer payload = payload

-- O2: a fault by its numbers
abbrev pub fault : ℕ → ℕ → ℕ → Fault
fault block place kind = record { block = block; place = place; kind = kind }

-- a field of this name stands at this place of some
pub record Stands (fs : List FieldText) (place : ℕ) (kind : Kind) (f : FieldText) : Type 0 where
  pub there : field_at fs place ≡ Some f
  pub called : is_kind kind f.name ≡ true

-- O3: Autocrypt fields are looked at in the outer block alone, gossip fields in both
pub data LookedAt (outer payload : List FieldText) : Side → ℕ → FieldText → Type 0 where
  own : (place : ℕ) (f : FieldText) → Stands outer place Autocrypt f → LookedAt outer payload Outer place f
  gossip : (side : Side) (place : ℕ) (f : FieldText) → Stands (fields_on side outer payload) place AutocryptGossip f → LookedAt outer payload side place f

-- O3: a fault of a mail from this sender, in canonical form, to these recipients
pub data Wrong (sender : List ℕ) (recipients : List (List ℕ)) (outer payload : List FieldText) : Fault → Type 0 where
  -- 1, O5: no Autocrypt field of the outer block is valid
  no_valid_fault : valid_fields key_limit sender (values_of Autocrypt outer) ≡ [] → Wrong sender recipients outer payload (fault 0 0 no_valid)
  -- 2, O5: a valid Autocrypt field, and in front of it stands another
  more_valid_fault : (place : ℕ) (f : FieldText) → Stands outer place Autocrypt f → is_some (valid_for key_limit sender f.value) ≡ true
      → (valid_fields key_limit sender (values_of Autocrypt (take (place - 1) outer)) ≡ [] → ⊥)
      → Wrong sender recipients outer payload (fault 0 place more_valid)
  -- 3, O6: an Autocrypt field that does not name the sender
  wrong_address_fault : (place : ℕ) (f : FieldText) → Stands outer place Autocrypt f → (named f.value ≡ Some sender → ⊥)
      → Wrong sender recipients outer payload (fault 0 place wrong_address)
  -- 4, O7: a field of either name with an unknown attribute
  unknown_attribute_fault : (side : Side) (place : ℕ) (f : FieldText) → LookedAt outer payload side place f → occurs Unknown f.value ≡ true
      → Wrong sender recipients outer payload (fault (side_number side) place unknown_attribute)
  -- 5, O8: a field of either name without its key data
  key_data_fault : (side : Side) (place : ℕ) (f : FieldText) → LookedAt outer payload side place f → has_key_data f.value ≡ false
      → Wrong sender recipients outer payload (fault (side_number side) place key_data)
  -- 6: a gossip field of the outer block
  gossip_outside_fault : (place : ℕ) (f : FieldText) → Stands outer place AutocryptGossip f → Wrong sender recipients outer payload (fault 0 place gossip_outside)
  -- 7, O6: a gossip field that does not name a recipient
  gossip_unlisted_fault : (side : Side) (place : ℕ) (f : FieldText) → Stands (fields_on side outer payload) place AutocryptGossip f
      → ((a : List ℕ) → named f.value ≡ Some a → among a recipients ≡ true → ⊥)
      → Wrong sender recipients outer payload (fault (side_number side) place gossip_unlisted)
  -- 8, O9: a gossip field with a preference
  gossip_preference_fault : (side : Side) (place : ℕ) (f : FieldText) → Stands (fields_on side outer payload) place AutocryptGossip f
      → occurs PreferEncrypt f.value ≡ true
      → Wrong sender recipients outer payload (fault (side_number side) place gossip_preference)
