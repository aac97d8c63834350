-- SCOPE, C6: what can be written, what it is to read it back, and where it stands in a block.
--     Writable          what a field can be written for: a plain address, and a key of 1 to 2,048 octets
--     Lines s fs        the text s is whole fields, one behind the other, and fs are these
--     in_front_all      fields in front of others, where these are readable
--     ReadsBack         octets that are read as one field, with this name, address, preference and key
--     Holding           a block that holds octets among other whole fields: where they stand
--     behind, others    the fields behind them, and all but them
use Rattle.std.specs.Prelude.{ℕ, ◌<◌, ◌≡◌, Bool, true, false, List, [], ◌∷◌, ◌++◌, length, get_or}
use Rattle.std.specs.Prelude.{Option, Some}
use Rattle.octets.specs.Octets.{octet, AllOctets}
use Rattle.octets.specs.Options.{in_front, or_else}
use Rattle.octets.specs.Tests.{one_to}
use Rattle.runs.specs.Runs.{belongs, run_length}
use Rattle.runs.specs.declared.Class.TheVariants.{Name, Blank}
use Rattle.header.specs.Header.{unfolded, FieldText, fields}
use Rattle.header.specs.Blocks.{is_raw}
use Rattle.address.specs.Address.{plain, canonical}
use Rattle.slots.specs.Slot.{key_limit}
use Rattle.keyfield.specs.Field.{field_of}

-- R9, R11: what a field can be written for, so that the writers refuse neither address nor key
pub record Writable (address key : List ℕ) : Type 0 where
  pub plainly : plain address ≡ true
  pub octets : AllOctets key
  pub limit : one_to key_limit (length key) ≡ true

-- B7, B9: a whole field is its name, a colon and a value with its line endings; it is read with the value unfolded
pub data Lines : List ℕ → List FieldText → Type 0 where
  none : Lines [] []
  one : (name raw rest : List ℕ) (fs : List FieldText) → run_length Name name ≡ length name → 0 < length name → is_raw raw ≡ true → Lines rest fs
      → Lines (name ++ (octet ":" ∷ (raw ++ rest))) (record { name = name; value = unfolded raw } ∷ fs)

-- fields in front of others, none where the others are unreadable
unfoldable pub in_front_all : List FieldText → Option (List FieldText) → Option (List FieldText)
in_front_all [] others = others
in_front_all (f ∷ fs) others = in_front f (in_front_all fs others)

-- C6: octets that are read back. Among whole fields, and before a text that does not open with space or tab, they are one field, which has this
-- name, and its value says this address in canonical form, this preference and this key.
pub record ReadsBack (name address key : List ℕ) (m : Bool) (octets : List ℕ) : Type 0 where
  pub found : FieldText
  pub named : found.name ≡ name
  pub says : field_of key_limit found.value ≡ Some (record { address = canonical address; is_mutual = m; key = key })
  pub among : (s : List ℕ) (fs : List FieldText) → Lines s fs → (rest : List ℕ) → belongs Blank (get_or rest 0 0) ≡ false
      → fields (s ++ (octets ++ rest)) ≡ in_front_all fs (in_front found (fields rest))

-- C6, C7, C8: whole fields stand in front of the octets, and what follows does not continue them
pub record Holding (block octets : List ℕ) : Type 0 where
  pub front : List ℕ
  pub before : List FieldText
  pub whole_fields : Lines front before
  pub rest : List ℕ
  pub no_continuation : belongs Blank (get_or rest 0 0) ≡ false
  pub is : block ≡ front ++ (octets ++ rest)

module _ {block octets : List ℕ} (h : Holding block octets) where
  -- the fields behind the octets
  unfoldable pub behind : List FieldText
  behind = or_else [] (fields h.rest)

  -- all fields of the block but the octets
  unfoldable pub others : List FieldText
  others = h.before ++ behind
