-- SCOPE, O2 to O4: faults, and the kinds that a field has.
--     Fault                          a block, a place and a kind
--     no_valid .. gossip_preference  the kinds
--     no_flaws, has_kind             which of them a field has
--     kinds_below, kinds             these in their order
--     faults_at                      the faults of the field at a place of a block
--     numbers_of                     faults as numbers, three for each
use Rattle.std.specs.Prelude.{ℕ, zero, suc, Bool, false, cond, List, [], ◌∷◌, ◌++◌, eqb}
use Rattle.faults.specs.declared.Flaws.{Flaws}

-- O2: the block is 0 for the outer one and 1 for the payload, the place counts its fields from 1
pub record Fault : Type 0 where
  pub block : ℕ
  pub place : ℕ
  pub kind : ℕ

-- O3: no valid Autocrypt field; it has place 0
abbrev pub no_valid : ℕ
no_valid = 1

-- O3: a valid Autocrypt field behind another
abbrev pub more_valid : ℕ
more_valid = 2

-- O3: an Autocrypt field with another address than the sender's
abbrev pub wrong_address : ℕ
wrong_address = 3

-- O3: an unknown critical attribute
abbrev pub unknown_attribute : ℕ
unknown_attribute = 4

-- O3: key data that is not last, or not Base64
abbrev pub key_data : ℕ
key_data = 5

-- O3: a gossip field outside the payload
abbrev pub gossip_outside : ℕ
gossip_outside = 6

-- O3: gossip about somebody who is not a recipient
abbrev pub gossip_unlisted : ℕ
gossip_unlisted = 7

-- O3: gossip with a preference
abbrev pub gossip_preference : ℕ
gossip_preference = 8

-- a field without faults
unfoldable pub no_flaws : Flaws
no_flaws =
    record {
      more_valid = false;
      wrong_address = false;
      unknown_attribute = false;
      key_data = false;
      gossip_outside = false;
      gossip_unlisted = false;
      gossip_preference = false;
    }

-- O3: does a field have the fault of this kind?
unfoldable pub has_kind : Flaws → ℕ → Bool
has_kind w kind =
    cond (eqb kind more_valid) w.more_valid
    (cond (eqb kind wrong_address) w.wrong_address
    (cond (eqb kind unknown_attribute) w.unknown_attribute
    (cond (eqb kind key_data) w.key_data
    (cond (eqb kind gossip_outside) w.gossip_outside
    (cond (eqb kind gossip_unlisted) w.gossip_unlisted
    (cond (eqb kind gossip_preference) w.gossip_preference
    false))))))

-- a number alone, or nothing
unfoldable pub only_if : Bool → ℕ → List ℕ
only_if b x = cond b (x ∷ []) []

-- O4: the kinds below n that a field has, rising; each once
unfoldable pub kinds_below : Flaws → ℕ → List ℕ
kinds_below w zero = []
kinds_below w (suc n) = kinds_below w n ++ only_if (has_kind w n) n

-- O4: all kinds that a field has: none lies above the last
unfoldable pub kinds : Flaws → List ℕ
kinds w = kinds_below w (suc gossip_preference)

-- O2: the faults of the field at this place of this block, by their kinds
unfoldable pub faults_at : ℕ → ℕ → List ℕ → List Fault
faults_at block place [] = []
faults_at block place (kind ∷ rest) = record { block = block; place = place; kind = kind } ∷ faults_at block place rest

-- O1: three numbers for each fault
unfoldable pub numbers_of : List Fault → List ℕ
numbers_of [] = []
numbers_of (f ∷ rest) = f.block ∷ f.place ∷ f.kind ∷ numbers_of rest
