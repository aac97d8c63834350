-- W6: every field fits in the room that the C header promises.
--     written_most                       a field whose name has at most 16 octets
--     autocrypt_fits, gossip_fits        the two fields
--     autocrypt_roomy, gossip_roomy      so that a writer that is lent so much never answers that it is too short
-- Assumes nothing.
use Rattle.std.specs.Prelude.{Err}
use Prim.Native.Nat.{ℕ, ◌≤◌}
use mathlib.Core.Path.{◌≡◌, refl}
use mathlib.Core.Bool.{Bool, true, false}
use mathlib.Core.List.{List}
use native.Mathlib.Omega.{arith}
use borrow.Author.Tests.{leb-true, leb-false, not-true, not-false}
use lib.Dec.{leb}
use lib.ListN.{length}
use Rattle.octets.specs.Tests.{one_to}
use Rattle.octets.proofs.Tests.{and_right}
use Rattle.address.specs.Address.{plain, canonical}
use Rattle.address.proofs.Forming.{form_fits}
use Rattle.slots.specs.Slot.{key_limit}
use Rattle.writer.specs.Writing.{preference, written}
use Rattle.writer.proofs.Parts.{preference_most, field_counted}
use Rattle.names.specs.Names.{autocrypt as autocrypt_name, gossip as gossip_name}
use Rattle.write.specs.Writing.{autocrypt_field, gossip_field, field_room, writing_rows, refused_writing, written_of}
use Rattle.refusals.specs.Refusals.{number_of}
use Rattle.refusals.specs.Rows.{Gives, nothing, here, behind}
use Rattle.refusals.specs.declared.Refusal.TheVariants.{OutputLength}
use Rattle.refusals.proofs.Rows.{exactly, refused_is}
use Rattle.letters.specs.Base64.{encode}
use Rattle.keylines.specs.Lines.{lines}
use Rattle.keylines.proofs.Lengths.{lines_counted}
use Rattle.write.proofs.Outcomes.{refused_row}

module _ (address key : List ℕ) (p : plain address ≡ true) (k : one_to key_limit (length key) ≡ true) where
  key_most : length key ≤ key_limit
  key_most = leb-true (length key) key_limit (and_right (leb 1 (length key)) (leb (length key) key_limit) k)

  written_most : (name : List ℕ) (m : Bool) → length name ≤ 16 → length (written name address m key) ≤ field_room
  unfolding written
  written_most name m l =
      omega (
        arith,
        field_counted key (length (lines (encode key))) refl name (canonical address) m (length (preference m)) refl,
        lines_counted key,
        key_most,
        preference_most m,
        form_fits address p 254 (omega arith),
      )

  pub autocrypt_fits : (m : Bool) → length (autocrypt_field address m key) ≤ field_room
  unfolding autocrypt_field
  autocrypt_fits m = written_most autocrypt_name m (omega arith)

  pub gossip_fits : length (gossip_field address key) ≤ field_room
  unfolding gossip_field
  gossip_fits = written_most gossip_name false (omega arith)

-- the row of 12 says that address and key were in order, and that the field did not fit
module _ (address key : List ℕ) (room : ℕ) (l : field_room ≤ room) where
  too_long : (field : List ℕ) → (plain address ≡ true → one_to key_limit (length key) ≡ true → length field ≤ field_room)
      → Gives (writing_rows address key field room) 12 → ⊥
  unfolding writing_rows
  too_long field fits (here p q) = omega arith
  too_long field fits (behind p (here k q)) = omega arith
  too_long field fits (behind p (behind k (here s q))) =
      omega (arith, fits (not-false (plain address) p) (not-false (one_to key_limit (length key)) k), leb-false (length field) room (not-true (leb (length field) room) s))
  too_long field fits (behind p (behind k (behind s (nothing q)))) = omega arith

  module _ (name : List ℕ) (m : Bool) where
    never : (plain address ≡ true → one_to key_limit (length key) ≡ true → length (written name address m key) ≤ field_room)
        → written_of name address m key room ≡ Err OutputLength → ⊥
    unfolding refused_writing
    never fits e =
        too_long (written name address m key) fits
        ((exactly (writing_rows address key (written name address m key) room) 12).0 (refused_is number_of 0 _ OutputLength (refused_row name address m key room OutputLength e)))

  pub autocrypt_roomy : (m : Bool) → written_of autocrypt_name address m key room ≡ Err OutputLength → ⊥
  unfolding autocrypt_field
  autocrypt_roomy m = never autocrypt_name m (λ p k. autocrypt_fits address key p k m)

  pub gossip_roomy : written_of gossip_name address false key room ≡ Err OutputLength → ⊥
  unfolding gossip_field
  gossip_roomy = never gossip_name false (λ p k. gossip_fits address key p k)
