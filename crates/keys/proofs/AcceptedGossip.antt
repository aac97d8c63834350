-- The gossip that is accepted, field by field.
--     gossip_append          fields behind fields
--     accepted_listed        one of a recipient is accepted
-- Assumes nothing.
use Prim.Native.Nat.{ℕ}
use mathlib.Core.Path.{◌≡◌, ap, ◌∙◌}
use mathlib.Core.Bool.{true}
use mathlib.Core.List.{List, ◌∷◌, ◌++◌}
use Rattle.std.specs.Prelude.{Some}
use Rattle.header.specs.Header.{FieldText}
use Rattle.addresslist.specs.List.{among}
use Rattle.keyfield.specs.Field.{Field, field_of}
use Rattle.keyfield.proofs.Chosen.{chosen_next, chosen_append}
use Rattle.fields.specs.Fields.{values_of}
use Rattle.fields.specs.declared.Kind.TheVariants.{AutocryptGossip}
use Rattle.fields.proofs.Values.{values_append}
use Rattle.keyowner.specs.Owners.{accepted_by, accepted_for}
use Rattle.keyowner.proofs.Accepting.{by_listed}
use Rattle.keys.specs.Keys.{accepted, gossip_in}

module _ (limit : ℕ) (recipients : List (List ℕ)) where
  pub gossip_append : (fs gs : List FieldText) → gossip_in limit recipients (fs ++ gs) ≡ gossip_in limit recipients fs ++ gossip_in limit recipients gs
  unfolding gossip_in accepted
  gossip_append fs gs =
      ap (accepted limit recipients) (values_append AutocryptGossip fs gs)
      ∙ chosen_append (accepted_for limit recipients) (values_of AutocryptGossip fs) (values_of AutocryptGossip gs)

  pub accepted_listed : (v : List ℕ) (f : Field) (rest : List (List ℕ)) → field_of limit v ≡ Some f → among f.address recipients ≡ true
      → accepted limit recipients (v ∷ rest) ≡ record { address = f.address; key = f.key } ∷ accepted limit recipients rest
  unfolding accepted accepted_for
  accepted_listed v f rest e l =
      chosen_next (accepted_for limit recipients) v rest (record { address = f.address; key = f.key }) (ap (accepted_by recipients) e ∙ by_listed recipients f l)
