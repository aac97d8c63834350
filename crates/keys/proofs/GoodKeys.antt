-- What is read from a block of octets is good: canonical addresses, keys of 1 octet up to a slot's limit.
--     counted_key                the key of the field that counts
--     gossip_good                the gossip that is accepted
-- Assumes nothing.
use Prim.Native.Nat.{ℕ, ◌≤◌}
use mathlib.Core.Path.{◌≡◌, refl}
use mathlib.Core.List.{List, [], ◌∷◌}
use Rattle.std.specs.Prelude.{Option, Some, None}
use native.Mathlib.Omega.{arith}
use Rattle.octets.specs.Octets.{AllOctets}
use Rattle.octets.specs.Options.{Each}
use Rattle.octets.proofs.Tests.{by_test}
use Rattle.header.specs.Header.{FieldText}
use Rattle.header.proofs.Values.{ValuesOctets}
use Rattle.addresslist.specs.List.{among}
use Rattle.keyfield.specs.Field.{Field, chosen, field_of}
use Rattle.keyfield.proofs.Fields.{field_canonical, field_least, field_most, field_octets, field_key_octets}
use Rattle.keyfield.proofs.Chosen.{chosen_skip, chosen_next}
use Rattle.keyfield.proofs.Counted.{counted_value}
use Rattle.slots.specs.Slot.{key_limit}
use Rattle.slots.specs.Entry.{GoodKey}
use Rattle.update.specs.Message.{Gossiped, GoodGossiped, GoodGossipeds}
use Rattle.fields.specs.Fields.{is_kind, values_of}
use Rattle.fields.specs.declared.Kind.TheVariants.{Autocrypt, AutocryptGossip}
use Rattle.fields.proofs.Values.{values_first, values_other}
use Rattle.keyowner.specs.Owners.{accepted_by, accepted_for}
use Rattle.keys.specs.Keys.{counted_in, accepted, gossip_in}

module _ (limit : ℕ) (small : limit ≤ key_limit) where
  field_key : (v : List ℕ) (f : Field) → field_of limit v ≡ Some f → GoodKey f.key
  field_key v f e =
      record {
        some_octet = field_least limit v f e;
        most = omega (arith, field_most limit v f e);
        octets = field_key_octets limit v f e;
      }

  pub counted_key : (fs : List FieldText) (sender : List ℕ) (f : Field) → counted_in limit fs sender ≡ Some f → GoodKey f.key
  unfolding counted_in
  counted_key fs sender f e = let v = counted_value limit sender (values_of Autocrypt fs) f e in field_key v.0 f v.1

  module _ (recipients : List (List ℕ)) where
    -- one gossip field that is accepted, and all of them
    by_good : (v : List ℕ) (o : Option Field) (g : Gossiped) → AllOctets v → field_of limit v ≡ o → accepted_by recipients o ≡ Some g → GoodGossiped g
    unfolding accepted_by
    by_good v None g o q e = let z : ◌≡◌ {A = ℕ} 0 1 = cc in absurd (omega arith)
    by_good v (Some f) g o q e =
        by_test (among f.address recipients)
        (λ t.
        let k : Some (record { address = f.address; key = f.key }) ≡ Some g = rw (accepted_by, t) at e in
        let h : record { address = f.address; key = f.key } ≡ g = cc in
        rw (← h) (record { canonical = field_canonical limit v f q; octets = field_octets limit v f q o; key = field_key v f q }))
        (λ t. let k : None ≡ Some g = rw (accepted_by, t) at e in let z : ◌≡◌ {A = ℕ} 0 1 = cc in absurd (omega arith))

    front_good : (v : List ℕ) (rest : List (List ℕ)) → AllOctets v → GoodGossipeds (accepted limit recipients rest) → GoodGossipeds (accepted limit recipients (v ∷ rest))
    unfolding GoodGossipeds accepted accepted_for
    front_good v rest h more = go (accepted_for limit recipients v) refl
      where
        go : (o : Option Gossiped) → accepted_for limit recipients v ≡ o → GoodGossipeds (accepted limit recipients (v ∷ rest))
        go None e = rw (chosen_skip (accepted_for limit recipients) v rest e) more
        go (Some g) e = rw (chosen_next (accepted_for limit recipients) v rest g e) (by_good v (field_of limit v) g h refl e, more)

    pub gossip_good : (fs : List FieldText) → ValuesOctets fs → GoodGossipeds (gossip_in limit recipients fs)
    unfolding gossip_in values_of accepted chosen Each GoodGossipeds
    gossip_good [] h = tt
    gossip_good (f ∷ fs) h =
        by_test (is_kind AutocryptGossip f.name)
        (λ e. rw (values_first AutocryptGossip f fs e) (front_good f.value (values_of AutocryptGossip fs) h.0 (gossip_good fs h.1)))
        (λ e. rw (values_other AutocryptGossip f fs e) (gossip_good fs h.1))
