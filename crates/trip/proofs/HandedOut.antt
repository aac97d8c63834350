-- C9: the key that was written is the one to encrypt to afterwards.
--     alone_taken       for a list of one plain address, the key handed back is that of its entry
--     key_handed_out    after a message with a written field, unless a younger direct key was there, the sender's target key is the key of the field
--     gossip_handed_out    after a payload with a written gossip field, unless younger gossip was there, so is that of an address without a direct half
-- Assumes nothing.
use Prim.Native.Nat.{ℕ}
use mathlib.Core.Path.{◌≡◌, sym, ap, ◌∙◌}
use mathlib.Core.Bool.{Bool, true, false, not}
use mathlib.Core.List.{List, [], ◌∷◌}
use Rattle.std.specs.Prelude.{Option, Some, None, Ok}
use Rattle.octets.specs.Octets.{AllOctets}
use Rattle.octets.specs.Options.{or_else}
use Rattle.address.specs.Address.{plain, canonical}
use Rattle.addresslist.specs.List.{addresses, among}
use Rattle.addresslist.proofs.Readable.{plain_alone}
use Rattle.slots.specs.Slot.{key_limit}
use Rattle.keyfield.specs.Field.{valid_fields}
use Rattle.heads.specs.Entry.{Direct}
use Rattle.slots.specs.declared.Spelling.TheVariants.{Canonical}
use Rattle.table.specs.Table.{checked}
use Rattle.table.specs.Entries.{entry_in}
use Rattle.table.specs.declared.Checked.TheVariants.{Sound}
use Rattle.advice.specs.Advice.{direct_of, gossip_of, target_by, target_of, target_in, targets}
use Rattle.update.specs.Update.{younger, younger_gossip}
use Rattle.fields.specs.Fields.{fields_in, values_of}
use Rattle.fields.specs.declared.Kind.TheVariants.{Autocrypt}
use Rattle.outer.specs.Outer.{sender_in, date_in, recipients_in}
use Rattle.keys.specs.Keys.{gossip_in}
use Rattle.refusals.specs.Rows.{◌unless◌, first_of, answer_of}
use Rattle.refusals.specs.declared.Refusal.{Refusal}
use Rattle.refusals.specs.declared.Refusal.TheVariants.{Recipients}
use Rattle.refusals.proofs.Rows.{first_behind, first_rest, done_is}
use Rattle.inspect.specs.Inspecting.{table_rows}
use Rattle.inspect.proofs.Tables.{sound_rows}
use Rattle.settings.specs.Settings.{taken}
use Rattle.process.specs.Processing.{refused_processing, left_by_processing}
use Rattle.settings.specs.declared.Gossip.{Gossip}
use Rattle.recommend.specs.Recommending.{recipient_list, recommending_rows, refused_recommending, target_key_of}
use Rattle.write.specs.Writing.{autocrypt_field, gossip_field}
use Rattle.trip.specs.RoundTrip.{Writable, Holding, behind, others}
use Rattle.trip.specs.Standing.{direct_half, gossip_half, none_about}
use Rattle.trip.proofs.WholeTrip.{left_sound, autocrypt_processed, gossip_processed}

module _ (t a : List ℕ) (s : checked t ≡ Sound) (p : plain a ≡ true) where
  listed : recipient_list (addresses a) ≡ true
  unfolding recipient_list
  listed = rw (plain_alone a p)

  not_refused : refused_recommending t a ≡ None
  unfolding refused_recommending recommending_rows first_of
  not_refused = first_rest (table_rows t) ((Recipients unless recipient_list (addresses a)) ∷ []) (sound_rows Canonical t s) ∙ first_behind Recipients _ [] (ap not listed)

  pub alone_taken : target_key_of t a 0 ≡ target_in t a
  unfolding target_key_of or_else targets
  alone_taken = done_is (λ (r : Refusal). []) _ (refused_recommending t a) not_refused ∙ rw (plain_alone a p)

module _ (t : List ℕ) (receipt : ℕ) (outer payload : List ℕ) (setting : Gossip) (table_octets : AllOctets t) (outer_octets : AllOctets outer)
    (payload_octets : AllOctets payload) (done : answer_of (refused_processing t receipt outer payload setting) ≡ Ok tt) where
  pub key_handed_out : (a k : List ℕ) (m : Bool) → Writable a k → (h : Holding outer (autocrypt_field a m k))
      → sender_in (fields_in outer) ≡ Some (canonical a) → valid_fields key_limit (canonical a) (values_of Autocrypt (others h)) ≡ []
      → younger (date_in (fields_in outer) receipt) (direct_half (entry_in t (canonical a))) ≡ false
      → target_key_of (left_by_processing t receipt outer payload setting) a 0 ≡ k
  unfolding target_in target_of target_by direct_of
  key_handed_out a k m w h from alone newest =
      let has = autocrypt_processed t receipt outer payload setting table_octets outer_octets payload_octets done a k m w h from alone in
      alone_taken (left_by_processing t receipt outer payload setting) a (left_sound t receipt outer payload setting table_octets outer_octets payload_octets done) w.plainly
      ∙ ap target_of has.there
      ∙ ap (λ (d : Option Direct). target_by d (gossip_of has.entry)) (has.set newest)

  pub gossip_handed_out : (b k : List ℕ) → Writable b k → (h : Holding payload (gossip_field b k)) → taken setting ≡ true
      → among (canonical b) (recipients_in (fields_in outer)) ≡ true → none_about (canonical b) (gossip_in key_limit (recipients_in (fields_in outer)) (behind h)) ≡ true
      → younger_gossip (date_in (fields_in outer) receipt) (gossip_half (entry_in t (canonical b))) ≡ false
      → direct_half (entry_in (left_by_processing t receipt outer payload setting) (canonical b)) ≡ None
      → target_key_of (left_by_processing t receipt outer payload setting) b 0 ≡ k
  unfolding target_in target_of target_by direct_of gossip_of direct_half
  gossip_handed_out b k w h take_gossip listed last newest keyless =
      let has = gossip_processed t receipt outer payload setting table_octets outer_octets payload_octets done b k w h take_gossip listed last in
      let no_key : has.entry.direct ≡ None = sym (ap direct_half has.there) ∙ keyless in
      alone_taken (left_by_processing t receipt outer payload setting) b (left_sound t receipt outer payload setting table_octets outer_octets payload_octets done) w.plainly
      ∙ ap target_of has.there
      ∙ ap (λ (d : Option Direct). target_by d has.entry.gossip) no_key
      ∙ ap (target_by None) (has.set newest)
