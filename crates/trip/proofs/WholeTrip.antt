-- C7 and C8: what is written is what processing leaves in the table. No program meets this that leaves the table untouched, or writes at the first
-- message alone (C12).
--     direct_read, gossip_read                 a message with a field that is read back, where processing answers 0
--     autocrypt_processed, gossip_processed    so with the two fields that can be written (W2, W3)
--     autocrypt_answered, gossip_answered      and with what the two writers leave in front of the output when they answer 0
--     left_sound, left_octets                  the table that is left is one that the next call takes
-- Assumes nothing.
use Prim.Native.Nat.{ℕ}
use mathlib.Core.Path.{◌≡◌, refl, sym, ap, ◌∙◌}
use mathlib.Core.Bool.{Bool, true, false}
use mathlib.Core.List.{List, [], ◌∷◌, ◌++◌}
use Rattle.std.specs.Prelude.{Option, Some, Ok}
use native.Mathlib.Omega.{arith}
use lib.ListN.{length, take}
use Rattle.octets.specs.Octets.{lower, lowered, same_name, same_octets, AllOctets, blank}
use Rattle.address.specs.Address.{canonical}
use Rattle.header.specs.Header.{FieldText, fields_of}
use Rattle.addresslist.specs.List.{among}
use Rattle.keyfield.specs.Field.{Field, valid_for, valid_fields}
use Rattle.keyfield.proofs.Chosen.{chosen_next, chosen_append}
use Rattle.keyfield.proofs.Counted.{naming_sender, counted_one}
use Rattle.slots.specs.Slot.{key_limit}
use Rattle.heads.specs.Entry.{Entry}
use Rattle.table.specs.Table.{checked}
use Rattle.table.specs.Entries.{entry_in}
use Rattle.table.specs.declared.Checked.TheVariants.{Sound}
use Rattle.table.proofs.Entries.{entry_good}
use Rattle.update.specs.Message.{Gossiped, Message, entry_after}
use Rattle.fields.specs.Fields.{fields_in, is_kind, values_of}
use Rattle.fields.specs.declared.Kind.TheVariants.{Autocrypt, AutocryptGossip}
use Rattle.fields.proofs.Values.{values_append, values_first}
use Rattle.outer.specs.Outer.{sender_in, date_in, recipients_in}
use Rattle.keys.specs.Keys.{counted_in, accepted, gossip_in}
use Rattle.keys.proofs.AcceptedGossip.{gossip_append, accepted_listed}
use Rattle.message.specs.Message.{direct_by, message_by}
use Rattle.refusals.specs.Rows.{answer_of}
use Rattle.runs.specs.Runs.{belongs, run}
use Rattle.settings.specs.Settings.{taken}
use Rattle.process.specs.Processing.{refused_processing, left_by_processing}
use Rattle.settings.specs.declared.Gossip.{Gossip}
use Rattle.names.specs.Names.{autocrypt as autocrypt_name, gossip as gossip_name}
use Rattle.write.specs.Writing.{autocrypt_field, gossip_field, written_of, left_by_writing}
use Rattle.trip.specs.RoundTrip.{ReadsBack, Writable, Holding, behind, others}
use Rattle.trip.specs.Standing.{direct_half, gossip_half, HasDirect, HasGossip, none_about}
use Rattle.trip.proofs.RoundTrip.{written_reads_back, autocrypt_reads_back, gossip_reads_back}
use Rattle.trip.proofs.Holding.{holding_fields}
use Rattle.trip.proofs.Through.{Through, done_through}
use Rattle.trip.proofs.Standing.{Held, sender_there, direct_set, direct_kept, gossip_there, gossip_set, gossip_kept}

none_both : {A : Type 0} (x y : List A) → x ++ y ≡ [] → (x ≡ []) × (y ≡ [])
none_both [] y e = (refl, e)
none_both (a ∷ x) y e = let z : ◌≡◌ {A = ℕ} 0 1 = cc in absurd (omega arith)

-- one value that is valid, among others that are not
module _ (sender v : List ℕ) (f : Field) (valid : valid_for key_limit sender v ≡ Some f) where
  only_valid : (x y : List (List ℕ)) → valid_fields key_limit sender (x ++ y) ≡ [] → valid_fields key_limit sender (x ++ (v ∷ y)) ≡ f ∷ []
  unfolding valid_fields
  only_valid x y e =
      let apart = none_both (valid_fields key_limit sender x) (valid_fields key_limit sender y) (sym (chosen_append (valid_for key_limit sender) x y) ∙ e) in
      chosen_append (valid_for key_limit sender) x (v ∷ y)
      ∙ ap (λ (fs : List Field). fs ++ valid_fields key_limit sender (v ∷ y)) apart.0
      ∙ chosen_next (valid_for key_limit sender) v y f valid
      ∙ ap (λ (fs : List Field). f ∷ fs) apart.1

-- the field that counts in a block that holds octets which are read back for the sender, and no other valid field
module _ (a k octets outer : List ℕ) (m : Bool) (r : ReadsBack autocrypt_name a k m octets) (h : Holding outer octets) where
  abbrev read_field : Field
  read_field = record { address = canonical a; is_mutual = m; key = k }

  is_autocrypt : is_kind Autocrypt r.found.name ≡ true
  unfolding is_kind same_name lowered lower same_octets
  is_autocrypt = ap (is_kind Autocrypt) r.named

  pub counts : fields_of outer ≡ Some (fields_in outer) → valid_fields key_limit (canonical a) (values_of Autocrypt (others h)) ≡ [] → counted_in key_limit (fields_in outer) (canonical a) ≡ Some read_field
  unfolding others counted_in
  counts e alone =
      let v : List ℕ = r.found.value in
      let before : List (List ℕ) = values_of Autocrypt h.before in
      let after : List (List ℕ) = values_of Autocrypt (behind h) in
      let values : values_of Autocrypt (fields_in outer) ≡ before ++ (v ∷ after) =
      ap (values_of Autocrypt) (holding_fields autocrypt_name a k octets m r outer h (fields_in outer) e)
      ∙ values_append Autocrypt h.before (r.found ∷ behind h)
      ∙ ap (λ (vs : List (List ℕ)). before ++ vs) (values_first Autocrypt r.found (behind h) is_autocrypt) in
      let none_else : valid_fields key_limit (canonical a) (before ++ after) ≡ [] = ap (valid_fields key_limit (canonical a)) (sym (values_append Autocrypt h.before (behind h))) ∙ alone in
      counted_one key_limit (canonical a) (values_of Autocrypt (fields_in outer)) read_field
      (ap (valid_fields key_limit (canonical a)) values ∙ only_valid (canonical a) v read_field (naming_sender key_limit (canonical a) v read_field r.says refl) before after none_else)

-- the accepted gossip of a payload that holds octets which are read back for a recipient
module _ (b k octets payload : List ℕ) (m : Bool) (r : ReadsBack gossip_name b k m octets) (h : Holding payload octets)
    (recipients : List (List ℕ)) (listed : among (canonical b) recipients ≡ true) where
  is_gossip : is_kind AutocryptGossip r.found.name ≡ true
  unfolding is_kind same_name lowered lower same_octets
  is_gossip = ap (is_kind AutocryptGossip) r.named

  pub hears : (fs : List FieldText) → fields_of payload ≡ Some fs
      → gossip_in key_limit recipients fs ≡ gossip_in key_limit recipients h.before ++ (record { address = canonical b; key = k } ∷ gossip_in key_limit recipients (behind h))
  unfolding gossip_in
  hears fs e =
      ap (gossip_in key_limit recipients) (holding_fields gossip_name b k octets m r payload h fs e)
      ∙ gossip_append key_limit recipients h.before (r.found ∷ behind h)
      ∙ ap (λ (gs : List Gossiped). gossip_in key_limit recipients h.before ++ gs)
      (ap (accepted key_limit recipients) (values_first AutocryptGossip r.found (behind h) is_gossip)
      ∙ accepted_listed key_limit recipients r.found.value (record { address = canonical b; is_mutual = m; key = k }) (values_of AutocryptGossip (behind h)) r.says listed)

-- a message to which processing answers 0
module _ (t : List ℕ) (receipt : ℕ) (outer payload : List ℕ) (setting : Gossip) (table_octets : AllOctets t) (outer_octets : AllOctets outer)
    (payload_octets : AllOctets payload) (done : answer_of (refused_processing t receipt outer payload setting) ≡ Ok tt) where
  abbrev pub left : List ℕ
  left = left_by_processing t receipt outer payload setting

  abbrev pub date : ℕ
  date = date_in (fields_in outer) receipt

  through : Through t receipt outer payload setting
  through = done_through t receipt outer payload setting table_octets outer_octets payload_octets done

  abbrev message : Message
  message = message_by key_limit receipt through.sender (fields_in outer) through.inner

  pub left_sound : checked left ≡ Sound
  left_sound = through.sound

  pub left_octets : AllOctets left
  left_octets = through.octets

  -- the entry of an address has that address
  addressed_so : (b : List ℕ) (e : Entry) → entry_in left b ≡ Some e → e.address ≡ b
  addressed_so b e q = (entry_good left b left_sound left_octets e q).1

  module _ (a k octets : List ℕ) (m : Bool) (r : ReadsBack autocrypt_name a k m octets) (h : Holding outer octets)
      (from : sender_in (fields_in outer) ≡ Some (canonical a)) (alone : valid_fields key_limit (canonical a) (values_of Autocrypt (others h)) ≡ []) where
    sender_is : through.sender ≡ canonical a
    sender_is = let q : Some through.sender ≡ Some (canonical a) = sym through.sent ∙ from in cc

    brings_direct : message.direct ≡ Some (record { timestamp = date; key = k; «mutual» = m })
    unfolding message_by direct_by
    brings_direct =
        ap (λ (x : List ℕ). direct_by date (counted_in key_limit (fields_in outer) x)) sender_is ∙ ap (direct_by date) (counts a k octets outer m r h through.outer_read alone)

    pub direct_read : HasDirect (entry_in t (canonical a)) (canonical a) (record { timestamp = date; key = k; «mutual» = m }) (entry_in left (canonical a))
    unfolding message_by direct_half
    direct_read =
        let was : Option Entry = entry_in t (canonical a) in
        let after : entry_in left (canonical a) ≡ entry_after message through.sender was =
        through.entries (canonical a) ∙ ap (λ (x : List ℕ). entry_after message x was) (sym sender_is) in
        let held : Held (entry_after message through.sender was) = sender_there message was in
        record {
          entry = held.0;
          there = after ∙ held.1;
          addressed = addressed_so (canonical a) held.0 (after ∙ held.1);
          set = λ y. sym (ap direct_half held.1) ∙ direct_set message was (record { timestamp = date; key = k; «mutual» = m }) brings_direct y;
          kept = λ y. sym (ap direct_half held.1) ∙ direct_kept message was y;
        }

  module _ (b k octets : List ℕ) (m : Bool) (r : ReadsBack gossip_name b k m octets) (h : Holding payload octets)
      (take_gossip : taken setting ≡ true) (listed : among (canonical b) (recipients_in (fields_in outer)) ≡ true)
      (last : none_about (canonical b) (gossip_in key_limit (recipients_in (fields_in outer)) (behind h)) ≡ true) where
    payload_fields : fields_of payload ≡ Some through.inner
    payload_fields = through.inner_read take_gossip

    earlier : List Gossiped
    earlier = gossip_in key_limit (recipients_in (fields_in outer)) h.before

    later : List Gossiped
    later = gossip_in key_limit (recipients_in (fields_in outer)) (behind h)

    brings_gossip : message.gossip ≡ earlier ++ (record { address = canonical b; key = k } ∷ later)
    unfolding message_by earlier later
    brings_gossip = hears b k octets payload m r h (recipients_in (fields_in outer)) listed through.inner payload_fields

    pub gossip_read : HasGossip (entry_in t (canonical b)) (canonical b) (record { timestamp = date; key = k }) (entry_in left (canonical b))
    unfolding message_by gossip_half later
    gossip_read =
        let was : Option Entry = entry_in t (canonical b) in
        let held : Held (entry_after message (canonical b) was) = gossip_there message (canonical b) k earlier later brings_gossip last was in
        let there : entry_in left (canonical b) ≡ Some held.0 = through.entries (canonical b) ∙ held.1 in
        record {
          entry = held.0;
          there = there;
          addressed = addressed_so (canonical b) held.0 there;
          set = λ y. sym (ap gossip_half held.1) ∙ gossip_set message (canonical b) k earlier later brings_gossip last was y;
          kept = λ y. sym (ap gossip_half held.1) ∙ gossip_kept message (canonical b) k earlier later brings_gossip last was y;
        }

  -- The two fields that can be written. C7: the outer block holds that of the sender, and no other that is valid for it. C8: the payload holds one
  -- for a recipient, and behind it no accepted one about the same address.
  pub autocrypt_processed : (a k : List ℕ) (m : Bool) → Writable a k → (h : Holding outer (autocrypt_field a m k))
      → sender_in (fields_in outer) ≡ Some (canonical a) → valid_fields key_limit (canonical a) (values_of Autocrypt (others h)) ≡ []
      → HasDirect (entry_in t (canonical a)) (canonical a) (record { timestamp = date; key = k; «mutual» = m }) (entry_in left (canonical a))
  unfolding autocrypt_field run belongs blank
  autocrypt_processed a k m w h = direct_read a k (autocrypt_field a m k) m (written_reads_back a k m w autocrypt_name refl (omega arith)) h

  pub gossip_processed : (b k : List ℕ) → Writable b k → (h : Holding payload (gossip_field b k)) → taken setting ≡ true
      → among (canonical b) (recipients_in (fields_in outer)) ≡ true → none_about (canonical b) (gossip_in key_limit (recipients_in (fields_in outer)) (behind h)) ≡ true
      → HasGossip (entry_in t (canonical b)) (canonical b) (record { timestamp = date; key = k }) (entry_in left (canonical b))
  unfolding gossip_field run belongs blank
  gossip_processed b k w h = gossip_read b k (gossip_field b k) false (written_reads_back b k false w gossip_name refl (omega arith)) h

  -- what a writer that answers 0 leaves in front of the output
  module _ (out : List ℕ) (n : ℕ) where
    pub autocrypt_answered : (a k : List ℕ) (m : Bool) → AllOctets k → Ok n ≡ written_of autocrypt_name a m k (length out)
        → (h : Holding outer (take n (left_by_writing autocrypt_name a m k out)))
        → sender_in (fields_in outer) ≡ Some (canonical a) → valid_fields key_limit (canonical a) (values_of Autocrypt (others h)) ≡ []
        → HasDirect (entry_in t (canonical a)) (canonical a) (record { timestamp = date; key = k; «mutual» = m }) (entry_in left (canonical a))
    autocrypt_answered a k m o wrote h =
        direct_read a k (take n (left_by_writing autocrypt_name a m k out)) m (autocrypt_reads_back a k out o n m wrote) h

    pub gossip_answered : (b k : List ℕ) → AllOctets k → Ok n ≡ written_of gossip_name b false k (length out)
        → (h : Holding payload (take n (left_by_writing gossip_name b false k out))) → taken setting ≡ true
        → among (canonical b) (recipients_in (fields_in outer)) ≡ true → none_about (canonical b) (gossip_in key_limit (recipients_in (fields_in outer)) (behind h)) ≡ true
        → HasGossip (entry_in t (canonical b)) (canonical b) (record { timestamp = date; key = k }) (entry_in left (canonical b))
    gossip_answered b k o wrote h =
        gossip_read b k (take n (left_by_writing gossip_name b false k out)) false (gossip_reads_back b k out o n wrote) h
