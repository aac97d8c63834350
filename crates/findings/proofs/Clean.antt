-- C23: a mail whose fields we wrote has no faults. (`;` is 59.)
--     each_at, fewer_before      a field of a name among those of that name: what holds of each, and how many stand in front of it
--     value_pieces               what is written without a preference has two pieces
--     value_quiet                and neither is one
--     wrote_value, wrote_says    what a writer wrote: its text, and what it says
--     Told, told_field           what a gossip field of ours says
--     not_wrong                  nothing of ours is wrong
--     written_clean              so nothing is found
--     answered_clean             and no fault is counted
-- Assumes nothing.
use Prim.Native.Nat.{ℕ, zero, suc, ◌-◌, ◌<◌, zero-le}
use mathlib.Core.Path.{◌≡◌, refl, sym, ap, ◌∙◌}
use mathlib.Core.Bool.{Bool, true, false, not, false≢true}
use mathlib.Core.List.{List, [], ◌∷◌, ◌++◌}
use Rattle.std.specs.Prelude.{Option, Some, None}
use native.Mathlib.Omega.{arith}
use borrow.Author.Tests.{ne_eqb, le-leb}
use lib.ListN.{length, take}
use Rattle.octets.specs.Octets.{ascii, same_octets, blank}
use Rattle.octets.specs.Finding.{holds}
use Rattle.octets.specs.Options.{is_some, or_else, Each}
use Rattle.octets.specs.Tests.{every}
use Rattle.octets.proofs.Tests.{by_test}
use Rattle.octets.proofs.Every.{every_weaker}
use Rattle.refusals.specs.Rows.{first_of, answered_by}
use Rattle.letters.specs.Base64.{encode}
use Rattle.runs.specs.Runs.{belongs, run_length, run}
use Rattle.runs.specs.declared.Class.TheVariants.{Name}
use Rattle.names.specs.Names.{autocrypt as autocrypt_name, gossip as gossip_name}
use Rattle.keylines.specs.Lines.{spread}
use Rattle.pieces.specs.Pieces.{pieces, before}
use Rattle.header.specs.Header.{FieldText, fields}
use Rattle.address.specs.Address.{plain, canonical, address_octet}
use Rattle.address.proofs.Sides.{plain_octets}
use Rattle.address.proofs.Spelling.{canonical_twice, plain_canonical}
use Rattle.addresslist.specs.List.{among}
use Rattle.fields.specs.Fields.{is_kind, fields_in, values_of}
use Rattle.fields.specs.declared.Kind.{Kind}
use Rattle.fields.specs.declared.Kind.TheVariants.{Autocrypt, AutocryptGossip}
use Rattle.fields.proofs.Values.{values_first, values_other}
use Rattle.attributes.specs.Attribute.{trimmed, trimmed_front, trimmed_back}
use Rattle.attributes.proofs.Joined.{other, piece_cut, piece_alone}
use Rattle.slots.specs.Slot.{key_limit}
use Rattle.keyfield.specs.Field.{Field, field_of, valid_for, chosen, valid_fields}
use Rattle.keyfield.proofs.ReadBack.{value_of}
use Rattle.keyfield.proofs.Chosen.{chosen_next}
use Rattle.keyfield.proofs.Counted.{naming_sender}
use Rattle.asked.specs.Asked.{is_empty, is_name, is_called, values_called, saying, occurs, named}
use Rattle.asked.specs.declared.Called.TheVariants.{PreferEncrypt}
use Rattle.faults.specs.Faults.{Fault}
use Rattle.lookover.specs.Looking.{faults_of}
use Rattle.lint.specs.Linting.{mail_faults, list_rows, linting_rows, refused_linting, linted_of}
use Rattle.outer.specs.Outer.{recipients_in}
use Rattle.lookover.specs.declared.Side.{Side}
use Rattle.lookover.specs.declared.Side.TheVariants.{Outer, Payload}
use Rattle.lookover.proofs.Validity.{field_named, field_known, field_keyed}
use Rattle.trip.specs.RoundTrip.{Writable}
use Rattle.trip.proofs.RoundTrip.{text_whole, value_read, done_writable, output_alone}
use Rattle.findings.specs.Wrong as wrong
use Rattle.findings.specs.Wrong.{field_at, fields_on, Stands, LookedAt, own, gossip, Wrong}
use Rattle.findings.specs.Clean.{Left, WrittenFor, GossipField, Ours, WrittenClean, AnsweredClean}
use Rattle.findings.proofs.Findings.{not_nought, none_exactly}

-- a field of a name, among those of that name
module _ (kind : Kind) (f : FieldText) (k : is_kind kind f.name ≡ true) where
  each_at : (P : List ℕ → Type 0) (fs : List FieldText) (place : ℕ) → field_at fs place ≡ Some f → Each P (values_of kind fs) → P f.value
  unfolding field_at Each
  each_at P [] place t h = let z : ◌≡◌ {A = ℕ} 0 1 = cc in absurd (omega arith)
  each_at P (g ∷ fs) zero t h = let z : ◌≡◌ {A = ℕ} 0 1 = cc in absurd (omega arith)
  each_at P (g ∷ fs) (suc zero) t h =
      let q : f ≡ g = cc in
      let e : values_of kind (g ∷ fs) ≡ f.value ∷ values_of kind fs = rw (← q) (values_first kind f fs k) in
      (rw e at h).0
  each_at P (g ∷ fs) (suc (suc n)) t h =
      each_at P fs (suc n) t
      (by_test (is_kind kind g.name) (λ e. (rw (values_first kind g fs e) at h).1) (λ e. rw (values_other kind g fs e) at h))

  fewer_before : (fs : List FieldText) (n : ℕ) → field_at fs (suc n) ≡ Some f → length (values_of kind (take n fs)) < length (values_of kind fs)
  unfolding field_at values_of
  fewer_before [] n t = let z : ◌≡◌ {A = ℕ} 0 1 = cc in absurd (omega arith)
  fewer_before (g ∷ fs) zero t =
      let q : f ≡ g = cc in
      let e : values_of kind (g ∷ fs) ≡ f.value ∷ values_of kind fs = rw (← q) (values_first kind f fs k) in
      rw e (omega arith)
  fewer_before (g ∷ fs) (suc n) t =
      let h : length (values_of kind (take n fs)) < length (values_of kind fs) = fewer_before fs n t in
      by_test (is_kind kind g.name)
      (λ e. rw (values_first kind g fs e, values_first kind g (take n fs) e) (omega arith))
      (λ e. rw (values_other kind g fs e, values_other kind g (take n fs) e) h)

no_length : {A : Type 0} (l : List A) → length l < 1 → l ≡ []
no_length [] h = refl
no_length (x ∷ l) h = absurd (omega arith)

-- what is written without a preference: ` addr=ADDRESS` and ` keydata=TEXT`
module _ (a text : List ℕ) (p : plain a ≡ true) (t : every (other 59) text ≡ true) where
  -- an address has no `;`
  address_piece : every (other 59) (ascii " addr=" ++ a) ≡ true
  unfolding every belongs
  address_piece = every_weaker address_octet (other 59) (λ x e. ap not (ne_eqb x 59 (λ q. false≢true (ap address_octet (sym q) ∙ e)))) a (plain_octets a p)

  key_piece : every (other 59) (ascii " keydata=" ++ text) ≡ true
  unfolding every
  key_piece = t

  value_pieces : pieces 59 (value_of a false text) ≡ (ascii " addr=" ++ a) ∷ (ascii " keydata=" ++ text) ∷ []
  value_pieces =
      piece_cut 59 (ascii " addr=" ++ a) address_piece (ascii " keydata=" ++ text)
      ∙ ap (λ (ps : List (List ℕ)). (ascii " addr=" ++ a) ∷ ps) (piece_alone 59 (ascii " keydata=" ++ text) key_piece)

  value_quiet : occurs PreferEncrypt (value_of a false text) ≡ false
  unfolding occurs saying values_called is_empty is_called is_name holds before trimmed trimmed_front trimmed_back blank same_octets
  value_quiet = rw value_pieces

-- what a writer wrote
first_value : Option (List FieldText) → List ℕ
first_value None = []
first_value (Some []) = []
first_value (Some (f ∷ rest)) = f.value

module _ (name address : List ℕ) (m : Bool) (v : List ℕ) (w : WrittenFor name address m v) (named : run_length Name name ≡ length name) (some_name : 0 < length name) where
  abbrev l : Left name address m w.octets
  l = w.left

  can : Writable address l.key
  can = done_writable name address l.key l.out m l.key_octets l.long l.done

  wrote_value : v ≡ value_of (canonical address) m (spread (encode l.key))
  unfolding first_value
  wrote_value =
      ap first_value (sym w.reads ∙ ap fields l.is ∙ output_alone name address l.key l.out m l.key_octets l.long l.done named some_name)

  wrote_says : field_of key_limit v ≡ Some (record { address = canonical address; is_mutual = m; key = l.key })
  wrote_says = ap (field_of key_limit) wrote_value ∙ value_read address l.key m can

-- a gossip field of ours
record Told (recipients : List (List ℕ)) (v : List ℕ) : Type 0 where
  field : Field
  says : field_of key_limit v ≡ Some field
  listed : among field.address recipients ≡ true
  quiet : occurs PreferEncrypt v ≡ false

among_canonical : (a : List ℕ) (recipients : List (List ℕ)) → among (canonical a) recipients ≡ among a recipients
unfolding among
among_canonical a [] = refl
among_canonical a (b ∷ rest) = rw (canonical_twice, among_canonical a rest)

told_field : (recipients : List (List ℕ)) (v : List ℕ) → GossipField recipients v → Told recipients v
unfolding run belongs blank
told_field recipients v g =
    let w : WrittenFor gossip_name g.address false v = g.wrote in
    let c : Writable g.address w.left.key = can gossip_name g.address false v w refl (omega arith) in
    record {
      field = record { address = canonical g.address; is_mutual = false; key = w.left.key };
      says = wrote_says gossip_name g.address false v w refl (omega arith);
      listed = among_canonical g.address recipients ∙ g.listed;
      quiet =
          ap (occurs PreferEncrypt) (wrote_value gossip_name g.address false v w refl (omega arith))
          ∙ value_quiet (canonical g.address) (spread (encode w.left.key)) (plain_canonical g.address c.plainly) (text_whole g.address w.left.key false c);
    }

all_told : (recipients : List (List ℕ)) (vs : List (List ℕ)) → Each (GossipField recipients) vs → Each (Told recipients) vs
unfolding Each
all_told recipients [] h = tt
all_told recipients (v ∷ vs) h = (told_field recipients v h.0, all_told recipients vs h.1)

module _ (sender : List ℕ) (recipients : List (List ℕ)) (outer payload : List FieldText) (o : Ours sender recipients outer payload) where
  abbrev v : List ℕ
  v = o.value

  abbrev own_field : Field
  own_field = record { address = canonical o.own.address; is_mutual = o.own.prefers; key = o.own.wrote.left.key }

  says_own : field_of key_limit v ≡ Some own_field
  unfolding run belongs blank
  says_own = wrote_says autocrypt_name o.own.address o.own.prefers v o.own.wrote refl (omega arith)

  is_valid : valid_for key_limit sender v ≡ Some own_field
  is_valid = naming_sender key_limit sender v own_field says_own o.own.ours

  -- the one Autocrypt field
  the_own : (place : ℕ) (f : FieldText) → Stands outer place Autocrypt f → f.value ≡ v
  unfolding Each
  the_own place f s =
      let h : Each (λ (u : List ℕ). u ≡ v) (values_of Autocrypt outer) = rw o.only (refl, tt) in
      each_at Autocrypt f s.called (λ (u : List ℕ). u ≡ v) outer place s.there h

  -- none stands in front of it
  none_before : (place : ℕ) (f : FieldText) → Stands outer place Autocrypt f → valid_fields key_limit sender (values_of Autocrypt (take (place - 1) outer)) ≡ []
  unfolding valid_fields chosen
  none_before zero f s = absurd (not_nought outer f s.there)
  none_before (suc n) f s =
      let m : suc n - 1 ≡ n = omega arith in
      let h : length (values_of Autocrypt (take n outer)) < length (values_of Autocrypt outer) = fewer_before Autocrypt f s.called outer n s.there in
      let l : length (values_of Autocrypt outer) ≡ 1 = ap length o.only in
      let z : values_of Autocrypt (take n outer) ≡ [] = no_length (values_of Autocrypt (take n outer)) (omega arith) in
      rw (m, z)

  the_gossip : (side : Side) (place : ℕ) (f : FieldText) → Stands (fields_on side outer payload) place AutocryptGossip f → Told recipients f.value
  unfolding Each
  the_gossip Outer place f s =
      let h : Each (Told recipients) (values_of AutocryptGossip outer) = rw o.without_gossip tt in
      each_at AutocryptGossip f s.called (Told recipients) outer place s.there h
  the_gossip Payload place f s =
      each_at AutocryptGossip f s.called (Told recipients) payload place s.there (all_told recipients (values_of AutocryptGossip payload) o.gossip)

  no_outside : (place : ℕ) (f : FieldText) → Stands outer place AutocryptGossip f → ⊥
  unfolding Each
  no_outside place f s =
      let h : Each (λ (u : List ℕ). ⊥) (values_of AutocryptGossip outer) = rw o.without_gossip tt in
      each_at AutocryptGossip f s.called (λ (u : List ℕ). ⊥) outer place s.there h

  -- what is looked at is a field in order
  looked_says : (side : Side) (place : ℕ) (f : FieldText) → LookedAt outer payload side place f → (x : Field) × (field_of key_limit f.value ≡ Some x)
  looked_says side place f (own p g s) = (own_field, ap (field_of key_limit) (the_own place f s) ∙ says_own)
  looked_says side place f (gossip b p g s) = let t : Told recipients f.value = the_gossip side place f s in (t.field, t.says)

  not_wrong : (x : Fault) → Wrong sender recipients outer payload x → ⊥
  unfolding valid_fields chosen
  not_wrong x (wrong.no_valid_fault e) =
      let q : chosen (valid_for key_limit sender) (v ∷ []) ≡ own_field ∷ [] = chosen_next (valid_for key_limit sender) v [] own_field is_valid in
      let n : chosen (valid_for key_limit sender) (v ∷ []) ≡ [] = rw o.only at e in
      let z : ◌≡◌ {A = ℕ} 0 1 = cc in
      omega arith
  not_wrong x (wrong.more_valid_fault place f s h n) = n (none_before place f s)
  not_wrong x (wrong.wrong_address_fault place f s n) =
      n (ap named (the_own place f s) ∙ field_named key_limit v own_field says_own ∙ ap Some o.own.ours)
  not_wrong x (wrong.unknown_attribute_fault side place f l h) =
      let r = looked_says side place f l in
      false≢true (sym (field_known key_limit f.value r.0 r.1) ∙ h)
  not_wrong x (wrong.key_data_fault side place f l h) =
      let r = looked_says side place f l in
      false≢true (sym h ∙ field_keyed key_limit f.value r.0 r.1)
  not_wrong x (wrong.gossip_outside_fault place f s) = no_outside place f s
  not_wrong x (wrong.gossip_unlisted_fault side place f s n) =
      let t : Told recipients f.value = the_gossip side place f s in
      n t.field.address (field_named key_limit f.value t.field t.says) t.listed
  not_wrong x (wrong.gossip_preference_fault side place f s h) = false≢true (sym (the_gossip side place f s).quiet ∙ h)

pub written_clean : WrittenClean
written_clean sender recipients outer payload o = (none_exactly sender recipients outer payload).1 (not_wrong sender recipients outer payload o)

pub answered_clean : AnsweredClean
unfolding linted_of refused_linting linting_rows list_rows mail_faults first_of answered_by is_some or_else
answered_clean outer payload sender room r p e o =
    let q : faults_of sender (recipients_in (fields_in outer)) (fields_in outer) (fields_in payload) ≡ [] =
    written_clean sender (recipients_in (fields_in outer)) (fields_in outer) (fields_in payload) o in
    rw (r, e, p, q, le-leb 0 room zero-le)
