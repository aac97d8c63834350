-- Two mails of one sender, an older one with the key `foo` and a younger one with the key `bar`, processed on one free slot in both orders: all that
-- `calls_in_any_order` asks for holds there. Each mail is read by computing. Neither order answers 8, though there is one slot only: whichever comes
-- second finds the sender's entry. The keys differ, so an order could matter; the mails agree because their dates differ too. What the tables say in
-- the end is not nothing: the younger key is the one to encrypt to. The tables themselves are never computed. Assumes nothing.
--     reads                                 what the two mails bring
--     older_first, younger_first            both orders answer 0 twice
--     either_order                          the tables that they end with say the same
--     younger_stands, younger_stands_too    the key to encrypt to afterwards
use Prim.Native.Nat.{ℕ}
use Prim.Native.String.{String}
use mathlib.Core.Path.{◌≡◌, refl, sym, ap, ◌∙◌}
use mathlib.Core.Logic.{◌⊎◌, inl, inr, ⊎_elim}
use mathlib.Core.Bool.{true, false}
use mathlib.Core.List.Memᴰ
use mathlib.Core.List.Permᴰ
use mathlib.Core.List.{List, [], ◌∷◌, ◌++◌, Memᴰ}
use Rattle.std.specs.Prelude.{Option, Some, None, Result, Ok, Err}
use Rattle.refusals.specs.declared.Refusal.{Refusal}
use native.Mathlib.Omega.{arith}
use borrow.Author.Tests.{le-leb}
use lib.Dec.{leb}
use lib.ListN.{length}
use Rattle.octets.specs.Octets as octets
use Rattle.octets.specs.Octets.{ascii, AllOctets, blank}
use Rattle.octets.specs.Numbers.{number}
use Rattle.octets.specs.Options.{is_some, in_front, only_one, or_else}
use Rattle.octets.specs.Finding.{holds}
use Rattle.octets.proofs.Joined.{replicate_octets}
use Rattle.tokens.specs.Tokens as tokens
use Rattle.letters.specs.Base64 as base64
use Rattle.header.specs.Header as header
use Rattle.utf8.specs.Utf8 as utf8
use Rattle.utf8.specs.Lowering as lowering
use Rattle.pieces.specs.Pieces as pieces
use Rattle.asciiaddress.specs.Ascii as ascii·address
use Rattle.labels.specs.Labels as labels
use Rattle.address.specs.Address as address
use Rattle.grammar.specs.Grammar as grammar
use Rattle.addresslist.specs.List as list
use Rattle.date.specs.Date as date
use Rattle.attributes.specs.Attribute as attributes
use Rattle.attributes.specs.Step as steps
use Rattle.keyfield.specs.Field as keyfield
use Rattle.slots.specs.Slot as slots
use Rattle.heads.specs.Entry.{Entry, newcomer, seen_by, with_direct}
use Rattle.table.specs.Table as table
use Rattle.table.specs.Table.{checked_by, checked, found, is_at}
use Rattle.table.specs.Entries.{entry_in}
use Rattle.table.specs.declared.Checked.TheVariants.{Sound}
use Rattle.advice.specs.Advice as advice
use Rattle.update.specs.Update as update
use Rattle.update.specs.Message as brought
use Rattle.update.specs.Message.{Message, GoodMessage, has_room, applied, entry_after}
use Rattle.update.proofs.Room.{stands_present, newcomer_not}
use Rattle.update.proofs.Applying.{applied_sound, applied_octets, applied_entry}
use Rattle.fields.specs.Fields as fields
use Rattle.outer.specs.Outer as outer_specs
use Rattle.keys.specs.Keys as keys
use Rattle.slots.specs.Slot.{key_limit}
use Rattle.message.specs.Message as message
use Rattle.message.specs.Message.{message_rows, message_of}
use Rattle.refusals.specs.Rows.{first_of}
use Rattle.refusals.specs.declared.Refusal.TheVariants.{NoFreeSlot}
use Rattle.refusals.proofs.Rows.{done_is}
use Rattle.octets.specs.Tests as tests
use Rattle.runs.specs.Runs as runs
use Rattle.settings.specs.Settings as settings
use Rattle.process.specs.Processing.{refused_processing}
use Rattle.settings.specs.declared.Gossip.TheVariants.{Unset}
use Rattle.process.proofs.Outcomes.{message_fits, done_left}
use Rattle.recommend.specs.Recommending.{target_key_of}
use Rattle.order.specs.Fetching.{Agree, SayTheSame}
use Rattle.order.specs.Calls.{Call, OctetCall, left_by_all, answers_of, answer_to, left_by, message_in, table_after, answers}
use Rattle.trip.proofs.HandedOut.{alone_taken}
use Rattle.trip.proofs.WorkedTrip.{tested, free}
use Rattle.order.proofs.FetchCalls.{brings_message, call_good, calls_in_any_order}

abbrev ann : List ℕ
ann = ascii "ann@a.example"

-- a mail of Ann's with a key, and what it brings
abbrev mail : String → ℕ → Call
mail letters receipt =
    record {
      receipt = receipt;
      outer = ascii "From: Ann <Ann@a.example>\r\nAutocrypt: addr=ann@a.example; keydata=" ++ (ascii letters ++ ascii "\r\n");
      payload = [];
      setting = Unset;
    }

abbrev bringing : String → ℕ → Message
bringing key receipt =
    record { sender = ann; date = receipt; direct = Some (record { timestamp = receipt; key = ascii key; «mutual» = false }); gossip = [] }

abbrev older : Call
older = mail "Zm9v" 1000

abbrev younger : Call
younger = mail "YmFy" 2000

-- a call that none of 3 to 7 refuses, and what it brings
pub record Reads (c : Call) (m : Message) : Type 0 where
  pub in_order : first_of (message_rows c.receipt c.outer c.payload c.setting) ≡ None
  pub brings : message_of key_limit c.receipt c.outer c.payload c.setting ≡ m

reads : Reads older (bringing "foo" 1000) × Reads younger (bringing "bar" 2000)
unfolding message_rows message_of first_of is_some or_else message.payload_in settings.taken message.message_by message.direct_by octets.lower octets.lowered octets.same_name octets.same_octets octets.starts_with blank tokens.past tokens.kind_of tokens.control runs.belongs runs.run tokens.after_quote base64.decode base64.follow base64.before base64.at_end base64.grouped base64.closed base64.sign_of tests.without header.fields_of header.fields header.fields_within in_front header.unfolded header.over header.of_ending header.opens_field header.raw_length header.closes header.is_report tests.every pieces.on_first pieces.pieces pieces.before pieces.behind ascii·address.atom ascii·address.local_part ascii·address.free_ends labels.label_octet labels.label_form labels.fits labels.label labels.labelled address.domain address.domain_form address.address_form address.plain address.canonical pieces.from lowering.lower_text lowering.lower_points lowering.lower_point utf8.points utf8.tails utf8.lead_of utf8.encoded utf8.encoded_one list.opening_of holds list.run_token list.quoted_token list.token_at list.first_token grammar.after_address grammar.after list.listed_by list.listed list.addresses only_one date.effective_date attributes.trimmed_front attributes.trimmed_back attributes.trimmed attributes.name_of attributes.attribute attributes.attribute_of steps.with_address steps.with_preference steps.step keyfield.said_with keyfield.if_last keyfield.said_from keyfield.said_of keyfield.limited keyfield.key_of keyfield.with_key keyfield.field_by keyfield.field_of keyfield.naming keyfield.valid_for keyfield.chosen keyfield.valid_fields keyfield.counted fields.fields_in fields.is_kind fields.values_of outer_specs.canonical_of outer_specs.sender_by outer_specs.sender_in outer_specs.any_report outer_specs.is_reported outer_specs.date_by outer_specs.date_in keys.counted_in keys.accepted keys.gossip_in pieces.following pieces.joined
reads = (record { in_order = refl; brings = refl }, record { in_order = refl; brings = refl })

free_octets : AllOctets free
free_octets = replicate_octets 4392 0 (omega arith)

free_sound : checked free ≡ Sound
unfolding checked_by table.whole table.slots table.judged_by table.right_by table.slot_at slots.free octets.all_zero
free_sound = refl

free_nobody : entry_in free ann ≡ None
unfolding entry_in found table.lowest table.has_address table.slots table.slot_at slots.marked slots.address_of number octets.same_octets
free_nobody = refl

-- room for Ann in the free slot, and wherever she has an entry
module _ (key : String) (receipt : ℕ) where
  free_room : has_room free (bringing key receipt) ≡ true
  unfolding has_room brought.newcomers brought.addresses_of brought.gossip_addresses found table.lowest table.has_address table.free_count table.how_many table.unused table.slots table.slot_at slots.marked slots.address_of number octets.same_octets list.among
  free_room = refl

  known_room : (t : List ℕ) → is_at (found t ann) ≡ true → has_room t (bringing key receipt) ≡ true
  unfolding has_room brought.newcomers brought.addresses_of brought.gossip_addresses
  known_room t e =
      ap (λ (new : List (List ℕ)). leb (length new) (table.free_count t)) (newcomer_not t [] ann [] (rw e)) ∙ le-leb 0 (table.free_count t) (omega arith)

  leaves_ann : (e : Option Entry) → is_some (entry_after (bringing key receipt) ann e) ≡ true
  unfolding entry_after brought.entry_heard brought.entry_put octets.same_octets is_some
  leaves_ann e = refl

-- a call that brings a message for which there is room
module _ (c : Call) (m : Message) (e : Reads c m) where
  brings_it : message_in c ≡ Some m
  brings_it = brings_message c e.in_order ∙ ap Some e.brings

  module _ (t : List ℕ) (s : checked t ≡ Sound) (r : has_room t m ≡ true) where
    none_holds : refused_processing t c.receipt c.outer c.payload c.setting ≡ None
    none_holds = message_fits t c.receipt c.outer c.payload c.setting s e.in_order (rw e.brings r)

    done : answer_to t c ≡ Ok tt
    unfolding answer_to
    done = done_is Err (Ok tt) _ none_holds

    leaves : left_by t c ≡ applied t m
    unfolding left_by
    leaves = done_left t c.receipt c.outer c.payload c.setting none_holds ∙ ap (applied t) e.brings

-- one mail of Ann's behind another: the first takes the free slot, the second finds its entry
module _ (c : Call) (o : OctetCall c) (key : String) (at : ℕ) (e : Reads c (bringing key at)) where
  abbrev first : List ℕ
  first = applied free (bringing key at)

  good : GoodMessage (bringing key at)
  good = call_good c o (bringing key at) (brings_it c (bringing key at) e)

  first_done : answer_to free c ≡ Ok tt
  first_done = done c (bringing key at) e free free_sound (free_room key at)

  first_left : left_by free c ≡ first
  first_left = leaves c (bringing key at) e free free_sound (free_room key at)

  first_sound : checked first ≡ Sound
  first_sound = applied_sound free (bringing key at) good free_sound free_octets

  first_octets : AllOctets first
  first_octets = applied_octets free (bringing key at) good free_sound free_octets

  first_entry : entry_in first ann ≡ entry_after (bringing key at) ann None
  first_entry =
      applied_entry free (bringing key at) good free_sound free_octets (free_room key at) ann
      ∙ ap (entry_after (bringing key at) ann) free_nobody

  module _ (d : Call) (p : OctetCall d) (next : String) (then : ℕ) (f : Reads d (bringing next then)) where
    next_room : has_room first (bringing next then) ≡ true
    next_room = known_room next then first (stands_present first ann ∙ ap is_some first_entry ∙ leaves_ann key at None)

    next_done : answer_to first d ≡ Ok tt
    next_done = done d (bringing next then) f first first_sound next_room

    next_left : left_by first d ≡ applied first (bringing next then)
    next_left = leaves d (bringing next then) f first first_sound next_room

    next_good : GoodMessage (bringing next then)
    next_good = call_good d p (bringing next then) (brings_it d (bringing next then) f)

    both_done : answers free (c ∷ d ∷ []) ≡ Ok tt ∷ (Ok tt) ∷ []
    unfolding answers_of
    both_done = rw (first_done, first_left, next_done)

    both_after : table_after free (c ∷ d ∷ []) ≡ applied first (bringing next then)
    unfolding left_by_all
    both_after = ap (λ (t : List ℕ). left_by t d) first_left ∙ next_left

    both_sound : checked (table_after free (c ∷ d ∷ [])) ≡ Sound
    both_sound = rw both_after (applied_sound first (bringing next then) next_good first_sound first_octets)

    both_entry : entry_in (table_after free (c ∷ d ∷ [])) ann ≡ entry_after (bringing next then) ann (entry_after (bringing key at) ann None)
    both_entry =
        ap (λ (t : List ℕ). entry_in t ann) both_after
        ∙ applied_entry first (bringing next then) next_good first_sound first_octets next_room ann
        ∙ ap (entry_after (bringing next then) ann) first_entry

-- the two mails
older_octets : OctetCall older
unfolding tests.every
older_octets = record { outer = tested older.outer refl; payload = tested [] refl }

younger_octets : OctetCall younger
unfolding tests.every
younger_octets = record { outer = tested younger.outer refl; payload = tested [] refl }

older_first : answers free (older ∷ younger ∷ []) ≡ Ok tt ∷ (Ok tt) ∷ []
older_first = both_done older older_octets "foo" 1000 reads.0 younger younger_octets "bar" 2000 reads.1

younger_first : answers free (younger ∷ older ∷ []) ≡ Ok tt ∷ (Ok tt) ∷ []
younger_first = both_done younger younger_octets "bar" 2000 reads.1 older older_octets "foo" 1000 reads.0

no_eight : (list : List (Result (Unit {0}) Refusal)) → list ≡ Ok tt ∷ (Ok tt) ∷ [] → Memᴰ (Err NoFreeSlot) list → ⊥
no_eight list e i = ⊎_elim not_done (λ j. ⊎_elim not_done Memᴰ.not-nil (Memᴰ.cases_cons j)) (Memᴰ.cases_cons (rw e at i))
  where
    not_done : ◌≡◌ {A = Result (Unit {0}) Refusal} (Err NoFreeSlot) (Ok tt) → ⊥
    not_done q = let z : ◌≡◌ {A = ℕ} 0 1 = cc in omega arith

-- a mail agrees with itself, and with any of another date
same_agrees : (m n : Message) → m ≡ n → Agree m n
same_agrees m n e =
    record {
      direct = λ a c d p q same. let r : Some c ≡ Some d = sym p ∙ rw e q in let s : c ≡ d = cc in (rw s, rw s);
      gossip = λ a key other p q same. let r : Some key ≡ Some other = sym p ∙ rw e q in cc;
    }

dates_agree : (m n : Message) → (m.date ≡ n.date → ⊥) → Agree m n
dates_agree m n apart = record { direct = λ a c d p q same. absurd (apart same); gossip = λ a key other p q same. absurd (apart same) }

-- what holds of the two holds of each
abbrev both : List Call
both = older ∷ younger ∷ []

each : (P : Call → Type 0) → P older → P younger → (c : Call) → Memᴰ c both → P c
each P p q c i =
    ⊎_elim (λ e. rw e p) (λ j. ⊎_elim (λ e. rw e q) (λ k. absurd (Memᴰ.not-nil k)) (Memᴰ.cases_cons j)) (Memᴰ.cases_cons i)

one_of_both : (m : Message) (c : Call) → Memᴰ c both → message_in c ≡ Some m → (m ≡ bringing "foo" 1000) ⊎ (m ≡ bringing "bar" 2000)
one_of_both m =
    each (λ c. message_in c ≡ Some m → (m ≡ bringing "foo" 1000) ⊎ (m ≡ bringing "bar" 2000))
    (λ e. inl (let q : Some m ≡ Some (bringing "foo" 1000) = sym e ∙ brings_it older (bringing "foo" 1000) reads.0 in cc))
    (λ e. inr (let q : Some m ≡ Some (bringing "bar" 2000) = sym e ∙ brings_it younger (bringing "bar" 2000) reads.1 in cc))

apart : (m n : Message) → m ≡ bringing "foo" 1000 → n ≡ bringing "bar" 2000 → m.date ≡ n.date → ⊥
apart m n p q s = let z : ◌≡◌ {A = ℕ} 1000 2000 = sym (ap (λ (x : Message). x.date) p) ∙ s ∙ ap (λ (x : Message). x.date) q in omega arith

both_agree : (c d : Call) → Memᴰ c both → Memᴰ d both → (m n : Message) → message_in c ≡ Some m → message_in d ≡ Some n → Agree m n
both_agree c d i j m n e f =
    ⊎_elim
    (λ p. ⊎_elim (λ q. same_agrees m n (p ∙ sym q)) (λ q. dates_agree m n (apart m n p q)) (one_of_both n d j f))
    (λ p. ⊎_elim (λ q. dates_agree m n (λ s. apart n m q p (sym s))) (λ q. same_agrees m n (p ∙ sym q)) (one_of_both n d j f))
    (one_of_both m c i e)

pub either_order : SayTheSame (table_after free (older ∷ younger ∷ [])) (table_after free (younger ∷ older ∷ []))
either_order =
    calls_in_any_order free both (younger ∷ older ∷ []) free_octets free_sound (each OctetCall older_octets younger_octets) (Permᴰ.swap refl refl)
    (no_eight (answers free both) older_first)
    (no_eight (answers free (younger ∷ older ∷ [])) younger_first)
    both_agree

pub younger_stands : target_key_of (table_after free (older ∷ younger ∷ [])) ann 0 ≡ ascii "bar"
unfolding advice.target_in advice.target_of advice.target_by advice.direct_of advice.gossip_of entry_after brought.entry_heard brought.entry_put update.updated update.taking update.stays update.above newcomer seen_by with_direct octets.same_octets octets.lowered octets.lower address.canonical pieces.from lowering.lower_text lowering.lower_points lowering.lower_point utf8.points utf8.tails utf8.lead_of utf8.encoded utf8.encoded_one in_front address.plain ascii·address.local_part ascii·address.atom address.domain address.domain_form address.address_form labels.label_octet labels.label_form labels.fits labels.label labels.labelled ascii·address.free_ends tests.every pieces.on_first pieces.pieces pieces.before pieces.behind runs.belongs blank or_else pieces.following pieces.joined
younger_stands =
    alone_taken (table_after free both) ann (both_sound older older_octets "foo" 1000 reads.0 younger younger_octets "bar" 2000 reads.1) refl
    ∙ ap advice.target_of (both_entry older older_octets "foo" 1000 reads.0 younger younger_octets "bar" 2000 reads.1)

pub younger_stands_too : target_key_of (table_after free (younger ∷ older ∷ [])) ann 0 ≡ ascii "bar"
younger_stands_too = sym (either_order.target_key_same ann 0) ∙ younger_stands
