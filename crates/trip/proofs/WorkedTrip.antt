-- C7 and C9, worked out: a field is written for Bob@B.example, mutual, key `foo`, sent from there and processed on one free slot at the time 1000.
-- All premises hold by computing, and so the entry is as the theorem says. Assumes nothing.
--     sound, in_order, room, done        no row holds: the answer is 0
--     foo_is_there, foo_is_handed_out    the entry afterwards, and the key to encrypt to
use Prim.Native.Nat.{ℕ, zero, suc}
use mathlib.Core.Path.{◌≡◌, refl, ap, ◌∙◌}
use mathlib.Core.Bool.{true}
use mathlib.Core.List.{List, [], ◌∷◌}
use Rattle.std.specs.Prelude.{Some, None, Ok, Err}
use native.Mathlib.Omega.{arith}
use borrow.Author.Tests.{leb-true}
use lib.Dec.{leb}
use lib.ListN.{replicate}
use Rattle.octets.specs.Octets as octets
use Rattle.octets.specs.Octets.{ascii, AllOctets, blank}
use Rattle.octets.specs.Numbers.{number}
use Rattle.octets.specs.Options.{is_some, in_front, only_one, or_else}
use Rattle.octets.specs.Finding.{holds}
use Rattle.octets.proofs.Joined.{replicate_octets}
use Rattle.tokens.specs.Tokens as tokens
use Rattle.letters.specs.Base64 as base64
use Rattle.header.specs.Header as header
use Rattle.header.specs.Blocks.{is_raw}
use Rattle.utf8.specs.Utf8 as utf8
use Rattle.utf8.specs.Lowering as lowering
use Rattle.pieces.specs.Pieces as pieces
use Rattle.asciiaddress.specs.Ascii as ascii·address
use Rattle.labels.specs.Labels as labels
use Rattle.address.specs.Address as address
use Rattle.grammar.specs.Grammar as grammar
use Rattle.addresslist.specs.List as list
use Rattle.date.specs.Date as date
use Rattle.keyfield.specs.Field as keyfield
use Rattle.writer.specs.Writing as writer
use Rattle.slots.specs.Slot as slots
use Rattle.table.specs.Table as table
use Rattle.table.specs.Entries.{entry_in}
use Rattle.table.specs.declared.Checked.TheVariants.{Sound}
use Rattle.update.specs.Update as update
use Rattle.update.specs.Message as brought
use Rattle.fields.specs.Fields as fields
use Rattle.outer.specs.Outer as outer_specs
use Rattle.keys.specs.Keys as keys
use Rattle.slots.specs.Slot.{key_limit}
use Rattle.message.specs.Message as message
use Rattle.message.specs.Message.{message_rows, message_of}
use Rattle.refusals.specs.Rows.{first_of, answer_of}
use Rattle.refusals.proofs.Rows.{done_is}
use Rattle.octets.specs.Tests.{every}
use Rattle.octets.proofs.Tests.{and_left, and_right}
use Rattle.runs.specs.Runs as runs
use Rattle.keylines.specs.Lines as lines
use Rattle.settings.specs.Settings as settings
use Rattle.process.specs.Processing.{refused_processing, left_by_processing}
use Rattle.settings.specs.declared.Gossip.TheVariants.{Unset}
use Rattle.process.proofs.Outcomes.{message_fits}
use Rattle.recommend.specs.Recommending.{target_key_of}
use Rattle.write.specs.Writing.{autocrypt_field}
use Rattle.trip.specs.RoundTrip.{one, none as no_lines, Writable, Holding, behind, others}
use Rattle.trip.specs.Standing.{direct_half}
use Rattle.trip.proofs.WholeTrip.{autocrypt_processed}
use Rattle.trip.proofs.HandedOut.{key_handed_out}

-- octets that a test finds to be octets
pub tested : (s : List ℕ) → every (λ x. leb x 255) s ≡ true → AllOctets s
unfolding every
tested [] e i = omega arith
tested (x ∷ s) e zero = let l = leb-true x 255 (and_left (leb x 255) (every (λ y. leb y 255) s) e) in omega arith
tested (x ∷ s) e (suc i) = tested s (and_right (leb x 255) (every (λ y. leb y 255) s) e) i

abbrev pub free : List ℕ
free = replicate 4392 0

abbrev address_given : List ℕ
address_given = ascii "Bob@B.example"

abbrev front : List ℕ
front = ascii "From: Bob@B.example\r\n"

abbrev outer : List ℕ
outer = ascii "From: Bob@B.example\r\nAutocrypt: addr=bob@b.example; prefer-encrypt=mutual; keydata=\r\n Zm9v\r\n"

writable : Writable address_given (ascii "foo")
unfolding address.plain ascii·address.local_part ascii·address.atom address.domain address.domain_form address.address_form labels.label_octet labels.label_form labels.fits labels.label labels.labelled ascii·address.free_ends every pieces.on_first pieces.pieces pieces.before pieces.behind runs.belongs blank pieces.following pieces.joined or_else lowering.lower_text lowering.lower_points lowering.lower_point utf8.points utf8.tails utf8.lead_of utf8.encoded utf8.encoded_one octets.lowered octets.lower in_front
writable = record { plainly = refl; octets = tested (ascii "foo") refl; limit = refl }

holding : Holding outer (autocrypt_field address_given true (ascii "foo"))
unfolding autocrypt_field writer.written writer.field_text writer.preference address.canonical pieces.before lowering.lower_text lowering.lower_points lowering.lower_point utf8.points utf8.tails utf8.lead_of utf8.encoded utf8.encoded_one in_front octets.lowered octets.lower base64.encode base64.letter lines.lines lines.laid runs.belongs blank runs.run header.closes header.of_ending header.unfolded is_raw pieces.following pieces.joined or_else address.domain address.domain_form address.address_form address.plain labels.label_octet labels.label_form labels.fits labels.label labels.labelled ascii·address.atom ascii·address.local_part ascii·address.free_ends pieces.on_first pieces.pieces pieces.behind every
holding =
    record {
      front = front;
      before = record { name = ascii "From"; value = ascii " Bob@B.example" } ∷ [];
      whole_fields = one (ascii "From") (ascii " Bob@B.example\r\n") [] [] refl (omega arith) refl no_lines;
      rest = [];
      no_continuation = refl;
      is = refl;
    }

sound : table.checked free ≡ Sound
unfolding table.checked_by table.whole table.slots table.judged_by table.right_by table.slot_at slots.free octets.all_zero
sound = refl

in_order : first_of (message_rows 1000 outer [] Unset) ≡ None
unfolding is_some octets.same_octets octets.same_name octets.lowered octets.lower header.fields_of header.fields header.fields_within in_front header.unfolded header.over header.of_ending header.opens_field runs.run header.raw_length runs.belongs header.closes header.is_report list.opening_of holds list.run_token list.quoted_token list.token_at list.first_token grammar.after_address grammar.after list.listed_by list.listed list.addresses only_one or_else address.plain ascii·address.local_part ascii·address.atom address.domain address.domain_form address.address_form labels.label_octet labels.label_form labels.fits labels.label labels.labelled ascii·address.free_ends address.canonical pieces.from lowering.lower_text lowering.lower_points lowering.lower_point utf8.points utf8.tails utf8.lead_of utf8.encoded utf8.encoded_one every pieces.on_first pieces.pieces pieces.before pieces.behind blank tokens.past tokens.kind_of tokens.control tokens.after_quote fields.fields_in fields.is_kind fields.values_of outer_specs.canonical_of outer_specs.sender_by outer_specs.sender_in outer_specs.any_report outer_specs.is_reported settings.taken message_rows first_of pieces.following pieces.joined
in_order = refl

sender_is : outer_specs.sender_in (fields.fields_in outer) ≡ Some (ascii "bob@b.example")
unfolding octets.same_octets octets.same_name octets.lowered octets.lower header.fields_of header.fields header.fields_within in_front header.unfolded header.over header.of_ending header.opens_field runs.run header.raw_length runs.belongs header.closes header.is_report list.opening_of holds list.run_token list.quoted_token list.token_at list.first_token grammar.after_address grammar.after list.listed_by list.listed list.addresses only_one or_else address.plain ascii·address.local_part ascii·address.atom address.domain address.domain_form address.address_form labels.label_octet labels.label_form labels.fits labels.label labels.labelled ascii·address.free_ends address.canonical pieces.from lowering.lower_text lowering.lower_points lowering.lower_point utf8.points utf8.tails utf8.lead_of utf8.encoded utf8.encoded_one every pieces.on_first pieces.pieces pieces.before pieces.behind blank tokens.past tokens.kind_of tokens.control tokens.after_quote fields.fields_in fields.is_kind fields.values_of outer_specs.canonical_of outer_specs.sender_by outer_specs.sender_in outer_specs.any_report outer_specs.is_reported pieces.following pieces.joined
sender_is = refl

room_for : brought.has_room free (message.message_by key_limit 1000 (ascii "bob@b.example") (fields.fields_in outer) []) ≡ true
unfolding brought.has_room brought.newcomers brought.addresses_of brought.gossip_addresses message.message_by keyfield.chosen keys.accepted keys.gossip_in fields.values_of table.found table.lowest table.has_address table.free_count table.how_many table.unused table.slots table.slot_at slots.marked slots.address_of number octets.same_octets list.among
room_for = refl

room : brought.has_room free (message_of key_limit 1000 outer [] Unset) ≡ true
unfolding message_of or_else message.payload_in settings.taken fields.fields_in header.fields_of header.fields header.fields_within header.over
room = rw sender_is room_for

done : answer_of (refused_processing free 1000 outer [] Unset) ≡ Ok tt
done = done_is Err (Ok tt) (refused_processing free 1000 outer [] Unset) (message_fits free 1000 outer [] Unset sound in_order room)

foo_is_there : direct_half (entry_in (left_by_processing free 1000 outer [] Unset) (ascii "bob@b.example"))
    ≡ Some (record { timestamp = 1000; key = ascii "foo"; «mutual» = true })
unfolding holding others behind direct_half entry_in update.younger update.stays table.found table.lowest table.has_address table.slots table.slot_at slots.marked slots.address_of number octets.same_octets octets.same_name octets.lowered octets.lower header.fields_of header.fields header.fields_within in_front header.unfolded header.over header.of_ending header.opens_field runs.run header.raw_length runs.belongs header.closes list.opening_of holds list.run_token list.quoted_token list.token_at list.first_token grammar.after_address grammar.after list.listed_by list.listed list.addresses only_one or_else address.plain ascii·address.local_part ascii·address.atom address.domain address.domain_form address.address_form labels.label_octet labels.label_form labels.fits labels.label labels.labelled ascii·address.free_ends address.canonical pieces.from lowering.lower_text lowering.lower_points lowering.lower_point utf8.points utf8.tails utf8.lead_of utf8.encoded utf8.encoded_one every pieces.on_first pieces.pieces pieces.before pieces.behind blank tokens.past tokens.kind_of tokens.control tokens.after_quote date.effective_date keyfield.valid_fields fields.fields_in fields.is_kind fields.values_of outer_specs.canonical_of outer_specs.sender_by outer_specs.sender_in outer_specs.date_by outer_specs.date_in keyfield.chosen pieces.following pieces.joined
foo_is_there =
    let h = autocrypt_processed free 1000 outer [] Unset (replicate_octets 4392 0 (omega arith)) (tested outer refl) (tested [] refl) done address_given (ascii "foo") true writable holding refl refl in
    ap direct_half h.there ∙ h.set refl

foo_is_handed_out : target_key_of (left_by_processing free 1000 outer [] Unset) address_given 0 ≡ ascii "foo"
unfolding holding others behind direct_half entry_in update.younger update.stays table.found table.lowest table.has_address table.slots table.slot_at slots.marked slots.address_of number octets.same_octets octets.same_name octets.lowered octets.lower header.fields_of header.fields header.fields_within in_front header.unfolded header.over header.of_ending header.opens_field runs.run header.raw_length runs.belongs header.closes list.opening_of holds list.run_token list.quoted_token list.token_at list.first_token grammar.after_address grammar.after list.listed_by list.listed list.addresses only_one or_else address.plain ascii·address.local_part ascii·address.atom address.domain address.domain_form address.address_form labels.label_octet labels.label_form labels.fits labels.label labels.labelled ascii·address.free_ends address.canonical pieces.from lowering.lower_text lowering.lower_points lowering.lower_point utf8.points utf8.tails utf8.lead_of utf8.encoded utf8.encoded_one every pieces.on_first pieces.pieces pieces.before pieces.behind blank tokens.past tokens.kind_of tokens.control tokens.after_quote date.effective_date keyfield.valid_fields fields.fields_in fields.is_kind fields.values_of outer_specs.canonical_of outer_specs.sender_by outer_specs.sender_in outer_specs.date_by outer_specs.date_in keyfield.chosen pieces.following pieces.joined
foo_is_handed_out =
    key_handed_out free 1000 outer [] Unset (replicate_octets 4392 0 (omega arith)) (tested outer refl) (tested [] refl) done address_given (ascii "foo") true writable holding refl refl refl
