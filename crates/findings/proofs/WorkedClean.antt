-- C23, worked out: `write_autocrypt` wrote a field for Bob@B.example, mutual, with the key `foo`, and `write_gossip` one for c@d. The first stands in a mail
-- from there to C@D, the second in its payload. All premises hold by computing, and so there is no fault, as the theorem says. Assumes nothing.
--     own_left, gossip_left      what the two calls left
--     own_stands, gossip_stand   where it stands
--     clean                      no fault is counted
use Rattle.std.specs.Prelude.{Ok}
use mathlib.Core.Path.{◌≡◌, refl}
use mathlib.Core.Bool.{true, false}
use mathlib.Core.List.{List, [], ◌∷◌, ◌++◌}
use Prim.Native.Nat.{ℕ}
use native.Mathlib.Omega.{arith}
use lib.ListN.{length, replicate}
use Rattle.octets.specs.Octets as octets
use Rattle.octets.specs.Options.{is_some, in_front, only_one, or_else}
use Rattle.octets.specs.Finding.{holds}
use Rattle.octets.specs.Tests as tests
use Rattle.runs.specs.Runs as runs
use Rattle.tokens.specs.Tokens as tokens
use Rattle.letters.specs.Base64 as base64
use Rattle.header.specs.Header as header
use Rattle.utf8.specs.Utf8 as utf8
use Rattle.utf8.specs.Lowering as lowering
use Rattle.pieces.specs.Pieces as pieces
use Rattle.asciiaddress.specs.Ascii as ascii·address
use Rattle.labels.specs.Labels as labels
use Rattle.address.specs.Address as address
use Rattle.grammar.specs.Grammar as grammar
use Rattle.addresslist.specs.List as list
use Rattle.attributes.specs.Attribute as attributes
use Rattle.attributes.specs.Step as steps
use Rattle.keyfield.specs.Field as keyfield
use Rattle.fields.specs.Fields as fields
use Rattle.outer.specs.Outer as outer
use Rattle.octets.specs.Octets.{ascii}
use Rattle.octets.specs.Written.{onto}
use Rattle.refusals.specs.Rows.{first_of, answered_by}
use Rattle.header.specs.Blocks.{is_raw}
use Rattle.keylines.specs.Lines as lines
use Rattle.names.specs.Names.{autocrypt as autocrypt_name, gossip as gossip_name}
use Rattle.writer.specs.Writing as writer
use Rattle.write.specs.Writing.{writing_rows, refused_writing, written_of, left_by_writing}
use Rattle.lint.specs.Linting.{linted_of}
use Rattle.trip.specs.RoundTrip.{none as no_lines, one, behind, others}
use Rattle.trip.proofs.WorkedTrip.{tested}
use Rattle.findings.specs.Clean.{Left}
use Rattle.findings.specs.Standing.{OwnStands, GossipStand, last, next}
use Rattle.findings.proofs.Standing.{blocks_clean}

abbrev own : List ℕ
own = ascii "Autocrypt: addr=bob@b.example; prefer-encrypt=mutual; keydata=\r\n Zm9v\r\n"

abbrev told : List ℕ
told = ascii "Autocrypt-Gossip: addr=c@d; keydata=\r\n Zm9v\r\n"

abbrev front : List ℕ
front = ascii "From: Bob@B.example\r\nTo: C@D\r\n"

abbrev mail : List ℕ
mail = front ++ (own ++ [])

abbrev inner : List ℕ
inner = [] ++ (told ++ [])

own_left : Left autocrypt_name (ascii "Bob@B.example") true own
unfolding octets.lower octets.lowered octets.same_name octets.same_octets octets.starts_with octets.blank tokens.past tokens.kind_of tokens.control runs.belongs runs.run tokens.after_quote base64.decode base64.follow base64.before base64.at_end base64.grouped base64.closed base64.sign_of tests.without header.fields_of header.fields header.fields_within in_front header.unfolded header.over header.of_ending header.opens_field header.raw_length header.closes tests.every pieces.on_first pieces.pieces pieces.before pieces.behind ascii·address.atom ascii·address.local_part ascii·address.free_ends labels.label_octet labels.label_form labels.fits labels.label labels.labelled address.domain address.domain_form address.address_form address.plain address.canonical pieces.from lowering.lower_text lowering.lower_points lowering.lower_point utf8.points utf8.tails utf8.lead_of utf8.encoded utf8.encoded_one list.opening_of holds list.run_token list.quoted_token list.token_at list.first_token grammar.after_address grammar.after list.listed_by list.listed list.addresses list.among is_some only_one or_else attributes.trimmed_front attributes.trimmed_back attributes.trimmed attributes.name_of attributes.attribute attributes.attribute_of steps.with_address steps.with_preference steps.step keyfield.said_with keyfield.if_last keyfield.said_from keyfield.said_of keyfield.limited keyfield.key_of keyfield.with_key keyfield.field_by keyfield.field_of keyfield.naming keyfield.valid_for fields.fields_in fields.is_kind fields.values_of outer.canonical_of outer.sender_by outer.sender_in outer.addresses_in outer.recipients_in pieces.following pieces.joined writer.written writer.field_text writer.preference base64.encode base64.letter lines.lines lines.laid is_raw written_of left_by_writing refused_writing writing_rows first_of answered_by onto
own_left = record { key = ascii "foo"; key_octets = tested (ascii "foo") refl; out = replicate 100 0; long = length own; done = refl; is = refl }

gossip_left : Left gossip_name (ascii "c@d") false told
unfolding octets.lower octets.lowered octets.same_name octets.same_octets octets.starts_with octets.blank tokens.past tokens.kind_of tokens.control runs.belongs runs.run tokens.after_quote base64.decode base64.follow base64.before base64.at_end base64.grouped base64.closed base64.sign_of tests.without header.fields_of header.fields header.fields_within in_front header.unfolded header.over header.of_ending header.opens_field header.raw_length header.closes tests.every pieces.on_first pieces.pieces pieces.before pieces.behind ascii·address.atom ascii·address.local_part ascii·address.free_ends labels.label_octet labels.label_form labels.fits labels.label labels.labelled address.domain address.domain_form address.address_form address.plain address.canonical pieces.from lowering.lower_text lowering.lower_points lowering.lower_point utf8.points utf8.tails utf8.lead_of utf8.encoded utf8.encoded_one list.opening_of holds list.run_token list.quoted_token list.token_at list.first_token grammar.after_address grammar.after list.listed_by list.listed list.addresses list.among is_some only_one or_else attributes.trimmed_front attributes.trimmed_back attributes.trimmed attributes.name_of attributes.attribute attributes.attribute_of steps.with_address steps.with_preference steps.step keyfield.said_with keyfield.if_last keyfield.said_from keyfield.said_of keyfield.limited keyfield.key_of keyfield.with_key keyfield.field_by keyfield.field_of keyfield.naming keyfield.valid_for fields.fields_in fields.is_kind fields.values_of outer.canonical_of outer.sender_by outer.sender_in outer.addresses_in outer.recipients_in pieces.following pieces.joined writer.written writer.field_text writer.preference base64.encode base64.letter lines.lines lines.laid is_raw written_of left_by_writing refused_writing writing_rows first_of answered_by onto
gossip_left = record { key = ascii "foo"; key_octets = tested (ascii "foo") refl; out = replicate 100 0; long = length told; done = refl; is = refl }

own_stands : OwnStands (ascii "bob@b.example") mail
unfolding octets.lower octets.lowered octets.same_name octets.same_octets octets.starts_with octets.blank tokens.past tokens.kind_of tokens.control runs.belongs runs.run tokens.after_quote base64.decode base64.follow base64.before base64.at_end base64.grouped base64.closed base64.sign_of tests.without header.fields_of header.fields header.fields_within in_front header.unfolded header.over header.of_ending header.opens_field header.raw_length header.closes tests.every pieces.on_first pieces.pieces pieces.before pieces.behind ascii·address.atom ascii·address.local_part ascii·address.free_ends labels.label_octet labels.label_form labels.fits labels.label labels.labelled address.domain address.domain_form address.address_form address.plain address.canonical pieces.from lowering.lower_text lowering.lower_points lowering.lower_point utf8.points utf8.tails utf8.lead_of utf8.encoded utf8.encoded_one list.opening_of holds list.run_token list.quoted_token list.token_at list.first_token grammar.after_address grammar.after list.listed_by list.listed list.addresses list.among is_some only_one or_else attributes.trimmed_front attributes.trimmed_back attributes.trimmed attributes.name_of attributes.attribute attributes.attribute_of steps.with_address steps.with_preference steps.step keyfield.said_with keyfield.if_last keyfield.said_from keyfield.said_of keyfield.limited keyfield.key_of keyfield.with_key keyfield.field_by keyfield.field_of keyfield.naming keyfield.valid_for fields.fields_in fields.is_kind fields.values_of outer.canonical_of outer.sender_by outer.sender_in outer.addresses_in outer.recipients_in pieces.following pieces.joined writer.written writer.field_text writer.preference base64.encode base64.letter lines.lines lines.laid is_raw written_of left_by_writing refused_writing writing_rows first_of answered_by onto others behind
own_stands =
    record {
      address = ascii "Bob@B.example";
      prefers = true;
      octets = own;
      left = own_left;
      ours = refl;
      stands =
          record {
            front = front;
            before = record { name = ascii "From"; value = ascii " Bob@B.example" } ∷ record { name = ascii "To"; value = ascii " C@D" } ∷ [];
            whole_fields =
                one (ascii "From") (ascii " Bob@B.example\r\n") (ascii "To: C@D\r\n") _ refl (omega arith) refl
                (one (ascii "To") (ascii " C@D\r\n") [] [] refl (omega arith) refl no_lines);
            rest = [];
            no_continuation = refl;
            is = refl;
          };
      alone = refl;
      without_gossip = refl;
    }

gossip_stand : GossipStand (outer.recipients_in (fields.fields_in mail)) inner
unfolding octets.lower octets.lowered octets.same_name octets.same_octets octets.starts_with octets.blank tokens.past tokens.kind_of tokens.control runs.belongs runs.run tokens.after_quote base64.decode base64.follow base64.before base64.at_end base64.grouped base64.closed base64.sign_of tests.without header.fields_of header.fields header.fields_within in_front header.unfolded header.over header.of_ending header.opens_field header.raw_length header.closes tests.every pieces.on_first pieces.pieces pieces.before pieces.behind ascii·address.atom ascii·address.local_part ascii·address.free_ends labels.label_octet labels.label_form labels.fits labels.label labels.labelled address.domain address.domain_form address.address_form address.plain address.canonical pieces.from lowering.lower_text lowering.lower_points lowering.lower_point utf8.points utf8.tails utf8.lead_of utf8.encoded utf8.encoded_one list.opening_of holds list.run_token list.quoted_token list.token_at list.first_token grammar.after_address grammar.after list.listed_by list.listed list.addresses list.among is_some only_one or_else attributes.trimmed_front attributes.trimmed_back attributes.trimmed attributes.name_of attributes.attribute attributes.attribute_of steps.with_address steps.with_preference steps.step keyfield.said_with keyfield.if_last keyfield.said_from keyfield.said_of keyfield.limited keyfield.key_of keyfield.with_key keyfield.field_by keyfield.field_of keyfield.naming keyfield.valid_for fields.fields_in fields.is_kind fields.values_of outer.canonical_of outer.sender_by outer.sender_in outer.addresses_in outer.recipients_in pieces.following pieces.joined writer.written writer.field_text writer.preference base64.encode base64.letter lines.lines lines.laid is_raw written_of left_by_writing refused_writing writing_rows first_of answered_by onto
gossip_stand = next [] [] no_lines refl (ascii "c@d") told gossip_left refl [] refl (last [] refl)

pub clean : linted_of mail inner 0 ≡ Ok 0
unfolding octets.lower octets.lowered octets.same_name octets.same_octets octets.starts_with octets.blank tokens.past tokens.kind_of tokens.control runs.belongs runs.run tokens.after_quote base64.decode base64.follow base64.before base64.at_end base64.grouped base64.closed base64.sign_of tests.without header.fields_of header.fields header.fields_within in_front header.unfolded header.over header.of_ending header.opens_field header.raw_length header.closes tests.every pieces.on_first pieces.pieces pieces.before pieces.behind ascii·address.atom ascii·address.local_part ascii·address.free_ends labels.label_octet labels.label_form labels.fits labels.label labels.labelled address.domain address.domain_form address.address_form address.plain address.canonical pieces.from lowering.lower_text lowering.lower_points lowering.lower_point utf8.points utf8.tails utf8.lead_of utf8.encoded utf8.encoded_one list.opening_of holds list.run_token list.quoted_token list.token_at list.first_token grammar.after_address grammar.after list.listed_by list.listed list.addresses list.among is_some only_one or_else attributes.trimmed_front attributes.trimmed_back attributes.trimmed attributes.name_of attributes.attribute attributes.attribute_of steps.with_address steps.with_preference steps.step keyfield.said_with keyfield.if_last keyfield.said_from keyfield.said_of keyfield.limited keyfield.key_of keyfield.with_key keyfield.field_by keyfield.field_of keyfield.naming keyfield.valid_for fields.fields_in fields.is_kind fields.values_of outer.canonical_of outer.sender_by outer.sender_in outer.addresses_in outer.recipients_in pieces.following pieces.joined writer.written writer.field_text writer.preference base64.encode base64.letter lines.lines lines.laid is_raw written_of left_by_writing refused_writing writing_rows first_of answered_by onto
clean = blocks_clean mail inner (ascii "bob@b.example") 0 refl refl refl own_stands gossip_stand
