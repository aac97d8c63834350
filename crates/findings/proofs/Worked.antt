-- O10: its examples hold of the definitions, by computing them. Assumes nothing.
use mathlib.Core.Path.{refl}
use Rattle.octets.specs.Octets as octets
use Rattle.octets.specs.Options.{is_some, in_front, only_one, or_else}
use Rattle.octets.specs.Finding.{holds}
use Rattle.octets.specs.Tests as tests
use Rattle.runs.specs.Runs as runs
use Rattle.tokens.specs.Tokens as tokens
use Rattle.letters.specs.Base64 as base64
use Rattle.header.specs.Header as header
use Rattle.utf8.specs.Utf8 as utf8
use Rattle.utf8.specs.Lowering as lowering
use Rattle.pieces.specs.Pieces as pieces
use Rattle.asciiaddress.specs.Ascii as ascii·address
use Rattle.labels.specs.Labels as labels
use Rattle.address.specs.Address as address
use Rattle.grammar.specs.Grammar as grammar
use Rattle.addresslist.specs.List as list
use Rattle.attributes.specs.Attribute as attributes
use Rattle.attributes.specs.Step as steps
use Rattle.keyfield.specs.Field as keyfield
use Rattle.fields.specs.Fields as fields
use Rattle.outer.specs.Outer as outer
use Rattle.asked.specs.Asked as asked
use Rattle.faults.specs.Faults as faults
use Rattle.lookover.specs.Looking as looking
use Rattle.lint.specs.Linting.{mail_faults}
use Rattle.findings.specs.Worked.{mails, Hold, ◌and◌, none_left}

pub all_hold : Hold mails
unfolding mails mail_faults octets.lower octets.lowered octets.same_name octets.same_octets octets.starts_with octets.blank tokens.past tokens.kind_of tokens.control runs.belongs runs.run tokens.after_quote base64.decode base64.follow base64.before base64.at_end base64.grouped base64.closed base64.sign_of tests.without header.fields_of header.fields header.fields_within in_front header.unfolded header.over header.of_ending header.opens_field header.raw_length header.closes tests.every pieces.on_first pieces.pieces pieces.before pieces.behind ascii·address.atom ascii·address.local_part ascii·address.free_ends labels.label_octet labels.label_form labels.fits labels.label labels.labelled address.domain address.domain_form address.address_form address.plain address.canonical pieces.from lowering.lower_text lowering.lower_points lowering.lower_point utf8.points utf8.tails utf8.lead_of utf8.encoded utf8.encoded_one list.opening_of holds list.run_token list.quoted_token list.token_at list.first_token grammar.after_address grammar.after list.listed_by list.listed list.addresses list.among is_some only_one or_else attributes.trimmed_front attributes.trimmed_back attributes.trimmed attributes.name_of attributes.attribute attributes.attribute_of steps.with_address steps.with_preference steps.step keyfield.said_with keyfield.if_last keyfield.said_from keyfield.said_of keyfield.limited keyfield.key_of keyfield.with_key keyfield.field_by keyfield.field_of keyfield.naming keyfield.valid_for fields.fields_in fields.is_kind fields.values_of outer.canonical_of outer.sender_by outer.sender_in outer.addresses_in outer.recipients_in pieces.following pieces.joined asked.is_empty asked.is_other asked.is_unknown asked.is_name asked.is_called asked.value_of asked.values_called asked.saying asked.occurs asked.named_by asked.named asked.last_of asked.is_base64 asked.has_key_data faults.no_flaws faults.has_kind faults.only_if faults.kinds_below faults.kinds faults.faults_at faults.numbers_of looking.is_valid looking.is_just looking.names_only looking.is_one_of looking.lists looking.own_flaws looking.gossip_flaws looking.is_own looking.flaws_of looking.valid_in looking.faults_from looking.valid_behind looking.faults_in looking.missing looking.faults_of
all_hold = refl and refl and refl and refl and refl and refl and refl and none_left
