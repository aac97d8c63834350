-- C14: its examples, all in one table, hold of the definitions: by computing them. Assumes nothing.
use mathlib.Core.Path.{refl}
use Rattle.octets.specs.Octets as octets
use Rattle.octets.specs.Options.{in_front, only_one, or_else}
use Rattle.octets.specs.Finding.{holds}
use Rattle.octets.specs.Tests as tests
use Rattle.runs.specs.Runs as runs
use Rattle.tokens.specs.Tokens as tokens
use Rattle.letters.specs.Base64 as base64
use Rattle.header.specs.Header as header
use Rattle.utf8.specs.Utf8 as utf8
use Rattle.utf8.specs.Lowering as lowering
use Rattle.pieces.specs.Pieces as pieces
use Rattle.asciiaddress.specs.Ascii as ascii·address
use Rattle.labels.specs.Labels as labels
use Rattle.address.specs.Address as address
use Rattle.grammar.specs.Grammar as grammar
use Rattle.addresslist.specs.List as list
use Rattle.calendar.specs.Calendar as calendar
use Rattle.datewords.specs.Words as words
use Rattle.date.specs.Date as date
use Rattle.attributes.specs.Attribute as attributes
use Rattle.attributes.specs.Step as steps
use Rattle.keyfield.specs.Field as keyfield
use Rattle.fields.specs.Fields as fields
use Rattle.outer.specs.Outer as outer
use Rattle.keys.specs.Keys as keys
use Rattle.advice.specs.Advice as advice
use Rattle.examples.specs.Examples.{of_date, of_field, of_counted, counted_from, counted_of, seen_after, answered, asked, expected, examples, Hold, ◌and◌, none_left}

pub all_hold : Hold examples
unfolding examples asked expected answered of_date of_field of_counted counted_from counted_of seen_after octets.lower octets.lowered octets.same_name octets.same_octets octets.starts_with octets.blank tokens.past tokens.kind_of tokens.control runs.belongs runs.run tokens.after_quote base64.decode base64.follow base64.before base64.at_end base64.grouped base64.closed base64.sign_of tests.without header.fields_of header.fields header.fields_within in_front header.unfolded header.over header.of_ending header.opens_field header.raw_length header.closes tests.every pieces.on_first pieces.pieces pieces.before pieces.behind ascii·address.atom ascii·address.local_part ascii·address.free_ends labels.label_octet labels.label_form labels.fits labels.label labels.labelled address.domain address.domain_form address.address_form address.plain address.canonical pieces.from lowering.lower_text lowering.lower_points lowering.lower_point utf8.points utf8.tails utf8.lead_of utf8.encoded utf8.encoded_one list.opening_of holds list.run_token list.quoted_token list.token_at list.first_token grammar.after_address grammar.after list.listed_by list.listed list.addresses only_one or_else calendar.leap calendar.leap_day calendar.month_length calendar.year_days calendar.month_days calendar.day_count words.opening_of words.further words.token_at words.first_token words.only_if words.digit_of words.value_from words.number_of words.here_or words.place_from words.mark_of words.day_of words.month_of words.year_by words.year_of words.two_digits words.offset_by words.offset_of words.hours_west words.east_by words.west_by words.meant date.read_of date.and_then date.next date.optional date.existing date.calendar_day date.time_of_day date.local_time date.zoned date.ended date.date_of attributes.trimmed_front attributes.trimmed_back attributes.trimmed attributes.name_of attributes.attribute attributes.attribute_of steps.with_address steps.with_preference steps.step keyfield.said_with keyfield.if_last keyfield.said_from keyfield.said_of keyfield.limited keyfield.key_of keyfield.with_key keyfield.field_by keyfield.field_of keyfield.naming keyfield.valid_for keyfield.chosen keyfield.valid_fields keyfield.counted fields.fields_in fields.is_kind fields.values_of outer.canonical_of outer.sender_by outer.sender_in keys.counted_in advice.advice_for advice.raised advice.prefers_by advice.direct_of advice.gossip_of advice.rated advice.rated_by advice.stale pieces.following pieces.joined
all_hold = refl and refl and refl and refl and refl and refl and refl and refl and refl and refl and refl and refl and refl and none_left
