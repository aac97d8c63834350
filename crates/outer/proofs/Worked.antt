-- Messages that are worked out: senders, reports, dates and recipients.
-- Assumes nothing.
use Prim.Native.Nat.{ℕ}
use Prim.Native.String.{String}
use mathlib.Core.Path.{◌≡◌, refl}
use mathlib.Core.Bool.{Bool, true, false}
use mathlib.Core.List.{List, [], ◌∷◌, map}
use Rattle.std.specs.Prelude.{Option, Some, None}
use Rattle.octets.specs.Octets.{ascii, lower, lowered, same_name, same_octets, blank}
use Rattle.octets.specs.Options.{in_front, or_else, only_one}
use Rattle.octets.specs.Finding.{holds}
use Rattle.octets.specs.Tests.{every}
use Rattle.runs.specs.Runs.{belongs, run}
use Rattle.header.specs.Header as header
use Rattle.tokens.specs.Tokens.{control, kind_of, past, after_quote}
use Rattle.utf8.specs.Utf8 as utf8
use Rattle.utf8.specs.Lowering as lowering
use Rattle.pieces.specs.Pieces.{on_first, pieces, before, behind, from, following, joined}
use Rattle.asciiaddress.specs.Ascii.{atom, local_part, free_ends}
use Rattle.labels.specs.Labels as labels
use Rattle.address.specs.Address.{domain, domain_form, address_form, plain, canonical}
use Rattle.grammar.specs.Grammar.{after_address, after}
use Rattle.addresslist.specs.List.{opening_of, run_token, quoted_token, token_at, first_token, listed_by, listed, addresses}
use Rattle.calendar.specs.Calendar as calendar
use Rattle.datewords.specs.Words as words
use Rattle.date.specs.Date as date
use Rattle.fields.specs.Fields.{fields_in, is_kind, values_of}
use Rattle.outer.specs.Outer.{canonical_of, sender_by, sender_in, any_report, is_reported, date_by, date_in, addresses_in, recipients_in}

abbrev sender_of : String → Option (List ℕ)
sender_of s = sender_in (fields_in (ascii s))

-- U3, R5: in canonical form, from a field name in any case. Two From fields, two addresses, an unreadable list, no From field and an unreadable
-- block have no sender.
senders :
    map sender_of
    ("From: A <Alice@B.ORG>\r\nTo: b@c\r\n"
    ∷ "X:\nfROM: g: a@b;\n\nFrom: c@d"
    ∷ "From: a@b\nFrom: a@b"
    ∷ "From: a@b, c@d"
    ∷ "From: a@b."
    ∷ "To: a@b"
    ∷ "From: a@b\nX"
    ∷ [])
    ≡ Some (ascii "alice@b.org") ∷ Some (ascii "a@b") ∷ None ∷ None ∷ None ∷ None ∷ None ∷ []
unfolding header.fields_of header.fields header.fields_within in_front header.unfolded header.over header.of_ending header.opens_field run header.raw_length belongs header.closes same_name same_octets lowered lower opening_of holds run_token quoted_token token_at first_token after_address after listed_by listed addresses atom local_part free_ends labels.label_octet labels.label_form labels.fits labels.label labels.labelled domain domain_form address_form plain every on_first pieces before behind control blank kind_of past after_quote canonical from lowering.lower_text lowering.lower_points lowering.lower_point utf8.points utf8.tails utf8.lead_of utf8.encoded utf8.encoded_one only_one or_else fields_in is_kind values_of canonical_of sender_by sender_in following joined
senders = refl

abbrev is_report : String → Bool
is_report s = is_reported (fields_in (ascii s))

-- R6: each Content-Type is looked at, and no other field
reports :
    map is_report
    ("Content-Type: multipart/report"
    ∷ "Content-Type: text/plain\ncontent-type:\n MULTIPART/report; x=y"
    ∷ "Content-Type: text/plain"
    ∷ "Subject: multipart/report"
    ∷ [])
    ≡ true ∷ true ∷ false ∷ false ∷ []
unfolding header.fields_of header.fields header.fields_within in_front header.unfolded header.over header.of_ending header.opens_field run header.raw_length belongs blank header.closes header.is_report header.opens_report header.may_follow same_name same_octets lowered lower or_else fields_in is_kind values_of any_report is_reported
reports = refl

-- with the receipt time 100
abbrev date_of : String → ℕ
date_of s = date_in (fields_in (ascii s)) 100

-- D1, D2: one Date field; none, two, and one that is later than the receipt
dates :
    map date_of
    ("date: Thu, 1 Jan\n 1970 00:01 GMT\n"
    ∷ "Dates: 1 Jan 1970 00:01 GMT"
    ∷ "Date: 1 Jan 1970 00:01 GMT\nDate: 1 Jan 1970 00:01 GMT"
    ∷ "Date: 1 Jan 1970 00:02 GMT"
    ∷ [])
    ≡ 60 ∷ 100 ∷ 100 ∷ 100 ∷ []
unfolding header.fields_of header.fields header.fields_within in_front header.unfolded header.over header.of_ending header.opens_field run header.raw_length belongs header.closes same_name same_octets lowered lower blank past kind_of control calendar.leap calendar.leap_day calendar.month_length calendar.year_days calendar.month_days calendar.day_count words.opening_of words.further words.token_at words.first_token words.only_if words.digit_of words.value_from words.number_of words.here_or words.place_from words.mark_of words.day_of words.month_of words.year_by words.year_of words.two_digits words.offset_by words.offset_of words.hours_west words.east_by words.west_by words.meant date.read_of date.and_then date.next date.optional date.existing date.calendar_day date.time_of_day date.local_time date.zoned date.ended date.date_of date.effective_date or_else fields_in is_kind values_of only_one date_by date_in
dates = refl

-- G4: as they stand, in order; an unreadable list gives none, and takes none from the others
recipients : recipients_in (fields_in (ascii "Cc: C <c@D>\nTo: a@b, a@c\nBcc: x@y\nTo: b@c,\nREPLY-TO: e@f")) ≡ map ascii ("c@D" ∷ "a@b" ∷ "a@c" ∷ "e@f" ∷ [])
unfolding header.fields_of header.fields header.fields_within in_front header.unfolded header.over header.of_ending header.opens_field run header.raw_length belongs header.closes same_name same_octets lowered lower opening_of holds run_token quoted_token token_at first_token after_address after listed_by listed addresses or_else atom local_part free_ends labels.label_octet labels.label_form labels.fits labels.label labels.labelled domain domain_form address_form plain every on_first pieces before behind control blank kind_of past after_quote fields_in is_kind values_of addresses_in recipients_in following joined lowering.lower_text lowering.lower_points lowering.lower_point utf8.points utf8.tails utf8.lead_of utf8.encoded utf8.encoded_one
recipients = refl
