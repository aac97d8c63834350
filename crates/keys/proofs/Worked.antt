-- Messages that are worked out: the Autocrypt field that counts, and the gossip that is accepted.
-- Assumes nothing.
use Prim.Native.String.{String}
use mathlib.Core.Path.{◌≡◌, refl}
use mathlib.Core.Bool.{false}
use mathlib.Core.List.{[], ◌∷◌, map}
use Rattle.std.specs.Prelude.{Option, Some, None}
use Rattle.octets.specs.Octets.{ascii, lower, lowered, same_name, same_octets, starts_with, blank}
use Rattle.octets.specs.Options.{only_one, or_else, in_front}
use Rattle.octets.specs.Finding.{holds}
use Rattle.octets.specs.Tests.{every, without}
use Rattle.runs.specs.Runs.{belongs, run}
use Rattle.header.specs.Header as header
use Rattle.letters.specs.Base64 as base64
use Rattle.utf8.specs.Utf8 as utf8
use Rattle.utf8.specs.Lowering as lowering
use Rattle.pieces.specs.Pieces.{on_first, pieces, before, behind, from, following, joined}
use Rattle.asciiaddress.specs.Ascii.{atom, local_part, free_ends}
use Rattle.labels.specs.Labels as labels
use Rattle.address.specs.Address.{domain, domain_form, address_form, plain, canonical}
use Rattle.addresslist.specs.List.{among}
use Rattle.attributes.specs.Attribute.{trimmed_front, trimmed_back, trimmed, name_of, attribute, attribute_of}
use Rattle.attributes.specs.Step.{with_address, with_preference, step}
use Rattle.keyfield.specs.Field.{Field, said_with, if_last, said_from, said_of, limited, key_of, with_key, field_by, field_of, naming, valid_for, chosen, valid_fields, counted}
use Rattle.update.specs.Message.{Gossiped}
use Rattle.fields.specs.Fields.{fields_in, is_kind, values_of}
use Rattle.keyowner.specs.Owners.{accepted_by, accepted_for}
use Rattle.keys.specs.Keys.{counted_in, accepted, gossip_in}

abbrev counted_of : String → Option Field
counted_of s = counted_in 2048 (fields_in (ascii s)) (ascii "a@b")

abbrev key : String → Option Field
key k = Some (record { address = ascii "a@b"; is_mutual = false; key = ascii k })

-- F13: from a@b one valid field counts, folded and from a field name in any case, also beside one of another address, a spoiled one and gossip. Of
-- two none counts, even if they are equal.
counts :
    map counted_of
    ("Autocrypt: addr=A@b; keydata=Zg==\r\nFrom: a@b\r\n"
    ∷ "autocrypt: addr=c@d; keydata=Zm9v\nAUTOCRYPT: addr=a@b;\n keydata=Z\n g==\nAutocrypt: addr=a@b\nAutocrypt-Gossip: addr=a@b; keydata=Zm9v"
    ∷ "Autocrypt: addr=a@b; keydata=Zg==\nAutocrypt: addr=a@b; keydata=Zm9v"
    ∷ "Autocrypt: addr=a@b; keydata=Zg==\nAutocrypt: addr=a@b; keydata=Zg=="
    ∷ "Autocrypt: addr=c@d; keydata=Zg=="
    ∷ [])
    ≡ key "f" ∷ key "f" ∷ None ∷ None ∷ None ∷ []
unfolding header.fields_of header.fields header.fields_within in_front header.unfolded header.over header.of_ending header.opens_field run header.raw_length belongs header.closes same_name same_octets starts_with lowered lower trimmed_front trimmed_back trimmed name_of attribute holds attribute_of with_address with_preference step said_with if_last said_from said_of limited key_of with_key field_by field_of naming valid_for chosen valid_fields only_one counted base64.decode base64.follow base64.before base64.at_end base64.grouped base64.closed base64.sign_of without blank every on_first pieces before behind atom local_part free_ends labels.label_octet labels.label_form labels.fits labels.label labels.labelled domain domain_form address_form plain canonical from lowering.lower_text lowering.lower_points lowering.lower_point utf8.points utf8.tails utf8.lead_of utf8.encoded utf8.encoded_one or_else fields_in is_kind values_of counted_in following joined
counts = refl

abbrev gossip : String → String → Gossiped
gossip a k = record { address = ascii a; key = ascii k }

-- G5, G7: in order, in canonical form and each time it is said; not what is about nobody in the lists, spoiled, or an Autocrypt field. A preference
-- is ignored.
heard :
    gossip_in 2048 (ascii "C@d" ∷ ascii "a@b" ∷ [])
    (fields_in
    (ascii
    "Autocrypt-Gossip: addr=a@B; keydata=Zg==\nAutocrypt-Gossip: addr=x@y; keydata=Zg==\nautocrypt-gossip: addr=c@d; prefer-encrypt=mutual; keydata=Zm9v\nAutocrypt: addr=a@b; keydata=Zm9v\nAutocrypt-Gossip: addr=c@d\nAutocrypt-Gossip: addr=a@b; keydata=Zm9v"))
    ≡ gossip "a@b" "f" ∷ gossip "c@d" "foo" ∷ gossip "a@b" "foo" ∷ []
unfolding header.fields_of header.fields header.fields_within in_front header.unfolded header.over header.of_ending header.opens_field run header.raw_length belongs header.closes same_name same_octets starts_with lowered lower trimmed_front trimmed_back trimmed name_of attribute holds attribute_of with_address with_preference step said_with if_last said_from said_of limited key_of with_key field_by field_of base64.decode base64.follow base64.before base64.at_end base64.grouped base64.closed base64.sign_of without blank every on_first pieces before behind atom local_part free_ends labels.label_octet labels.label_form labels.fits labels.label labels.labelled domain domain_form address_form plain canonical from lowering.lower_text lowering.lower_points lowering.lower_point utf8.points utf8.tails utf8.lead_of utf8.encoded utf8.encoded_one among or_else fields_in is_kind values_of accepted_by accepted_for chosen accepted gossip_in following joined
heard = refl
