-- Worked fields (W2 to W5), by computing the definitions. Assumes nothing.
use Prim.Native.Nat.{◌+◌}
use mathlib.Core.Path.{◌≡◌, refl}
use mathlib.Core.Bool.{true, false}
use lib.ListN.{length, replicate}
use Rattle.octets.specs.Octets.{ascii, octet, lower, lowered}
use Rattle.octets.specs.Options.{in_front, or_else}
use Rattle.octets.specs.Tests.{every}
use Rattle.letters.specs.Base64.{letter, encode}
use Rattle.keylines.specs.Lines.{laid, lines}
use Rattle.utf8.specs.Utf8 as utf8
use Rattle.utf8.specs.Lowering as lowering
use Rattle.runs.specs.Runs.{belongs}
use Rattle.pieces.specs.Pieces.{on_first, pieces, before, behind, following, joined}
use Rattle.asciiaddress.specs.Ascii.{atom, local_part, free_ends}
use Rattle.labels.specs.Labels as labels
use Rattle.address.specs.Address.{domain, domain_form, address_form, plain, canonical}
use Rattle.writer.specs.Writing.{preference, field_text, written}

-- W2: a whole field, with the preference, of a key of one line
whole : written (ascii "Autocrypt") (ascii "Bob@b.example") true (ascii "foo")
    ≡ ascii "Autocrypt: addr=bob@b.example; prefer-encrypt=mutual; keydata=\r\n Zm9v\r\n"
unfolding written field_text preference canonical before lowering.lower_text lowering.lower_points lowering.lower_point utf8.points utf8.tails utf8.lead_of utf8.encoded utf8.encoded_one in_front lowered lower encode letter lines laid domain domain_form address_form plain labels.label_octet labels.label_form labels.fits labels.label labels.labelled atom local_part free_ends on_first pieces behind following joined or_else every belongs
whole = refl

-- W5, W3: the address was given in capitals, and the preference is left out
without : written (ascii "Autocrypt-Gossip") (ascii "A@B.Example") false (ascii "foob")
    ≡ ascii "Autocrypt-Gossip: addr=a@b.example; keydata=\r\n Zm9vYg==\r\n"
unfolding written field_text preference canonical before lowering.lower_text lowering.lower_points lowering.lower_point utf8.points utf8.tails utf8.lead_of utf8.encoded utf8.encoded_one in_front lowered lower encode letter lines laid domain domain_form address_form plain labels.label_octet labels.label_form labels.fits labels.label labels.labelled atom local_part free_ends on_first pieces behind following joined or_else every belongs
without = refl

-- W4: 57 octets make one line of 76 characters, with no empty line behind it; 58 make two
one_line : length (written (ascii "A") (ascii "a@b") false (replicate 57 (octet "k"))) ≡ 1 + 7 + 3 + 12 + 79
unfolding written field_text preference canonical before lowering.lower_text lowering.lower_points lowering.lower_point utf8.points utf8.tails utf8.lead_of utf8.encoded utf8.encoded_one in_front lowered lower encode letter lines laid domain domain_form address_form plain labels.label_octet labels.label_form labels.fits labels.label labels.labelled atom local_part free_ends on_first pieces behind following joined or_else every belongs
one_line = refl

two_lines : length (written (ascii "A") (ascii "a@b") false (replicate 58 (octet "k"))) ≡ 1 + 7 + 3 + 12 + 79 + 7
unfolding written field_text preference canonical before lowering.lower_text lowering.lower_points lowering.lower_point utf8.points utf8.tails utf8.lead_of utf8.encoded utf8.encoded_one in_front lowered lower encode letter lines laid domain domain_form address_form plain labels.label_octet labels.label_form labels.fits labels.label labels.labelled atom local_part free_ends on_first pieces behind following joined or_else every belongs
two_lines = refl
