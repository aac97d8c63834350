-- Slots worked out, by computing them.
--     alice_read      an entry, and what its slot reads back as
--     zero_is_time    T6: last seen at the second 0 is there, for its bit says so
--     old_spelling    T16, T20: an address with an accented capital was sound, and is not
-- Assumes nothing.
use mathlib.Core.Path.{◌≡◌, refl}
use mathlib.Core.Bool.{true, false}
use Rattle.std.specs.Prelude.{Some, None}
use mathlib.Core.List.{[], ◌∷◌}
use Rattle.octets.specs.Octets.{ascii, all_zero, same_octets, lowered, lower}
use Rattle.octets.specs.Numbers.{number, digits}
use Rattle.octets.specs.Options.{is_some, or_else, in_front}
use Rattle.octets.specs.Tests.{every}
use Rattle.runs.specs.Runs.{belongs}
use Rattle.utf8.specs.Utf8 as utf8
use Rattle.utf8.specs.Lowering as lowering
use Rattle.pieces.specs.Pieces.{on_first, pieces, before, behind, from, following, joined}
use Rattle.asciiaddress.specs.Ascii.{atom, local_part, free_ends, ascii_form, was_canonical, ascii_label, ascii_domain, ascii_plain}
use Rattle.labels.specs.Labels as labels
use Rattle.address.specs.Address.{domain, domain_form, address_form, plain, canonical, is_canonical}
use Rattle.heads.specs.Head.{head_of, clear, bits_of, times, lengths, head_octets}
use Rattle.heads.specs.Entry.{Entry, head_for}
use Rattle.slots.specs.declared.Spelling.TheVariants.{Canonical, Ascii}
use Rattle.slots.specs.Slot.{address_of, direct_key_of, gossip_key_of, marked, spelled, zero_padding, sound_by}
use Rattle.slots.specs.Entry.{entry_of, padded, areas, slot_of}

abbrev alice : Entry
alice =
    record {
      address = ascii "alice@a.example";
      last_seen = Some 1000;
      direct = Some (record { timestamp = 1000; key = 1 ∷ 2 ∷ 3 ∷ []; «mutual» = true });
      gossip = None;
    }

alice_read : entry_of (slot_of alice) ≡ alice
unfolding entry_of slot_of areas padded head_octets times lengths digits bits_of head_for address_of direct_key_of gossip_key_of number is_some or_else
alice_read = refl

zero_is_time : (entry_of (slot_of (record { address = ascii "a@b"; last_seen = Some 0; direct = None; gossip = None }))).last_seen ≡ Some 0
unfolding entry_of slot_of areas padded head_octets times lengths digits bits_of head_for address_of direct_key_of gossip_key_of number is_some or_else
zero_is_time = refl

-- `Ö@b`
abbrev accented : Entry
accented = record { address = 0xC3 ∷ 0x96 ∷ ascii "@b"; last_seen = None; direct = None; gossip = None }

old_spelling : (sound_by Ascii (slot_of accented) ≡ true) × (sound_by Canonical (slot_of accented) ≡ false)
unfolding slot_of areas padded head_octets times lengths digits bits_of head_for sound_by marked spelled zero_padding clear head_of number all_zero same_octets address_of is_canonical was_canonical ascii_label ascii_domain ascii_plain ascii_form plain local_part domain domain_form address_form labels.label_octet labels.label_form labels.fits labels.label labels.labelled atom belongs free_ends every pieces on_first before behind from canonical lowering.lower_text lowering.lower_points lowering.lower_point utf8.points utf8.tails utf8.lead_of utf8.encoded utf8.encoded_one in_front lowered lower is_some or_else following joined
old_spelling = (refl, refl)
