-- A table converted, by computing it (T17): two spellings of one name, of which the second is canonical.
--     two_spellings    the old rule takes the table, and the rule in force refuses its first slot
--     lowest_holds     then the first slot holds the merged entry, and the second is free
-- Assumes nothing.
use Prim.Native.Nat.{ℕ}
use mathlib.Core.Path.{◌≡◌, refl}
use mathlib.Core.Bool.{true}
use mathlib.Core.List.{List, [], ◌∷◌, ◌++◌}
use Rattle.std.specs.Prelude.{Some, None}
use Rattle.octets.specs.Octets.{ascii, all_zero, same_octets, lowered, lower}
use Rattle.octets.specs.Numbers.{number, digits}
use Rattle.octets.specs.Options.{is_some, or_else, in_front}
use Rattle.octets.specs.Tests.{every}
use Rattle.runs.specs.Runs.{belongs}
use Rattle.utf8.specs.Utf8 as utf8
use Rattle.utf8.specs.Lowering as lowering
use Rattle.pieces.specs.Pieces.{on_first, pieces, before, behind, from, following, joined as dotted}
use Rattle.asciiaddress.specs.Ascii.{atom, local_part, free_ends, ascii_form, was_canonical, ascii_label, ascii_domain, ascii_plain}
use Rattle.labels.specs.Labels as labels
use Rattle.address.specs.Address.{domain, domain_form, address_form, plain, canonical, is_canonical}
use Rattle.heads.specs.Head.{head_of, clear, bits_of, times, lengths, head_octets}
use Rattle.heads.specs.Entry.{Entry, head_for, renamed}
use Rattle.slots.specs.declared.Spelling.TheVariants.{Ascii}
use Rattle.slots.specs.Slot.{free_slot, free, address_of, direct_key_of, gossip_key_of, marked, spelled, zero_padding, sound_by}
use Rattle.slots.specs.Entry.{entry_of, padded, areas, slot_of}
use Rattle.table.specs.Table.{slots, slot_at, has_address, lowest, in_lower, right_by, whole, judged_by, checked_by, checked}
use Rattle.table.specs.declared.Checked.TheVariants.{Sound, Slot}
use Rattle.merge.specs.Merging.{later_of, merged}
use Rattle.convert.specs.Converting.{form_of, has_form, joined, gathered, leads, slot_for, converted_at, table_of, converted}

-- `Ö@b` and `ö@b`, as octets
abbrev capital : Entry
capital = record { address = 0xC3 ∷ 0x96 ∷ ascii "@b"; last_seen = Some 9; direct = None; gossip = Some (record { timestamp = 4; key = 1 ∷ [] }) }

abbrev small : Entry
small =
    record {
      address = 0xC3 ∷ 0xB6 ∷ ascii "@b";
      last_seen = Some 7;
      direct = Some (record { timestamp = 0; key = 2 ∷ []; «mutual» = true });
      gossip = Some (record { timestamp = 4; key = 3 ∷ [] });
    }

-- `ö@b`, with the larger last seen, the one direct half, and the gossip half of the lower slot
abbrev both : Entry
both =
    record {
      address = 0xC3 ∷ 0xB6 ∷ ascii "@b";
      last_seen = Some 9;
      direct = Some (record { timestamp = 0; key = 2 ∷ []; «mutual» = true });
      gossip = Some (record { timestamp = 4; key = 1 ∷ [] });
    }

table : List ℕ
table = slot_of capital ++ slot_of small

two_spellings : (checked_by Ascii table ≡ Sound) × (checked table ≡ Slot 0)
unfolding table slot_of areas padded head_octets times lengths digits bits_of head_for checked_by whole slots judged_by right_by free slot_at has_address lowest in_lower sound_by marked spelled zero_padding clear head_of number all_zero same_octets address_of is_canonical was_canonical ascii_label ascii_domain ascii_plain ascii_form plain local_part domain domain_form address_form labels.label_octet labels.label_form labels.fits labels.label labels.labelled atom belongs free_ends every pieces on_first before behind from canonical lowering.lower_text lowering.lower_points lowering.lower_point utf8.points utf8.tails utf8.lead_of utf8.encoded utf8.encoded_one in_front lowered lower is_some or_else following dotted
two_spellings = (refl, refl)

lowest_holds : converted table ≡ slot_of both ++ free_slot
unfolding table converted table_of converted_at slot_for leads gathered joined has_form form_of merged later_of renamed entry_of slot_of areas padded head_octets times lengths digits bits_of head_for slots slot_at lowest marked head_of number same_octets address_of direct_key_of gossip_key_of before canonical lowering.lower_text lowering.lower_points lowering.lower_point utf8.points utf8.tails utf8.lead_of utf8.encoded utf8.encoded_one in_front lowered lower is_some or_else following domain domain_form address_form plain labels.label_octet labels.label_form labels.fits labels.label labels.labelled atom local_part free_ends on_first pieces behind dotted every belongs
lowest_holds = refl
