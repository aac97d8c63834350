-- Tables worked out, by computing them.
--     no_slots, part_slot         lengths that are not those of whole slots (R1)
--     one_free, one_used          sound tables
--     stray_octet                 a slot that is neither free nor sound (T4, R2)
--     twice                       an address that stands in a lower slot (T8.3)
--     second_found .. one_left    where an address stands, and the free slots
-- Assumes nothing.
use Prim.Native.Nat.{ℕ}
use mathlib.Core.Path.{◌≡◌, refl}
use mathlib.Core.Bool.{true}
use Rattle.std.specs.Prelude.{Some, None}
use mathlib.Core.List.{List, [], ◌∷◌, ◌++◌}
use lib.ListN.{replicate}
use Rattle.octets.specs.Octets.{ascii, all_zero, same_octets, lowered, lower}
use Rattle.octets.specs.Numbers.{number, digits}
use Rattle.octets.specs.Options.{is_some, or_else, in_front}
use Rattle.octets.specs.Tests.{every}
use Rattle.runs.specs.Runs.{belongs}
use Rattle.utf8.specs.Utf8 as utf8
use Rattle.utf8.specs.Lowering as lowering
use Rattle.pieces.specs.Pieces.{on_first, pieces, before, behind, from, following, joined}
use Rattle.asciiaddress.specs.Ascii.{atom, local_part, free_ends}
use Rattle.labels.specs.Labels as labels
use Rattle.address.specs.Address.{domain, domain_form, address_form, plain, canonical, is_canonical}
use Rattle.heads.specs.Head.{head_of, clear, bits_of, times, lengths, head_octets}
use Rattle.slots.specs.Slot.{slot_length, address_of, free, marked, spelled, zero_padding, sound_by}
use Rattle.heads.specs.Entry.{head_for}
use Rattle.slots.specs.Entry.{padded, areas, slot_of}
use Rattle.table.specs.Table.{slots, slot_at, unused, has_address, lowest, how_many, found, lowest_free, free_count, in_lower, right_by, whole, judged_by, checked_by, checked}
use Rattle.table.specs.declared.Checked.TheVariants.{Sound, Length, Slot}

no_slots : checked [] ≡ Length
unfolding checked_by whole slots
no_slots = refl

part_slot : checked (replicate 4393 0) ≡ Length
unfolding checked_by whole slots
part_slot = refl

empty : List ℕ
empty = replicate slot_length 0

one_free : checked empty ≡ Sound
unfolding empty checked_by whole slots judged_by right_by free all_zero slot_at
one_free = refl

alice : List ℕ
alice =
    slot_of
    (record {
      address = ascii "alice@a.example";
      last_seen = Some 1000;
      direct = Some (record { timestamp = 1000; key = 1 ∷ 2 ∷ 3 ∷ []; «mutual» = true });
      gossip = None;
    })

second_found : found (empty ++ alice) (ascii "alice@a.example") ≡ Some 1
unfolding empty alice slot_of areas padded head_octets times lengths digits bits_of head_for found slots lowest has_address marked same_octets address_of number slot_at or_else is_some
second_found = refl

not_found : found (empty ++ alice) (ascii "bob@a.example") ≡ None
unfolding empty alice slot_of areas padded head_octets times lengths digits bits_of head_for found slots lowest has_address marked same_octets address_of number slot_at or_else is_some
not_found = refl

second_free : lowest_free (alice ++ empty) ≡ Some 1
unfolding empty alice slot_of areas padded head_octets times lengths digits bits_of head_for lowest_free unused slots lowest marked same_octets slot_at or_else
second_free = refl

one_left : free_count (alice ++ empty) ≡ 1
unfolding empty alice slot_of areas padded head_octets times lengths digits bits_of head_for free_count how_many unused slots marked same_octets slot_at or_else
one_left = refl

one_used : checked alice ≡ Sound
unfolding alice slot_of areas padded head_octets times lengths digits bits_of head_for checked_by whole slots judged_by right_by free all_zero slot_at sound_by marked same_octets spelled address_of number head_of clear zero_padding in_lower lowest is_canonical plain local_part domain domain_form address_form labels.label_octet labels.label_form labels.fits labels.label labels.labelled atom belongs free_ends every pieces on_first before behind canonical from lowering.lower_text lowering.lower_points lowering.lower_point utf8.points utf8.tails utf8.lead_of utf8.encoded utf8.encoded_one in_front lowered lower is_some or_else following joined
one_used = refl

twice : checked (alice ++ alice) ≡ Slot 1
unfolding alice slot_of areas padded head_octets times lengths digits bits_of head_for checked_by whole slots judged_by right_by free all_zero slot_at sound_by marked same_octets spelled address_of number head_of clear zero_padding in_lower lowest has_address is_canonical plain local_part domain domain_form address_form labels.label_octet labels.label_form labels.fits labels.label labels.labelled atom belongs free_ends every pieces on_first before behind canonical from lowering.lower_text lowering.lower_points lowering.lower_point utf8.points utf8.tails utf8.lead_of utf8.encoded utf8.encoded_one in_front lowered lower is_some or_else following joined
twice = refl

stray_octet : checked (replicate 4391 0 ++ (1 ∷ [])) ≡ Slot 0
unfolding checked_by whole slots judged_by right_by free all_zero slot_at sound_by marked same_octets
stray_octet = refl
