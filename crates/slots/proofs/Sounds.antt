-- What a sound slot satisfies, as facts (T8).
--     sound_parts             a slot that the test calls sound has the conditions of `Sound`
--     marked_not_free         a slot with a mark is not free
--     unmarked_not_sound      and one without is not sound
--     sound_was               a sound slot was sound by the old rule
-- Assumes nothing.
use Prim.Native.Nat.{ℕ}
use mathlib.Core.Path.{◌≡◌}
use mathlib.Core.Bool.{Bool, true, false, ◌&&◌}
use mathlib.Core.List.{List, [], ◌∷◌}
use native.Mathlib.Omega.{arith}
use borrow.Author.Tests.{ltb-true}
use lib.Dec.{ltb}
use lib.ListN.{drop}
use Rattle.octets.specs.Octets.{all_zero}
use Rattle.octets.proofs.Comparing.{same_true}
use Rattle.octets.proofs.Tests.{and_left, and_right}
use Rattle.address.specs.Address.{is_canonical}
use Rattle.address.proofs.Ascii.{was_canonical_lem}
use Rattle.heads.specs.declared.Head.{Head}
use Rattle.heads.specs.Head.{part, address_length, bits, direct_length, gossip_length, head_of, clear, seen_sound, direct_sound, gossip_sound}
use Rattle.heads.specs.Facts.{SoundSeen, SoundDirect, SoundGossip}
use Rattle.heads.proofs.Conditions.{all_three, seen_facts, direct_facts, gossip_facts}
use Rattle.slots.specs.declared.Spelling.{Spelling}
use Rattle.slots.specs.declared.Spelling.TheVariants.{Canonical, Ascii}
use Rattle.slots.specs.Facts.{SoundBy}
use Rattle.slots.specs.Slot.{key_limit, mark, address_area, direct_area, gossip_area, address_of, free, marked, spelled, zero_padding, sound_by}

-- four and six tests, of which the first three are one
four : (a b c d : Bool) → (a && b && c && d) ≡ true → (a ≡ true) × ((b ≡ true) × (c ≡ true) × (d ≡ true))
four a b c d h =
    let t = all_three a b c (and_left (a && b && c) d h) in
    (t.0, (t.1, t.2, and_right (a && b && c) d h))

six : (a b c d e f : Bool) → (a && b && c && d && e && f) ≡ true → ((a ≡ true) × (b ≡ true) × (c ≡ true)) × ((d ≡ true) × (e ≡ true) × (f ≡ true))
six a b c d e f h =
    let t = all_three (a && b && c && d) e f h in
    (all_three a b c (and_left (a && b && c) d t.0), (and_right (a && b && c) d t.0, t.1, t.2))

pub sound_parts : {how : Spelling} (s : List ℕ) → sound_by how s ≡ true → SoundBy how s
unfolding sound_by marked zero_padding clear head_of
sound_parts {how} s h =
    let n : Head = head_of s in
    let t = six (marked s) (spelled how (address_of s)) (zero_padding n s) (seen_sound n) (direct_sound key_limit n) (gossip_sound key_limit n) h in
    let p =
    four (clear s) (all_zero (drop (address_length s) (address_area s))) (all_zero (drop (direct_length s) (direct_area s))) (all_zero (drop (gossip_length s) (gossip_area s)))
    t.0.2 in
    let c = all_three (ltb (bits s) 16) (all_zero (part 5 7 s)) (all_zero (part 36 39 s)) p.0 in
    let seen : SoundSeen n = seen_facts n t.1.0 in
    let direct : SoundDirect key_limit n = direct_facts n key_limit t.1.1 in
    let gossip : SoundGossip key_limit n = gossip_facts n key_limit t.1.2 in
    record {
      opens = same_true (part 0 1 s) mark t.0.0;
      address = t.0.1;
      low = ltb-true (bits s) 16 c.0;
      zeros = c.1;
      zeros_too = c.2;
      seen_range = seen.in_range;
      direct_range = direct.in_range;
      gossip_range = gossip.in_range;
      direct_length_fits = direct.key_length;
      gossip_length_fits = gossip.key_length;
      no_seen = seen.absent;
      without_direct = direct.absent;
      without_gossip = gossip.absent;
      past_address = p.1.0;
      past_direct = p.1.1;
      past_gossip = p.1.2;
      no_mutual = direct.no_mutual;
      direct_seen = λ e. (seen.beside_key e, direct.not_above e);
    }

pub marked_not_free : (s : List ℕ) → marked s ≡ true → free s ≡ false
unfolding marked free all_zero
marked_not_free s h = go s (same_true (part 0 1 s) mark h)
  where
    go : (l : List ℕ) → part 0 1 l ≡ mark → all_zero l ≡ false
    go [] e = let z : ◌≡◌ {A = ℕ} 0 1 = cc in absurd (omega arith)
    go (x ∷ l) e = let z : x ≡ 65 = cc in rw z

pub unmarked_not_sound : (how : Spelling) (s : List ℕ) → marked s ≡ false → sound_by how s ≡ false
unfolding sound_by
unmarked_not_sound how s h = rw h

-- T19: what is sound was sound by the old rule
pub sound_was : (s : List ℕ) → sound_by Canonical s ≡ true → sound_by Ascii s ≡ true
unfolding sound_by spelled
sound_was s h =
    let n : Head = head_of s in
    let t = six (marked s) (is_canonical (address_of s)) (zero_padding n s) (seen_sound n) (direct_sound key_limit n) (gossip_sound key_limit n) h in
    rw (t.0.0, was_canonical_lem (address_of s) t.0.1, t.0.2, t.1.0, t.1.1, t.1.2)
