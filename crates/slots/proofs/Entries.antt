-- A sound slot is the slot of its entry, so that a writer of slots leaves the slot of the changed entry.
--     spelled_most                   how long an address is at most
--     address_long .. gossip_long    the lengths are those of the address and the keys
--     head_back, slot_back           from a sound slot to its entry and back
--     address_put .. gossip_put      what the writers leave
-- Assumes nothing.
use Prim.Native.Nat.{ℕ, ◌-◌, ◌≤◌, min}
use mathlib.Core.Path.{◌≡◌, refl, sym, ap, ◌∙◌}
use mathlib.Core.Bool.{Bool, true, false}
use mathlib.Core.List.{List, ◌++◌, append_assoc}
use native.Mathlib.Omega.{arith}
use borrow.Author.Rules.{rules}
use mir.Syntax.{w8}
use mir.Val.{Fits}
use lib.ListN.{length, get_or, take, drop, replicate, length-take, length-drop, take-append-drop}
use lib.Seq.{length-take-le, take_all}
use Rattle.octets.specs.Octets.{AllOctets, all_zero}
use Rattle.octets.specs.Written.{put_at}
use Rattle.octets.specs.Options.{or_else}
use Rattle.octets.proofs.Lists.{given_octets}
use Rattle.octets.proofs.Zeros.{zero_true}
use Rattle.octets.proofs.Tests.{by_test}
use Rattle.asciiaddress.proofs.Before.{was_most}
use Rattle.address.proofs.Spelling.{own_most}
use Rattle.heads.specs.declared.Head.{Head}
use Rattle.heads.specs.Head.{address_length, bits, has_last_seen, has_direct, has_gossip, is_mutual, last_seen, timestamp, gossip_timestamp, direct_length, gossip_length, head_of, head_address, head_seen, head_direct, head_gossip, bits_of, head_octets}
use Rattle.heads.specs.Entry.{Direct, Gossip, Entry, no_direct, no_gossip, head_for, renamed, seen_by, with_direct, with_gossip}
use Rattle.heads.proofs.Parts.{part_length, follows, put_front, put_over, put_behind}
use Rattle.heads.proofs.Writing.{length_head}
use Rattle.heads.proofs.RoundTrip.{bits_back, octets_back}
use Rattle.heads.proofs.Entries.{present_is, present_or, changed_address, changed_seen, changed_direct, changed_gossip}
use Rattle.slots.specs.Slot.{slot_length, mark, address_room, key_limit, address_area, direct_area, gossip_area, address_of, direct_key_of, gossip_key_of, spelled, sound_by, sound}
use Rattle.slots.specs.Entry.{entry_of, padded, areas, slot_of}
use Rattle.slots.specs.declared.Spelling.{Spelling}
use Rattle.slots.specs.declared.Spelling.TheVariants.{Canonical, Ascii}
use Rattle.slots.specs.Facts.{SoundBy, Sound}
use Rattle.slots.proofs.Writing.{front_long, length_padded}
use Rattle.slots.proofs.Sounds.{sound_parts}

-- an area whose text ends where zeros begin
padded_back : (room n : ℕ) (a : List ℕ) → length a ≡ room → n ≤ room → all_zero (drop n a) ≡ true → padded room (take n a) ≡ a
unfolding padded
padded_back room n a e l z =
    let k : length (take n a) ≡ n = length-take-le n a (omega arith) in
    let c : length (drop n a) ≡ room - n = length-drop n a ∙ rw e in
    let t : drop n a ≡ replicate (room - n) 0 = zero_true (drop n a) z ∙ rw c in
    rw (k, ← t) (take-append-drop n a)

-- by either rule an address is within the limit of L6
pub spelled_most : (how : Spelling) (a : List ℕ) → spelled how a ≡ true → length a ≤ 254
unfolding spelled
spelled_most Canonical a h = own_most a h
spelled_most Ascii a h = was_most a h

module _ {how : Spelling} (s : List ℕ) (l : length s ≡ slot_length) (p : SoundBy how s) where
  pub address_long : length (address_of s) ≡ address_length s
  unfolding address_of
  address_long =
      let m : length (take (address_length s) (address_area s)) ≤ 254 = spelled_most how (take (address_length s) (address_area s)) p.address in
      let k : length (address_area s) ≡ 256 = part_length 40 256 s (omega arith) in
      let t : min (address_length s) (length (address_area s)) ≤ 254 = rw length-take at m in
      length-take-le (address_length s) (address_area s) (omega arith)

  pub address_fits : address_length s ≤ address_room
  address_fits = omega (arith, address_long, spelled_most how (address_of s) p.address)

  pub direct_fits : direct_length s ≤ key_limit
  direct_fits = by_test (has_direct s) (λ t. (p.direct_length_fits t).1) (λ f. omega (arith, (p.without_direct f).1))

  pub gossip_fits : gossip_length s ≤ key_limit
  gossip_fits = by_test (has_gossip s) (λ t. (p.gossip_length_fits t).1) (λ f. omega (arith, (p.without_gossip f).1))

  pub direct_long : length (direct_key_of s) ≡ direct_length s
  unfolding direct_key_of
  direct_long = length-take-le (direct_length s) (direct_area s) (rw (part_length 296 2048 s (omega arith)) direct_fits)

  pub gossip_long : length (gossip_key_of s) ≡ gossip_length s
  unfolding gossip_key_of
  gossip_long = length-take-le (gossip_length s) (gossip_area s) (rw (part_length 2344 2048 s (omega arith)) gossip_fits)

  -- the halves of the entry, and what stands in the slot
  direct_in : {B : Type 0} (f : Direct → B) → (has_direct s ≡ false → f no_direct ≡ f (record { timestamp = timestamp s; key = direct_key_of s; «mutual» = is_mutual s }))
      → f (or_else no_direct (entry_of s).direct) ≡ f (record { timestamp = timestamp s; key = direct_key_of s; «mutual» = is_mutual s })
  unfolding entry_of
  direct_in f h = present_or f no_direct (record { timestamp = timestamp s; key = direct_key_of s; «mutual» = is_mutual s }) (has_direct s) h

  gossip_in : {B : Type 0} (f : Gossip → B) → (has_gossip s ≡ false → f no_gossip ≡ f (record { timestamp = gossip_timestamp s; key = gossip_key_of s }))
      → f (or_else no_gossip (entry_of s).gossip) ≡ f (record { timestamp = gossip_timestamp s; key = gossip_key_of s })
  unfolding entry_of
  gossip_in f h = present_or f no_gossip (record { timestamp = gossip_timestamp s; key = gossip_key_of s }) (has_gossip s) h

  pub direct_key : (or_else no_direct (entry_of s).direct).key ≡ direct_key_of s
  unfolding direct_key_of
  direct_key = direct_in (λ (d : Direct). d.key) (λ f. rw (p.without_direct f).1)

  pub gossip_key_told : (or_else no_gossip (entry_of s).gossip).key ≡ gossip_key_of s
  unfolding gossip_key_of
  gossip_key_told = gossip_in (λ (d : Gossip). d.key) (λ f. rw (p.without_gossip f).1)

  pub head_back : head_for (entry_of s) ≡ head_of s
  unfolding head_for entry_of head_of
  head_back =
      λ i.
      record {
        address_length = address_long i;
        seen = present_is (has_last_seen s) (last_seen s) i;
        direct = present_is {A = Direct} (has_direct s) (record { timestamp = timestamp s; key = direct_key_of s; «mutual» = is_mutual s }) i;
        gossip = present_is {A = Gossip} (has_gossip s) (record { timestamp = gossip_timestamp s; key = gossip_key_of s }) i;
        «mutual» = direct_in (λ (d : Direct). d.«mutual») (λ f. sym (p.no_mutual f)) i;
        last_seen = present_or (λ (t : ℕ). t) 0 (last_seen s) (has_last_seen s) (λ f. sym (p.no_seen f)) i;
        timestamp = direct_in (λ (d : Direct). d.timestamp) (λ f. sym (p.without_direct f).0) i;
        gossip_timestamp = gossip_in (λ (d : Gossip). d.timestamp) (λ f. sym (p.without_gossip f).0) i;
        direct_length = (ap length direct_key ∙ direct_long) i;
        gossip_length = (ap length gossip_key_told ∙ gossip_long) i;
      }

  address_in : length (entry_of s).address ≤ address_room
  unfolding entry_of
  address_in = omega (arith, spelled_most how (address_of s) p.address)

  pub direct_key_in : length (or_else no_direct (entry_of s).direct).key ≤ key_limit
  direct_key_in = rw (direct_key, direct_long) direct_fits

  pub gossip_key_in : length (or_else no_gossip (entry_of s).gossip).key ≤ key_limit
  gossip_key_in = rw (gossip_key_told, gossip_long) gossip_fits

  -- octets 40 to 4391
  address_area_lem : padded address_room (entry_of s).address ≡ address_area s
  unfolding entry_of address_of
  address_area_lem = padded_back 256 (address_length s) (address_area s) (part_length 40 256 s (omega arith)) address_fits p.past_address

  direct_area_lem : padded key_limit (direct_key_of s) ≡ direct_area s
  unfolding direct_key_of
  direct_area_lem = padded_back 2048 (direct_length s) (direct_area s) (part_length 296 2048 s (omega arith)) direct_fits p.past_direct

  gossip_area_lem : padded key_limit (gossip_key_of s) ≡ gossip_area s
  unfolding gossip_key_of
  gossip_area_lem = padded_back 2048 (gossip_length s) (gossip_area s) (part_length 2344 2048 s (omega arith)) gossip_fits p.past_gossip

  areas_back : areas (entry_of s) ≡ drop 40 s
  unfolding areas
  areas_back =
      rw (address_area_lem, direct_key, direct_area_lem, gossip_key_told, gossip_area_lem, ← follows 296 2048 2048 s, ← follows 40 256 4096 s)
      (take_all 4352 (drop 40 s) (simp length-drop (omega arith)))

  pub all_bits : bits_of (head_of s) ≡ bits s
  all_bits = bits_back s p.low

  module _ (o : AllOctets s) where
    pub slot_back : slot_of (entry_of s) ≡ s
    unfolding slot_of
    slot_back =
        rw (head_back, areas_back, octets_back s p.low p.zeros p.zeros_too (omega arith) o)
        (ap (λ (t : List ℕ). t ++ (take 38 (drop 2 s) ++ drop 40 s)) (sym p.opens)
        ∙ sym (append_assoc (take 2 s) (take 38 (drop 2 s)) (drop 40 s))
        ∙ ap (λ (t : List ℕ). t ++ drop 40 s) (sym (follows 0 2 38 s))
        ∙ take-append-drop 40 s)

    -- the head of the slot is written over
    head_over : (n : Head) → put_at s 2 (head_octets n) ≡ mark ++ (head_octets n ++ areas (entry_of s))
    unfolding slot_of
    head_over n =
        let h : List ℕ = head_octets (head_for (entry_of s)) in
        let e : put_at (mark ++ (h ++ areas (entry_of s))) 2 (head_octets n) ≡ mark ++ (head_octets n ++ areas (entry_of s)) =
        put_behind mark (h ++ areas (entry_of s)) (head_octets n) 2 0 refl
        ∙ ap (λ (t : List ℕ). mark ++ t) (put_front h (areas (entry_of s)) (head_octets n) (length_head (head_for (entry_of s)) ∙ sym (length_head n))) in
        rw slot_back at e

-- the areas that a writer leaves are the entry's
kept_seen : (e : Entry) (date : ℕ) → areas (seen_by date e) ≡ areas e
unfolding areas seen_by
kept_seen e date = refl

-- octets 40 to 295, 296 to 2343, or 2344 to 4391, written over behind mark and head
areas_address : (n : Head) (e : Entry) (a : List ℕ) → length e.address ≤ address_room → length a ≤ address_room
    → put_at (mark ++ (head_octets n ++ areas e)) 40 (padded address_room a) ≡ mark ++ (head_octets n ++ areas (renamed a e))
unfolding areas renamed
areas_address n e a k m =
    let x : List ℕ = padded address_room e.address in
    let rest : List ℕ = padded key_limit (or_else no_direct e.direct).key ++ padded key_limit (or_else no_gossip e.gossip).key in
    put_behind (mark ++ head_octets n) (x ++ rest) (padded address_room a) 40 0 (front_long n)
    ∙ ap (λ (t : List ℕ). mark ++ (head_octets n ++ t))
    (put_front x rest (padded address_room a) (length_padded address_room e.address k ∙ sym (length_padded address_room a m)))

areas_direct : (n : Head) (e : Entry) (d : Direct) → length e.address ≤ address_room → length (or_else no_direct e.direct).key ≤ key_limit → length d.key ≤ key_limit
    → put_at (mark ++ (head_octets n ++ areas e)) 296 (padded key_limit d.key) ≡ mark ++ (head_octets n ++ areas (with_direct d e))
unfolding areas with_direct or_else
areas_direct n e d a k m =
    let x : List ℕ = padded address_room e.address in
    let y : List ℕ = padded key_limit (or_else no_direct e.direct).key in
    let z : List ℕ = padded key_limit (or_else no_gossip e.gossip).key in
    put_behind (mark ++ head_octets n) (x ++ (y ++ z)) (padded key_limit d.key) 40 256 (front_long n)
    ∙ ap (λ (t : List ℕ). mark ++ (head_octets n ++ t))
    (put_behind x (y ++ z) (padded key_limit d.key) 256 0 (length_padded address_room e.address a)
    ∙ ap (λ (t : List ℕ). x ++ t)
    (put_front y z (padded key_limit d.key) (length_padded key_limit (or_else no_direct e.direct).key k ∙ sym (length_padded key_limit d.key m))))

areas_gossip : (n : Head) (e : Entry) (g : Gossip) → length e.address ≤ address_room → length (or_else no_direct e.direct).key ≤ key_limit
    → length (or_else no_gossip e.gossip).key ≤ key_limit → length g.key ≤ key_limit
    → put_at (mark ++ (head_octets n ++ areas e)) 2344 (padded key_limit g.key) ≡ mark ++ (head_octets n ++ areas (with_gossip g e))
unfolding areas with_gossip or_else
areas_gossip n e g a k j m =
    let x : List ℕ = padded address_room e.address in
    let y : List ℕ = padded key_limit (or_else no_direct e.direct).key in
    let z : List ℕ = padded key_limit (or_else no_gossip e.gossip).key in
    let w : List ℕ = padded key_limit g.key in
    put_behind (mark ++ head_octets n) (x ++ (y ++ z)) w 40 2304 (front_long n)
    ∙ ap (λ (t : List ℕ). mark ++ (head_octets n ++ t))
    (put_behind x (y ++ z) w 256 2048 (length_padded address_room e.address a)
    ∙ ap (λ (t : List ℕ). x ++ t)
    (put_behind y z w 2048 0 (length_padded key_limit (or_else no_direct e.direct).key k)
    ∙ ap (λ (t : List ℕ). y ++ t)
    (put_over z w (length_padded key_limit (or_else no_gossip e.gossip).key j ∙ sym (length_padded key_limit g.key m)))))

module _ (s : List ℕ) (g : (i : ℕ) → Fits w8 (get_or s i 0)) where
  pub seen_put : (n m : Head) (date : ℕ) (o : List ℕ) → (length s ≡ slot_length) × (sound s ≡ true)
      → n ≡ head_of s → m ≡ head_seen date n → o ≡ put_at s 2 (head_octets m) → o ≡ slot_of (seen_by date (entry_of s))
  unfolding slot_of
  seen_put n m date o h en em eo =
      let p : Sound s = sound_parts s h.1 in
      let k : head_for (seen_by date (entry_of s)) ≡ m = changed_seen (entry_of s) date ∙ ap (head_seen date) (head_back s h.0 p ∙ sym en) ∙ sym em in
      eo ∙ head_over s h.0 p (given_octets s g) m ∙ rw (k, kept_seen (entry_of s) date)

  pub address_put : (n m : Head) (a : List ℕ) (o₁ o₂ : List ℕ) → (length s ≡ slot_length) × (sound_by Ascii s ≡ true) × (length a ≤ address_room)
      → n ≡ head_of s → m ≡ head_address (length a) n → o₁ ≡ put_at s 2 (head_octets m) → o₂ ≡ put_at o₁ 40 (padded address_room a)
      → o₂ ≡ slot_of (renamed a (entry_of s))
  unfolding slot_of
  address_put n m a o₁ o₂ h en em e₁ e₂ =
      let p : SoundBy Ascii s = sound_parts s h.1 in
      let k : head_for (renamed a (entry_of s)) ≡ m =
      changed_address (entry_of s) a ∙ ap (head_address (length a)) (head_back s h.0 p ∙ sym en) ∙ sym em in
      e₂
      ∙ rw (e₁, head_over s h.0 p (given_octets s g) m, k)
      (areas_address m (entry_of s) a (address_in s h.0 p) h.2)

  pub direct_put : (n m : Head) (t : ℕ) (key : List ℕ) (mut : Bool) (o₁ o₂ : List ℕ) → (length s ≡ slot_length) × (sound s ≡ true) × (length key ≤ key_limit)
      → n ≡ head_of s → m ≡ head_direct t (length key) mut n → o₁ ≡ put_at s 2 (head_octets m) → o₂ ≡ put_at o₁ 296 (padded key_limit key)
      → o₂ ≡ slot_of (with_direct (record { timestamp = t; key = key; «mutual» = mut }) (entry_of s))
  unfolding slot_of
  direct_put n m t key mut o₁ o₂ h en em e₁ e₂ =
      let p : Sound s = sound_parts s h.1 in
      let d : Direct = record { timestamp = t; key = key; «mutual» = mut } in
      let k : head_for (with_direct d (entry_of s)) ≡ m =
      changed_direct (entry_of s) d ∙ ap (head_direct t (length key) mut) (head_back s h.0 p ∙ sym en) ∙ sym em in
      e₂
      ∙ rw (e₁, head_over s h.0 p (given_octets s g) m, k)
      (areas_direct m (entry_of s) d (address_in s h.0 p) (direct_key_in s h.0 p) h.2)

  pub gossip_put : (n m : Head) (t : ℕ) (key : List ℕ) (o₁ o₂ : List ℕ) → (length s ≡ slot_length) × (sound s ≡ true) × (length key ≤ key_limit)
      → n ≡ head_of s → m ≡ head_gossip t (length key) n → o₁ ≡ put_at s 2 (head_octets m) → o₂ ≡ put_at o₁ 2344 (padded key_limit key)
      → o₂ ≡ slot_of (with_gossip (record { timestamp = t; key = key }) (entry_of s))
  unfolding slot_of
  gossip_put n m t key o₁ o₂ h en em e₁ e₂ =
      let p : Sound s = sound_parts s h.1 in
      let d : Gossip = record { timestamp = t; key = key } in
      let k : head_for (with_gossip d (entry_of s)) ≡ m =
      changed_gossip (entry_of s) d ∙ ap (head_gossip t (length key)) (head_back s h.0 p ∙ sym en) ∙ sym em in
      e₂
      ∙ rw (e₁, head_over s h.0 p (given_octets s g) m, k)
      (areas_gossip m (entry_of s) d (address_in s h.0 p) (direct_key_in s h.0 p) (gossip_key_in s h.0 p) h.2)

pub ruleset changing = (address_put, seen_put, direct_put, gossip_put, rules)
