-- An address looked for in the slots of a table.
--     has_tag                     the tag of a slot that has the address
--     pass_tag                    a slot of another tag
--     none_with                   a tag that is not there is that of an address in no slot
--     pass_by, stands             a slot of this tag
--     search_begin, search_end    the scan
--     find_seeks, found_is        the whole table
--     the rulesets                searching, for `search`; sifting, for `lowest_with`; finding, for `find`
-- Assumes nothing.
use Rattle.std.specs.Prelude.{Option, Some, None}
use Prim.Native.Nat.{ℕ, ◌+◌, ◌<◌, ◌≤◌}
use mathlib.Core.Path.{◌≡◌, refl, sym, ◌∙◌}
use mathlib.Core.Bool.{Bool, true, false, not, ◌&&◌}
use mathlib.Core.List.{List, [], ◌∷◌}
use native.Mathlib.Omega.{arith}
use borrow.Author.Tests.{not-true}
use borrow.Author.Rules.{rules}
use lib.ListN.{length, get_or}
use Rattle.octets.specs.Octets.{same_octets}
use Rattle.octets.proofs.Tests.{by_test}
use Rattle.octets.proofs.Comparing.{same_differs}
use Rattle.slots.specs.Slot.{slot_length, marked, address_of}
use Rattle.tags.specs.Tags.{tag_of, in_first}
use Rattle.tags.proofs.Among.{first_not}
use Rattle.table.specs.Table.{slots, slot_at, has_address, lowest, found}
use Rattle.table.specs.Tagged.{tag_at, Tagged}
use Rattle.table.proofs.Scanning.{Scan, scan_begin, scan_no, scan_yes, scan_end}
use Rattle.table.proofs.Finding.{has_used, has_address_lem, lowest_none}
use Rattle.lookup.specs.Looking.{Seeks}

-- the slot's tag, where the slot has the address
has_tag : (t a : List ℕ) (i : ℕ) → has_address a (slot_at t i) ≡ true → tag_at t i ≡ tag_of a
unfolding tag_at
has_tag t a i p = rw (has_used a (slot_at t i) p, has_address_lem a (slot_at t i) p)

module _ (t tags a : List ℕ) (tag n : ℕ) (q : Seeks t tags a tag n) where
  -- a slot with another tag
  apart : (i : ℕ) → i < n → (get_or tags i 0 ≡ tag → ⊥) → has_address a (slot_at t i) ≡ false
  apart i l d =
      by_test (has_address a (slot_at t i))
      (λ p. absurd (d (q.tagged.each i l ∙ has_tag t a i p ∙ sym q.own)))
      (λ p. p)

  pub pass_tag : (i : ℕ) → Scan (has_address a) t n i → i < n → (get_or tags i 0 ≡ tag → ⊥) → Scan (has_address a) t n (i + 1)
  pass_tag i h l d = scan_no (has_address a) t n i h l (apart i l d)

  pub none_with : (b : Bool) → b ≡ in_first tag tags n → not b ≡ true → None ≡ lowest (has_address a) t 0 n
  none_with b e z =
      sym (lowest_none (has_address a) t 0 n (λ m _ l. apart m (omega arith) (λ p. first_not tag tags n m (sym e ∙ not-true b z) (omega arith) p)))

  pub tags_enough : n ≤ length tags
  tags_enough = omega (arith, q.tagged.few, q.tagged.room)

  pub tag_within : (i : ℕ) → i < n → i < 256
  tag_within i l = omega (arith, q.tagged.few)

  pub slot_within : (i : ℕ) → i < n → i < slots t
  slot_within i l = omega (arith, q.within)

pub ruleset sifting = (none_with, tags_enough, rules)

-- one slot of the scan
module _ (t a : List ℕ) (n i : ℕ) (h : Scan (has_address a) t n i) (l : i < n) (s : List ℕ)
    (e : (s ≡ slot_at t i) × (length s ≡ slot_length)) (b : Bool) (p : b ≡ has_address a s) where
  pub pass_by : b ≡ false → Scan (has_address a) t n (i + 1)
  pass_by q = scan_no (has_address a) t n i h l (rw (← e.0) (sym p ∙ q))

  pub stands : b ≡ true → Some i ≡ lowest (has_address a) t 0 n
  stands q = scan_yes (has_address a) t n i h l (rw (← e.0) (sym p ∙ q))

pub search_begin : (t a : List ℕ) (n : ℕ) → Scan (has_address a) t n 0
search_begin t a n = scan_begin (has_address a) t n

pub search_end : (t a : List ℕ) (n i : ℕ) → Scan (has_address a) t n i → n ≤ i → None ≡ lowest (has_address a) t 0 n
search_end t a n i h l = scan_end (has_address a) t n i h l

pub ruleset searching = (slot_within, tag_within, search_begin, pass_tag, pass_by, stands, search_end, rules)

-- the first octet settles it where it differs
pub opening_differs : (s a own : List ℕ) → own ≡ address_of s → 0 < length own → (get_or own 0 0 ≡ get_or a 0 0 → ⊥)
    → false ≡ (marked s && same_octets (address_of s) a)
opening_differs s a own e l n =
    let d : false ≡ same_octets (address_of s) a = rw (← e) (same_differs own a 0 l n) in
    by_test (marked s) (λ m. d ∙ rw m) (λ m. rw m)

-- the whole table
pub found_is : (t a : List ℕ) (n : ℕ) (f : Option ℕ) → n ≡ slots t → f ≡ lowest (has_address a) t 0 n → f ≡ found t a
unfolding found
found_is t a n f e p = p ∙ rw e

pub find_seeks : (t tags a : List ℕ) (tag n : ℕ) → Tagged t tags → tag ≡ tag_of a → n ≡ slots t → Seeks t tags a tag n
find_seeks t tags a tag n h e p = record { within = omega arith; tagged = rw p h; own = e }

pub ruleset finding = (find_seeks, found_is, rules)
