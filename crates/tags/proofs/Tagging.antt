-- The tag of an address.
--     TagUpTo s k tag            the tag of the first k octets
--     tag_begin .. tag_end       the loop over an address
--     tagging                    what `tag_of` asks
-- Assumes nothing.
use Rattle.std.proofs.Common.{◌≡◌, ℕ, ◌+◌, ◌<◌, ◌≤◌, List, length, get_or, drop, sym, refl, ◌∙◌, arith, rules}
use Rattle.octets.proofs.Lists.{drop_one, drop_done}
use Rattle.tags.specs.Tags.{with_octet, tag_after, tag_of}

pub record TagUpTo (s : List ℕ) (k tag : ℕ) : Type 0 where
  pub upto : k ≤ length s
  pub so_far : tag_of s ≡ tag_after tag (drop k s)

pub tag_begin : (s : List ℕ) → TagUpTo s 0 5381
unfolding tag_of
tag_begin s = record { upto = omega arith; so_far = refl }

module _ (s : List ℕ) (k tag : ℕ) (h : TagUpTo s k tag) where
  pub tag_next : (e : ℕ) → k < length s → e ≡ with_octet tag (get_or s k 0) → TagUpTo s (k + 1) e
  unfolding tag_after
  tag_next e l p = record { upto = omega arith; so_far = h.so_far ∙ rw (drop_one s k l, tag_after, ← p) }

  pub tag_end : length s ≤ k → tag ≡ tag_of s
  unfolding tag_after
  tag_end l = sym (h.so_far ∙ rw (drop_done s k l, tag_after))

pub ruleset tagging = (tag_begin, tag_next, tag_end, rules)
