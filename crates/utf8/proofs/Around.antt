-- One octet in lower case, by its neighbours: the answers of the code.
--     by_ascii .. by_first           any octet
--     small_is                       by the neighbours of a place in a text
--     the rulesets                   lowering_at and around
-- Assumes nothing.
use Prim.Native.Nat.{ℕ, ◌+◌, ◌<◌, ◌≤◌}
use mathlib.Core.Path.{◌≡◌, sym, ◌∙◌}
use mathlib.Core.List.{List, ◌∷◌}
use borrow.Author.Rules.{rules}
use lib.ListN.{get_or}
use Rattle.octets.specs.Octets.{lower}
use Rattle.utf8.specs.Steps.{second_of, first_of, lower_at, small_at}
use Rattle.utf8.proofs.Octetwise.{at_ascii, at_second, at_first}

module _ (a x b r : ℕ) where
  pub by_ascii : x < 0x80 → r ≡ lower x → r ≡ lower_at a x b
  by_ascii h e = e ∙ sym (at_ascii a x b h)

  pub by_second : 0x80 ≤ x → x < 0xC0 → r ≡ second_of a x → r ≡ lower_at a x b
  by_second h k e = e ∙ sym (at_second a x b h k)

  pub by_first : 0xC0 ≤ x → r ≡ first_of x b → r ≡ lower_at a x b
  by_first h e = e ∙ sym (at_first a x b h)

pub ruleset lowering_at = (by_ascii, by_second, by_first, rules)

module _ (s : List ℕ) (i : ℕ) where
  pub small_is : (a b r : ℕ) → a ≡ get_or (0 ∷ s) i 0 → b ≡ get_or s (i + 1) 0 → r ≡ lower_at a (get_or s i 0) b → r ≡ small_at s i
  unfolding small_at
  small_is a b r e f g = g ∙ rw (e, f)

pub ruleset around = (small_is, rules)
