-- What single octets are inside a comment or a quoted string.
--     kind_closes .. kind_plain    the four kinds, by the tests in their order
--     takes_end, takes_octet       whether a backslash may take what stands at a place
-- Assumes nothing.
use Prim.Native.Nat.{ℕ, ◌<◌, ◌≤◌}
use mathlib.Core.Path.{◌≡◌, sym, ◌∙◌}
use mathlib.Core.Bool.{Bool, true, false, not}
use mathlib.Core.List.{List}
use borrow.Author.Rules.{rules}
use borrow.Author.Tests.{eq-eqb, ne_eqb}
use lib.ListN.{length, get_or, drop}
use Rattle.octets.proofs.Lists.{drop_one, drop_done}
use Rattle.tokens.specs.Tokens.{control, kind_of}
use Rattle.tokens.specs.Answers.{takes}
use Rattle.tokens.specs.declared.OctetKind.TheVariants.{Closes, Escapes, Control, Plain}

module _ (closing x : ℕ) where
  pub kind_closes : x ≡ closing → Closes ≡ kind_of closing x
  unfolding kind_of
  kind_closes e = rw (eq-eqb x closing e)

  module _ (apart : x ≡ closing → ⊥) where
    pub kind_escapes : x ≡ 92 → Escapes ≡ kind_of closing x
    unfolding kind_of
    kind_escapes e = rw (ne_eqb x closing apart, eq-eqb x 92 e)

    module _ (bare : x ≡ 92 → ⊥) (r : Bool) (told : r ≡ control x) where
      pub kind_control : r ≡ true → Control ≡ kind_of closing x
      unfolding kind_of
      kind_control e = rw (ne_eqb x closing apart, ne_eqb x 92 bare, sym told ∙ e)

      pub kind_plain : r ≡ false → Plain ≡ kind_of closing x
      unfolding kind_of
      kind_plain e = rw (ne_eqb x closing apart, ne_eqb x 92 bare, sym told ∙ e)

pub takes_end : (s : List ℕ) (at : ℕ) → length s ≤ at → false ≡ takes (drop at s)
unfolding takes
takes_end s at h = rw drop_done

pub takes_octet : (s : List ℕ) (at : ℕ) (r : Bool) → at < length s → r ≡ control (get_or s at 0) → not r ≡ takes (drop at s)
unfolding takes
takes_octet s at r h e = rw (drop_one s at h, e)

pub ruleset telling = (takes_end, takes_octet, rules)
