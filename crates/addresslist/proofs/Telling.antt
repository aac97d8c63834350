-- What single octets are, and whether a run holds an "@".
--     opens_run, opens_nothing  what an octet opens, by the tests in their order
--     held                      whether there is an octet in a list, as std tells
-- Assumes nothing.
use Prim.Native.Nat.{ℕ}
use mathlib.Core.Path.{◌≡◌, refl, sym, ap, ◌∙◌}
use mathlib.Core.Bool.{Bool, true, false, ◌||◌}
use mathlib.Core.List.{List, [], ◌∷◌}
use Rattle.std.specs.Prelude.{◌==◌}
use Rattle.std.specs.List.{list_any}
use lib.Dec.{eqb}
use borrow.Author.Tests.{ne_eqb}
use Rattle.octets.specs.Finding.{holds}
use Rattle.address.specs.Address.{address_octet}
use Rattle.addresslist.specs.List.{opening_of}
use Rattle.addresslist.specs.declared.token.Start.TheVariants.{Run, Nothing}

-- what an octet opens; b is what a call answered of it
module _ (x : ℕ) (b : Bool) (e : b ≡ address_octet x) where
  pub opens_run : b ≡ true → Run ≡ opening_of x
  unfolding opening_of
  opens_run p = rw (sym e ∙ p)

  pub opens_nothing :
      b ≡ false → (x ≡ 34 → ⊥) → (x ≡ 44 → ⊥) → (x ≡ 60 → ⊥) → (x ≡ 62 → ⊥) → (x ≡ 58 → ⊥) → (x ≡ 59 → ⊥) → Nothing ≡ opening_of x
  unfolding opening_of
  opens_nothing p q c l g o s =
      rw (sym e ∙ p, ne_eqb x 34 q, ne_eqb x 44 c, ne_eqb x 60 l, ne_eqb x 62 g, ne_eqb x 58 o, ne_eqb x 59 s)

-- std's search for an octet
pub held : (d : ℕ) (s : List ℕ) → list_any (λ x. x == d) s ≡ holds d s
unfolding holds
held d [] = refl
held d (x ∷ s) = ap (λ (b : Bool). eqb x d || b) (held d s)
