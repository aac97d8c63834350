-- The name and the value of a piece. (`=` is 61.)
--     known_empty .. known_other     whether a name is unknown
--     called_none .. called_so       whether a piece has such a name
--     value_none, value_some         where its value stands
--     name_order, name_upto          and its name
--     the rulesets                   knowing for `is_unknown`, calling for `is_called`, valuing for `value_at`
-- Assumes nothing.
use Prim.Native.Nat.{ℕ, ◌+◌, ◌-◌, ◌<◌, ◌≤◌}
use mathlib.Core.Path.{◌≡◌, refl, sym, ap, ◌∙◌}
use mathlib.Core.Bool.{Bool, true, false, not, ◌&&◌}
use mathlib.Core.List.{List, [], ◌∷◌}
use native.Mathlib.Omega.{arith}
use borrow.Author.Rules.{rules}
use borrow.Author.Tests.{not-false, eqb-true}
use lib.Dec.{eqb}
use lib.ListN.{length, take, drop}
use Rattle.octets.proofs.Lists.{drop_done}
use Rattle.pieces.specs.Pieces.{before, behind}
use Rattle.pieces.proofs.Pieces.{behind_drop}
use Rattle.attributes.specs.Attribute.{trimmed_front, trimmed_back, trimmed, name_of}
use Rattle.attributes.specs.Answers.{part, Within, FirstAt, Trimmed}
use Rattle.attributes.specs.declared.Bounds.{Bounds}
use Rattle.attributes.specs.declared.Name.{Name}
use Rattle.attributes.specs.declared.Name.TheVariants as Names
use Rattle.attributes.proofs.Parts.{part_none, part_length}
use Rattle.attributes.proofs.Cutting.{cut_before, cut_behind, cut_holds, cut_without}
use Rattle.attributes.proofs.Naming.{name_within, value_within}
use Rattle.asked.specs.Asked.{is_empty, is_other, is_unknown, is_name, is_called, value_of}
use Rattle.asked.specs.Answers.{ValueAs}
use Rattle.asked.specs.declared.Called.{Called}

pub known_empty : (s : List ℕ) (b : Bool) → b ≡ eqb (length s) 0 → not b ≡ false → not b ≡ is_unknown s
unfolding is_unknown is_empty
known_empty [] b e n = n
known_empty (x ∷ s) b e n = let z : length (x ∷ s) ≡ 0 = eqb-true (length (x ∷ s)) 0 (sym e ∙ not-false b n) in absurd (omega arith)

-- a name that is not empty is what F5 says
module _ (s : List ℕ) (g : Name) (e : g ≡ name_of s) (h : 0 < length s) where
  pub known_as : is_other g ≡ is_unknown s
  unfolding is_unknown is_empty
  known_as = go s h (ap is_other e)
    where
      go : (t : List ℕ) → 0 < length t → is_other g ≡ is_other (name_of t) → is_other g ≡ (not (is_empty t) && is_other (name_of t))
      go [] l q = absurd (omega arith)
      go (x ∷ t) l q = q

  pub known_unknown : g ≡ Names.Unknown → true ≡ is_unknown s
  unfolding is_other
  known_unknown q = rw q at known_as

  pub known_other : (g ≡ Names.Unknown → ⊥) → false ≡ is_unknown s
  unfolding is_other
  known_other n = go g n known_as
    where
      go : (k : Name) → (k ≡ Names.Unknown → ⊥) → is_other k ≡ is_unknown s → false ≡ is_unknown s
      go Names.Addr m q = q
      go Names.PreferEncrypt m q = q
      go Names.Keydata m q = q
      go Names.Ignored m q = q
      go Names.Unknown m q = absurd (m refl)

pub ruleset knowing = (known_empty, known_unknown, known_other, rules)

module _ (s : List ℕ) (from to cut : ℕ) (w : Within s from to) (f : FirstAt s from to 61 cut) where
  pub called_none : (what : Called) → to ≤ cut → false ≡ is_called what (part s from to)
  unfolding is_called
  called_none what l = rw (cut_without s from to 61 cut w f l)

  -- nothing stands behind a `=` that is not there
  behind_none : to ≤ cut → behind 61 (part s from to) ≡ []
  behind_none l =
      behind_drop 61 (part s from to)
      ∙ drop_done (part s from to) (length (before 61 (part s from to)) + 1) (omega (arith, f.is, part_length s from to w.upto))

  pub value_none : to ≤ cut → ValueAs s from to (record { from = to; to = to })
  unfolding value_of trimmed trimmed_back trimmed_front
  value_none l =
      record { is = part_none s to ∙ rw (behind_none l); within = record { order = omega arith; upto = w.upto } }

  module _ (l : cut < to) where
    module _ (n : Bounds) (p : Trimmed s from cut n) where
      pub name_order : n.from ≤ n.to
      name_order = p.order

      pub name_upto : n.to ≤ length s
      name_upto = omega (arith, p.high, w.upto)

      pub called_so : (what : Called) (b : Bool) → b ≡ is_name what (take (n.to - n.from) (drop n.from s)) → b ≡ is_called what (part s from to)
      unfolding is_called part
      called_so what b e = rw (cut_holds s from to 61 cut w f l, ← cut_before s from to 61 cut w f, ← p.is) e

    pub value_some : (v : Bounds) → Trimmed s (cut + 1) to v → ValueAs s from to v
    unfolding value_of
    value_some v q =
        record {
          is = rw (← cut_behind s from to 61 cut w f l) q.is;
          within = record { order = q.order; upto = omega (arith, q.high, w.upto) };
        }

pub ruleset calling = (called_none, name_within, name_order, name_upto, called_so, rules)

pub ruleset valuing = (value_none, value_within, value_some, rules)
