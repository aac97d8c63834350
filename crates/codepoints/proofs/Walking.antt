-- The code points of a text, in lower case (L21), stored one by one.
--     all_front                 a list in front of one that may be absent
--     Walk s d out n i          what the loop knows: n of them are stored, and the octets from i on are left
--     walk_begin .. walk_end    the loop's steps
--     walking                   the ruleset
-- Assumes nothing.
use Prim.Native.Nat.{ℕ, ◌+◌, ◌-◌, ◌<◌, ◌≤◌}
use mathlib.Core.Path.{◌≡◌, refl, sym, ap, ◌∙◌}
use mathlib.Core.List.{List, [], ◌∷◌, ◌++◌, append_assoc, append-nil}
use Rattle.std.specs.Prelude.{Option, Some, None}
use native.Mathlib.Numerals.{add-one}
use native.Mathlib.Omega.{arith}
use borrow.Author.Rules.{rules}
use lib.ListN.{length, take, drop, set, length-set, length-append}
use lib.Seq.{take-suc-set, take_all}
use Rattle.octets.specs.Options.{in_front}
use Rattle.octets.proofs.Lists.{drop_done}
use Rattle.utf8.specs.Utf8.{points}
use Rattle.utf8.specs.Lowering.{lower_point, lower_points}
use Rattle.codepoints.specs.Reading.{small_of, Shown, Nought, Many, Found, Gives}
use Rattle.codepoints.specs.declared.Point.{Point}

unfoldable pub all_front : List ℕ → Option (List ℕ) → Option (List ℕ)
all_front w None = None
all_front w (Some ps) = Some (w ++ ps)

front_none : (o : Option (List ℕ)) → o ≡ all_front [] o
unfolding all_front
front_none None = refl
front_none (Some ps) = refl

front_one : (w : List ℕ) (p : ℕ) (o : Option (List ℕ)) → all_front w (in_front p o) ≡ all_front (w ++ (p ∷ [])) o
unfolding all_front in_front
front_one w p None = refl
front_one w p (Some ps) = ap Some (sym (append_assoc w (p ∷ []) ps))

-- with one more behind it, all is longer
front_long : (w : List ℕ) (p : ℕ) (o : Option (List ℕ)) (ps : List ℕ) → all_front w (in_front p o) ≡ Some ps → length w < length ps
unfolding all_front in_front
front_long w p None ps e = let z : ◌≡◌ {A = ℕ} 0 1 = cc in absurd (omega arith)
front_long w p (Some qs) ps e = let q : w ++ (p ∷ qs) ≡ ps = cc in omega (arith, ap length q, length-append w (p ∷ qs))

small_front : (p : ℕ) (o : Option (List ℕ)) → small_of (in_front p o) ≡ in_front (lower_point p) (small_of o)
unfolding small_of in_front lower_points
small_front p None = refl
small_front p (Some ps) = refl

pub record Walk (s d out : List ℕ) (n i : ℕ) : Type 0 where
  pub is : small_of (points s) ≡ all_front (take n out) (small_of (points (drop i s)))
  pub kept : length out ≡ length d
  pub upto : i ≤ length s
  pub inside : n ≤ length out

pub walk_begin : (s d : List ℕ) → Walk s d d 0 0
walk_begin s d = record { is = front_none (small_of (points s)); kept = refl; upto = omega arith; inside = omega arith }

module _ (s d out : List ℕ) (n i : ℕ) (g : Walk s d out n i) where
  pub walk_kept : length out ≡ length d
  walk_kept = g.kept

  module _ (r : Option Point) where
    pub walk_bad : r ≡ None → Gives s (i + 1) (points (drop i s)) r → Nought d out (small_of (points s))
    unfolding small_of all_front
    walk_bad a k =
        let e : points (drop i s) ≡ None = rw a at k in
        record { same = g.kept; text = g.is ∙ rw e }

    module _ (point : Point) (a : r ≡ Some point) (k : Gives s (i + 1) (points (drop i s)) r) where
      one : Found s (i + 1) (points (drop i s)) point.number point.end
      one = rw a at k

      here : small_of (points s) ≡ all_front (take n out) (in_front (lower_point point.number) (small_of (points (drop point.end s))))
      here = g.is ∙ rw (one.is, small_front point.number (points (drop point.end s)))

      pub walk_small : point.number < 0x200000
      walk_small = one.small

      pub walk_less : i < length s → length s - point.end < length s - i
      walk_less l = omega (arith, one.on)

      pub walk_full : length out ≤ n → Many d out (small_of (points s))
      walk_full l =
          record {
            same = g.kept;
            text = λ ps e. omega (arith, front_long (take n out) (lower_point point.number) _ ps (sym here ∙ e), ap length (take_all n out l), g.kept);
          }

      pub walk_next : (q : ℕ) → n < length out → q ≡ lower_point point.number → Walk s d (set out n q) (n + 1) point.end
      walk_next q l e =
          let t : take (n + 1) (set out n q) ≡ take n out ++ (q ∷ []) = rw add-one (take-suc-set out n q l) in
          record {
            is = here ∙ front_one (take n out) (lower_point point.number) (small_of (points (drop point.end s))) ∙ rw (t, e);
            kept = length-set out n q ∙ g.kept;
            upto = one.upto;
            inside = omega (arith, length-set out n q);
          }

  pub walk_end : length s ≤ i → Shown d out (small_of (points s)) n
  unfolding points small_of lower_points all_front
  walk_end l = record { same = g.kept; text = g.is ∙ rw (drop_done s i l, append-nil); upto = g.inside }

pub ruleset walking = (walk_begin, walk_kept, walk_bad, walk_small, walk_less, walk_full, walk_next, walk_end, rules)
