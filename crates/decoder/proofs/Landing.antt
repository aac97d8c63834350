-- A number that ends, and the code point that it leads to.
--     landed_none, landed_over    it leads to no code point: the text stands for nothing, whatever follows
--     the ruleset                 landing, for `land`
-- Assumes nothing.
use Prim.Native.Nat.{ℕ, ◌+◌, ◌-◌, ◌*◌, ◌/◌, ◌%◌, ◌^◌, ◌<◌, ◌≤◌}
use mathlib.Core.Path.{◌≡◌, refl, sym, ap, ◌∙◌}
use mathlib.Core.Bool.{Bool, true, false}
use mathlib.Core.List.{List, ◌∷◌}
use Rattle.std.specs.Prelude.{None}
use native.Mathlib.Nat.{mod-lt, div-le_self, le-div_iff_mul-le}
use native.Mathlib.Omega.{arith}
use borrow.Author.Rules.{rules}
use mir.Syntax.{w32, w64}
use mir.Val.{Fits}
use lib.Dec.{eqb}
use lib.ListN.{length, take, drop, length-drop}
use lib.Seq.{length-take-le}
use Rattle.octets.specs.Written.{put_at}
use Rattle.octets.proofs.Putting.{put_long}
use Rattle.utf8.specs.Utf8.{scalar}
use Rattle.utf8.proofs.RoundTrip.{scalar_most}
use Rattle.punycode.specs.Punycode.{adapt, landed, run}
use Rattle.punycode.proofs.RoundTrip.{landed_at}
use Rattle.decoder.specs.Steps.{Lands, Landing, Lost}
use Rattle.decoder.specs.declared.Decoder.{Decoder}
use Rattle.decoder.proofs.Inserting.{take_inserted, scalar_over}

landed_none : (s : List ℕ) (n old : ℕ) (out : List ℕ) (j : ℕ) → scalar (n + j / (length out + 1)) ≡ false → landed (run s) n old out j ≡ None
unfolding landed
landed_none s n old out j e = rw (landed, e)

pub landed_over : (s : List ℕ) (n old : ℕ) (out : List ℕ) (j : ℕ) → 0x110000 * (length out + 1) ≤ j → landed (run s) n old out j ≡ None
landed_over s n old out j h =
    let q : 0x110000 ≤ j / (length out + 1) = (le-div_iff_mul-le {k = length out + 1} {x = 0x110000} {y = j} (omega arith)).1 h in
    landed_none s n old out j (scalar_over _ (omega arith))

-- `land`
module _ (d : List ℕ) (sum : ℕ) (s : Decoder) (h : Lands (length d) sum s) where
  len_long : length (take s.len d) ≡ s.len
  len_long = length-take-le s.len d (omega (arith, h.inside))

  pub land_point : Fits w64 (s.n + sum / (s.len + 1))
  land_point = omega (arith, h.point, h.most, h.inside, h.short, div-le_self sum (s.len + 1))

  place_in : sum % (s.len + 1) < s.len + 1
  place_in = mod-lt sum (omega arith)

  pub land_cast : (b : Bool) → b ≡ true → b ≡ scalar (s.n + sum / (s.len + 1)) → Fits w32 (s.n + sum / (s.len + 1))
  land_cast b t e = omega (arith, scalar_most _ (sym e ∙ t))

  pub land_insert : (sum % (s.len + 1) ≤ s.len) × (s.len < length d)
  land_insert = (omega (arith, place_in), h.inside)

  pub land_next : Fits w64 (sum % (s.len + 1) + 1)
  land_next = omega (arith, place_in, h.inside, h.short)

  pub land_adapt : (sum - s.old < 2 ^ 56) × (0 < s.len + 1)
  land_adapt = (omega (arith, h.most, h.inside, h.short), omega arith)

  pub land_count : Fits w64 (s.len + 1)
  land_count = omega (arith, h.inside, h.short)

  pub land_lost : (b : Bool) → b ≡ false → b ≡ scalar (s.n + sum / (s.len + 1)) → Lost d d sum s
  land_lost b t e =
      record { same = refl; goes = λ rest. landed_none rest s.n s.old (take s.len d) sum (rw len_long (sym e ∙ t)) }

  pub land_on : (e : List ℕ) (k : ℕ) (b : Bool) → b ≡ true → b ≡ scalar (s.n + sum / (s.len + 1))
      → e ≡ put_at d (sum % (s.len + 1)) ((s.n + sum / (s.len + 1)) ∷ drop (sum % (s.len + 1)) (take s.len d))
      → k ≡ adapt (sum - s.old) (s.len + 1) (eqb s.old 0)
      → Landing d e sum s (record { n = s.n + sum / (s.len + 1); old = sum % (s.len + 1) + 1; bias = k; i = sum % (s.len + 1) + 1; w = 1; k = 36; len = s.len + 1 })
  land_on e k b t q p r =
      let v : scalar (s.n + sum / (s.len + 1)) ≡ true = sym q ∙ t in
      let m = take_inserted d s.len (sum % (s.len + 1)) (s.n + sum / (s.len + 1)) (omega (arith, place_in)) h.inside in
      let l : length e ≡ length d = ap length p ∙ put_long d _ _ (simp length-drop (omega (arith, place_in, len_long, h.inside))) in
      record {
        same = l;
        goes = λ rest.
            landed_at rest s.n s.old (take s.len d) sum (s.n + sum / (s.len + 1)) (sum % (s.len + 1)) (rw len_long) (rw len_long) v
            ∙ rw (len_long, ← m, ← p, ← r);
        fine = record {
          inside = omega (arith, h.inside);
          point = scalar_most _ v;
          sum = omega (arith, place_in);
          weight = omega arith;
          older = omega arith;
          begun = omega arith;
        };
        slow = omega arith;
        turns = omega arith;
      }

pub ruleset landing = (land_point, land_cast, land_insert, land_next, land_adapt, land_count, land_lost, land_on, rules)
