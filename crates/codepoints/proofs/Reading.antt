-- One code point of a text (L20).
--     Rest s at o i end l h p     what a loop knows that reads the rest of a code point: at i it is p, and octets are missing up to `end`
--     rest_begin .. rest_end      the loop's steps
--     rest_short                  too few octets are left
--     lead_begun                  what a first octet tells is the start of a code point
--     at_bad, at_led              a code point, by its first octet
--     the rulesets                resting and pointing
-- Assumes nothing.
use Prim.Native.Nat.{ℕ, suc, zero, ◌+◌, ◌-◌, ◌*◌, ◌^◌, ◌<◌, ◌≤◌}
use mathlib.Core.Path.{◌≡◌, refl, sym, ap, ◌∙◌}
use mathlib.Core.Bool.{Bool, true, ◌&&◌}
use mathlib.Core.List.{List, [], ◌∷◌}
use Rattle.std.specs.Prelude.{Option, Some, None}
use native.Mathlib.Nat.{pow-succ', mul_assoc, mul-le-mul_right}
use native.Mathlib.Omega.{arith}
use borrow.Author.Rules.{rules}
use borrow.Author.Tests.{leb-true, le-leb, lt-leb}
use mir.Syntax.{w32}
use mir.Val.{Fits}
use lib.Dec.{leb}
use lib.ListN.{length, get_or, drop, length-drop}
use Rattle.octets.specs.Options.{in_front}
use Rattle.octets.proofs.Lists.{drop_one, left_one}
use Rattle.octets.proofs.Tests.{by_test, and_left, and_right, all_below_lem}
use Rattle.utf8.specs.Utf8.{lead_of, tails, points}
use Rattle.utf8.specs.declared.Lead.{Lead}
use Rattle.utf8.proofs.Leading.{at_leads, lead_low}
use Rattle.utf8.proofs.RoundTrip.{tails_none, tails_one, points_lead}
use Rattle.codepoints.specs.Reading.{Begun, Found, Gives}
use Rattle.codepoints.specs.declared.Point.{Point}

pub record Rest (s : List ℕ) (at : ℕ) (o : Option (List ℕ)) (i end l h p : ℕ) : Type 0 where
  pub is : o ≡ tails (drop i s) (end - i) l h p
  pub begun : Begun (end - i) l h p
  pub on : at ≤ i
  pub upto : i ≤ end
  pub inside : end ≤ length s

-- m and q are n and p as the code has them
pub rest_begin : (s : List ℕ) (at n l h p m q : ℕ) → m ≡ n → q ≡ p → at ≤ length s → m ≤ length s - at → Begun n l h p
    → Rest s at (tails (drop at s) n l h p) at (at + m) l h q
rest_begin s at n l h p m q e f k j b =
    let d : at + m - at ≡ n = omega arith in
    record { is = rw (d, f); begun = rw (d, f) b; on = omega arith; upto = omega arith; inside = omega arith }

-- six bits more
stepped : (n p : ℕ) → p * 64 ^ suc n ≡ p * 64 * 64 ^ n
stepped n p = rw (pow-succ' 64 n) (sym (mul_assoc p 64 (64 ^ n)))

-- what a code point is so far is no more than what it can become, and an octet more adds no more than that allows
bounded : (n p : ℕ) → p ≤ p * 64 ^ n
bounded zero p = omega arith
bounded (suc n) p = omega (arith, bounded n (p * 64), stepped n p)

added : (n p y : ℕ) → y < 64 → (p * 64 + y + 1) * 64 ^ n ≤ (p + 1) * 64 ^ suc n
added n p y l =
    let k : (p * 64 + y + 1) * 64 ^ n ≤ (p + 1) * 64 * 64 ^ n = mul-le-mul_right (64 ^ n) (omega arith) in
    omega (arith, k, stepped n (p + 1))

-- too few octets are left
tails_short : (s : List ℕ) (n l h p : ℕ) → length s < n → tails s n l h p ≡ None
unfolding tails
tails_short s zero l h p e = absurd (omega arith)
tails_short [] (suc n) l h p e = refl
tails_short (x ∷ s) (suc n) l h p e =
    by_test (leb l x && leb x h)
    (λ t. rw (tails, t) (tails_short s n 0x80 0xBF (p * 64 + (x - 0x80)) (omega arith)))
    (λ t. rw (tails, t))

pub rest_short : (s : List ℕ) (at n l h p : ℕ) → length s - at < n → tails (drop at s) n l h p ≡ None
rest_short s at n l h p e = tails_short (drop at s) n l h p (rw length-drop e)

module _ (s : List ℕ) (at : ℕ) (o : Option (List ℕ)) (i end l h p : ℕ) (g : Rest s at o i end l h p) where
  low : p < 0x200000
  low = omega (arith, bounded (end - i) (p + 1), g.begun.small)

  pub rest_end : end ≤ i → Found s at o p end
  rest_end k =
      let z : end - i ≡ 0 = omega arith in
      let e : i ≡ end = omega (arith, g.upto) in
      let t : o ≡ in_front p (points (drop i s)) = g.is ∙ rw z (tails_none (drop i s) l h p) in
      record { is = rw e at t; small = low; on = omega (arith, g.on); upto = g.inside }

  module _ (k : i < end) where
    here : o ≡ tails (get_or s i 0 ∷ drop (i + 1) s) (suc (end - (i + 1))) l h p
    here = g.is ∙ rw (drop_one s i (omega (arith, g.inside)), left_one end i k)

    pub rest_low : get_or s i 0 < l → o ≡ None
    unfolding tails
    rest_low e = here ∙ rw (tails, lt-leb l (get_or s i 0) e)

    module _ (a : l ≤ get_or s i 0) where
      pub rest_high : h < get_or s i 0 → o ≡ None
      unfolding tails
      rest_high e = here ∙ rw (tails, le-leb l (get_or s i 0) a, lt-leb (get_or s i 0) h e)

      pub rest_sub : 0x80 ≤ get_or s i 0
      rest_sub = omega (arith, g.begun.least (omega arith))

      module _ (b : get_or s i 0 ≤ h) (y : ℕ) (c : y ≡ get_or s i 0 - 0x80) where
        pub rest_add : Fits w32 (p * 64 + y)
        rest_add = omega (arith, low, g.begun.most)

        pub rest_next : Rest s at o (i + 1) end 0x80 0xBF (p * 64 + y)
        rest_next =
            let m : y < 64 = omega (arith, g.begun.most) in
            let e : (p + 1) * 64 ^ suc (end - (i + 1)) ≡ (p + 1) * 64 ^ (end - i) = rw (left_one end i k) in
            record {
              is = here ∙ rw c (tails_one (get_or s i 0) (drop (i + 1) s) (end - (i + 1)) l h p a b);
              begun = record {
                small = omega (arith, added (end - (i + 1)) p y m, e, g.begun.small);
                least = λ _. omega arith;
                most = omega arith;
              };
              on = omega (arith, g.on);
              upto = omega arith;
              inside = g.inside;
            }

  pub rest_mul : Fits w32 (p * 64)
  rest_mul = omega (arith, low)

pub ruleset resting = (rest_begin, rest_end, rest_short, rest_low, rest_high, rest_sub, rest_mul, rest_add, rest_next, rules)

-- what a first octet tells, held to at each of the 256 octets
started : Option Lead → ℕ → Bool
started None x = true
started (Some f) x = leb ((f.bits + 1) * 64 ^ f.following) 0x200000 && leb f.high 0xBF

lead_started : (x : ℕ) → started (lead_of x) x ≡ true
unfolding lead_of started
lead_started = at_leads started (all_below_lem (λ x. started (lead_of x) x) 256 refl) (λ x. refl)

module _ (x : ℕ) (g : Option Lead) (f : Lead) (b : g ≡ Some f) (e : g ≡ lead_of x) where
  pub lead_begun : Begun f.following f.low f.high f.bits
  unfolding started
  lead_begun =
      let t : (leb ((f.bits + 1) * 64 ^ f.following) 0x200000 && leb f.high 0xBF) ≡ true = ap (λ o. started o x) (sym b ∙ e) ∙ lead_started x in
      record {
        small = leb-true ((f.bits + 1) * 64 ^ f.following) 0x200000 (and_left _ (leb f.high 0xBF) t);
        least = lead_low x f (sym e ∙ b);
        most = leb-true f.high 0xBF (and_right (leb ((f.bits + 1) * 64 ^ f.following) 0x200000) _ t);
      }

module _ (s : List ℕ) (i : ℕ) (j : i < length s) (g : Option Lead) where
  pub at_bad : g ≡ None → g ≡ lead_of (get_or s i 0) → points (drop i s) ≡ None
  unfolding points
  at_bad b e = rw (drop_one s i j, points, sym e ∙ b)

  pub at_led : (f : Lead) → g ≡ Some f → g ≡ lead_of (get_or s i 0)
      → (r : Option Point) → Gives s (i + 1) (tails (drop (i + 1) s) f.following f.low f.high f.bits) r → Gives s (i + 1) (points (drop i s)) r
  at_led f b e r k =
      rw (drop_one s i j, points_lead (get_or s i 0) (drop (i + 1) s) f (sym e ∙ b)) k

pub ruleset pointing = (lead_begun, at_bad, at_led, rules)
