-- All numbers of a text, and the text as a whole.
--     Rest, rest_begin .. rest_open      what is left of a text comes to what the whole text does
--     basic_yes, basic_no                the test of the front
--     decode_small .. decode_end         the front, and the numbers behind it
--     the rulesets                       resting for `read_rest`, decoding for `decode`
-- Assumes nothing.
use Prim.Native.Nat.{ℕ, zero, suc, ◌+◌, ◌*◌, ◌^◌, ◌<◌, ◌≤◌}
use mathlib.Core.Path.{◌≡◌, refl, sym, ap, ◌∙◌}
use mathlib.Core.Bool.{true, false}
use mathlib.Core.List.{List, [], ◌∷◌}
use Rattle.std.specs.Prelude.{Option, Some, None}
use Rattle.std.specs.Str.{IsAscii, IsNotAscii}
use native.Mathlib.Omega.{arith}
use borrow.Author.Rules.{rules}
use borrow.Author.Tests.{eq-eqb, ne_eqb, eqb-true, eqb-false, lt-ltb, le-ltb}
use lib.Dec.{eqb, ltb}
use mathlib.Core.Bool.{and-false}
use lib.ListN.{length, get_or, take, drop, length-drop}
use lib.Seq.{length-take-le, take_at}
use Rattle.octets.specs.Written.{put_at}
use Rattle.octets.proofs.Lists.{drop_one, drop_done}
use Rattle.octets.proofs.Putting.{put_long}
use Rattle.octets.specs.Tests.{every}
use Rattle.octets.proofs.Tests.{by_test}
use Rattle.punycode.specs.Punycode.{front, consumed, all_basic, run, runs, decode}
use Rattle.decoder.specs.Steps.{Front, behind_of, run_from, Fine, Steps, Going, Gone, Stepped, Shown, NoText, Decodes}
use Rattle.decoder.specs.declared.Decoder.{Decoder}

-- `read_rest`
pub record Rest (text : List ℕ) (b : ℕ) (d out : List ℕ) (s : Decoder) (at : ℕ) : Type 0 where
  pub goes : runs text (take b d) ≡ run_from s out (drop at text)
  pub fine : Fine (length d) s
  pub kept : length out ≡ length d
  pub count : s.len ≤ b + at
  pub turns : s.k ≤ 36 + 36 * at
  pub upto : at ≤ length text
  pub long : b + length text ≤ length d
  pub short : length d < 2 ^ 32

pub rest_begin : (text : List ℕ) (b : ℕ) (d : List ℕ) → (b + length text ≤ length d) × (length d < 2 ^ 32)
    → Rest text b d d (record { n = 128; old = 0; bias = 72; i = 0; w = 1; k = 36; len = b }) 0
rest_begin text b d h =
    record {
      goes = refl;
      fine = record { inside = omega (arith, h.0); point = omega arith; sum = omega arith; weight = omega arith; older = omega arith; begun = omega arith };
      kept = refl;
      count = omega arith;
      turns = omega arith;
      upto = omega arith;
      long = h.0;
      short = h.1;
    }

module _ (text : List ℕ) (b : ℕ) (d out : List ℕ) (s : Decoder) (at : ℕ) (g : Rest text b d out s at) where
  pub rest_steps : at < length text → Steps (length out) s
  rest_steps l =
      record {
        fine = rw g.kept g.fine;
        more = omega (arith, g.kept, g.count, g.long);
        short = omega (arith, g.kept, g.short);
        turns = omega (arith, g.turns, g.long, g.short);
      }

  module _ (l : at < length text) (r : Option Decoder) (f : List ℕ) where
    here : runs text (take b d) ≡ run_from s out (get_or text at 0 ∷ drop (at + 1) text)
    here = g.goes ∙ rw (drop_one text at l)

    pub rest_next : (t : Decoder) → r ≡ Some t → Stepped out f (get_or text at 0) s r → Rest text b d f t (at + 1)
    rest_next t a q =
        let k : Going out f (get_or text at 0) s t = rw a at q in
        record {
          goes = here ∙ k.goes (drop (at + 1) text);
          fine = rw g.kept at k.fine;
          kept = k.same ∙ g.kept;
          count = omega (arith, g.count, k.slow);
          turns = omega (arith, g.turns, k.turns);
          upto = omega arith;
          long = g.long;
          short = g.short;
        }

    pub rest_gone : r ≡ None → Stepped out f (get_or text at 0) s r → NoText d f (runs text (take b d))
    rest_gone a q =
        let k : Gone out f (get_or text at 0) s = rw a at q in
        record { same = k.same ∙ g.kept; text = here ∙ k.goes (drop (at + 1) text) }

  pub rest_end : length text ≤ at → s.k ≡ 36 → Shown d out (runs text (take b d)) s.len
  unfolding run
  rest_end l e = record { same = g.kept; text = g.goes ∙ rw (drop_done text at l, eq-eqb s.k 36 e); upto = omega (arith, g.kept, g.fine.inside) }

  pub rest_open : length text ≤ at → (s.k ≡ 36 → ⊥) → NoText d out (runs text (take b d))
  unfolding run
  rest_open l e = record { same = g.kept; text = g.goes ∙ rw (drop_done text at l, ne_eqb s.k 36 e) }

pub ruleset resting = (rest_begin, rest_steps, rest_next, rest_gone, rest_end, rest_open, rules)

-- `decode`
consumed_behind : (x : List ℕ) → consumed x ≡ behind_of (length x)
unfolding consumed
consumed_behind [] = refl
consumed_behind (c ∷ x) = rw (ne_eqb (suc (length x)) 0 (omega arith)) (omega arith)

decode_yes : (t : List ℕ) → all_basic (front t) ≡ true → decode t ≡ runs (drop (consumed (front t)) t) (front t)
unfolding decode
decode_yes t e = rw (decode, e)

decode_no : (t : List ℕ) → all_basic (front t) ≡ false → decode t ≡ None
unfolding decode
decode_no t e = rw (decode, e)

-- what std's `is_ascii` tells
basic_yes : (s : List ℕ) → IsAscii s → all_basic s ≡ true
unfolding every
basic_yes [] h = refl
basic_yes (x ∷ s) h = rw (lt-ltb x 128 (h 0)) (basic_yes s (λ i. h (suc i)))

basic_no : (s : List ℕ) → IsNotAscii s → all_basic s ≡ false
unfolding every
basic_no [] (i, h) = absurd (omega arith)
basic_no (x ∷ s) (zero, h) = rw (le-ltb x 128 h)
basic_no (x ∷ s) (suc i, h) = rw (basic_no s (i, h)) (and-false (ltb x 128))

module _ (text d : List ℕ) (p : (length text ≤ length d) × (length d < 2 ^ 32)) (b : ℕ) (f : Front text b) where
  pub decode_small : b < 2 ^ 32
  decode_small = omega (arith, f.upto, p.0, p.1)

  pub decode_foreign : IsNotAscii (take b text) → NoText d d (decode text)
  decode_foreign h = record { same = refl; text = decode_no text (rw f.same (basic_no _ h)) }

  b_long : length (take b text) ≡ b
  b_long = length-take-le b text f.upto

  pub decode_copies : length (take b text) ≤ length d
  decode_copies = omega (arith, b_long, f.upto, p.0)

  module _ (e : List ℕ) (q : e ≡ put_at d 0 (take b text)) where
    kept : length e ≡ length d
    kept = ap length q ∙ put_long d 0 (take b text) (omega (arith, b_long, f.upto, p.0))

    shown : take b e ≡ take b text
    unfolding put_at
    shown = rw q (take_at (take b text) _ b b_long)

    module _ (n : ℕ) (m : n ≡ behind_of b) where
      pub decode_within : n ≤ length text
      decode_within = by_test (eqb b 0) (λ t. rw (m, t) (omega arith)) (λ t. rw (m, t) (omega (arith, f.there (positive t))))
        where
          positive : eqb b 0 ≡ false → 0 < b
          positive t = let n = eqb-false b 0 t in omega (arith, n)

      past : b ≤ n
      past = by_test (eqb b 0) (λ t. rw (m, t) (omega (arith, eqb-true b 0 t))) (λ t. rw (m, t) (omega arith))

      pub decode_reads : (b + length (drop n text) ≤ length e) × (length e < 2 ^ 32)
      decode_reads = (omega (arith, length-drop n text, kept, past, decode_within, p.0), omega (arith, kept, p.1))

      same_run : IsAscii (take b text) → runs (drop n text) (take b e) ≡ decode text
      same_run h =
          let u : consumed (front text) ≡ n = consumed_behind (front text) ∙ rw (f.same, b_long, ← m) in
          sym (decode_yes text (rw f.same (basic_yes _ h)) ∙ rw (u, f.same, shown))

      pub decode_end : IsAscii (take b text) → (x : Option ℕ) (g : List ℕ) → Decodes e g (runs (drop n text) (take b e)) x → Decodes d g (decode text) x
      decode_end a (Some k) g h = record { same = h.same ∙ kept; text = sym (same_run a) ∙ h.text; upto = h.upto }
      decode_end a None g h = record { same = h.same ∙ kept; text = sym (same_run a) ∙ h.text }

pub ruleset decoding = (decode_copies, decode_small, decode_foreign, decode_within, decode_reads, decode_end, rules)
