-- The code points below 128, their delimiter, and the coder as a whole.
--     one_put, one_full                     one octet
--     basic_none, basic_one                 one code point
--     Basics, basics_begin .. basics_end    all of them
--     delimiter_none, delimiter_one         the delimiter
--     encode_full .. encode_end             one part behind the other
--     the rulesets                          one, basic, basics, delimiting and encoding
-- Assumes nothing.
use Rattle.std.specs.Prelude.{Option, Some, None}
use Prim.Native.Nat.{ℕ, suc, ◌+◌, ◌<◌, ◌≤◌}
use mathlib.Core.Path.{◌≡◌, refl, ◌∙◌}
use mathlib.Core.List.{List, [], ◌∷◌, ◌++◌, append_assoc}
use mathlib.Core.Logic.{⊎_elim}
use native.Mathlib.Nat.{zero-add}
use native.Mathlib.Omega.{arith}
use borrow.Author.Rules.{rules}
use borrow.Author.Tests.{eq-eqb, ne_eqb}
use lib.ListN.{length, get_or, drop, set}
use Rattle.octets.specs.Puts.{Written, TooLong, Puts}
use Rattle.octets.proofs.Lists.{drop_one, drop_done, lt_or_le}
use Rattle.punycode.specs.Punycode.{below, delimited, numbers, encode}
use Rattle.coder.specs.Steps.{Points, Begins, delimiter_at}
use Rattle.punycode.proofs.Below.{below_yes, below_no}
use Rattle.octets.proofs.Puts.{wrote_none, wrote_single, wrote_before, wrote_then, wrote_long, wrote_counts, full_before, full_then}

-- `put_octet`
module _ (d : List ℕ) (at x : ℕ) where
  pub one_put : at < length d → Written d at (set d at x) (at + 1) (x ∷ []) []
  one_put l = wrote_single d at x [] l

  pub one_full : length d ≤ at → TooLong d at d (x ∷ [])
  one_full l = record { long = omega arith; same = refl }

pub ruleset one = (one_put, one_full, rules)

-- `put_basic`
module _ (d : List ℕ) (at c : ℕ) where
  pub basic_none : at ≤ length d → 128 ≤ c → Written d at d at (below 128 (c ∷ [])) []
  unfolding below
  basic_none h l = rw (below_no 128 c [] l) (wrote_none d at [] h)

  pub basic_one : (e : List ℕ) (r : Option ℕ) → Puts d e at (c ∷ []) r → c < 128 → Puts d e at (below 128 (c ∷ [])) r
  unfolding below
  basic_one e r k l = rw (below_yes 128 c [] l) k

pub ruleset basic = (basic_none, basic_one, rules)

-- `put_basics`
below_front : (n c : ℕ) (s : List ℕ) → below n (c ∷ s) ≡ below n (c ∷ []) ++ below n s
unfolding below
below_front n c s =
    ⊎_elim
    (λ (l : c < n). rw (below_yes n c s l, below_yes n c [] l))
    (λ (l : n ≤ c). rw (below_no n c s l, below_no n c [] l))
    (lt_or_le c n)

pub record Basics (d out ps : List ℕ) (at i : ℕ) : Type 0 where
  pub wrote : Written d 0 out at (below 128 ps) (below 128 (drop i ps))
  pub upto : i ≤ length ps
  pub kept : length out ≡ length d
  pub inside : at ≤ length out

pub basics_begin : (d ps : List ℕ) → Basics d d ps 0 0
basics_begin d ps = record { wrote = wrote_none d 0 _ (omega arith); upto = omega arith; kept = refl; inside = omega arith }

module _ (d out ps : List ℕ) (at i : ℕ) (g : Basics d out ps at i) where
  pub basics_inside : at ≤ length out
  basics_inside = g.inside

  module _ (l : i < length ps) (r : Option ℕ) (out₁ : List ℕ) where
    here : Written d 0 out at (below 128 ps) (below 128 (get_or ps i 0 ∷ []) ++ below 128 (drop (i + 1) ps))
    here = rw (drop_one ps i l, below_front 128 (get_or ps i 0) (drop (i + 1) ps)) at g.wrote

    pub basics_next : (m : ℕ) → r ≡ Some m → Puts out out₁ at (below 128 (get_or ps i 0 ∷ [])) r → Basics d out₁ ps m (i + 1)
    basics_next m a p =
        let k : Written out at out₁ m (below 128 (get_or ps i 0 ∷ [])) [] = rw a at p in
        let w = wrote_then d 0 out at _ _ here out₁ m _ (wrote_before out at out₁ m _ (below 128 (drop (i + 1) ps)) k) in
        record { wrote = w; upto = omega arith; kept = wrote_long d 0 out₁ m _ _ w; inside = omega (arith, w.room, wrote_long d 0 out₁ m _ _ w) }

    pub basics_full : r ≡ None → Puts out out₁ at (below 128 (get_or ps i 0 ∷ [])) r → TooLong d 0 out₁ (below 128 ps)
    basics_full a p =
        let k : TooLong out at out₁ (below 128 (get_or ps i 0 ∷ [])) = rw a at p in
        full_then d 0 out at _ _ here out₁ (full_before out at out₁ _ _ k)

  pub basics_end : length ps ≤ i → Written d 0 out at (below 128 ps) []
  unfolding below
  basics_end l = rw (drop_done ps i l) at g.wrote

pub ruleset basics = (basics_begin, basics_inside, basics_next, basics_full, basics_end, rules)

-- `put_delimiter`
module _ (d : List ℕ) (at : ℕ) (h : at ≤ length d) where
  pub delimiter_none : at ≡ 0 → Written d at d at (delimiter_at at) []
  unfolding delimiter_at
  delimiter_none e = rw (eq-eqb at 0 e) (wrote_none d at [] h)

  pub delimiter_one : (e : List ℕ) (r : Option ℕ) → Puts d e at (45 ∷ []) r → (at ≡ 0 → ⊥) → Puts d e at (delimiter_at at) r
  unfolding delimiter_at
  delimiter_one e r k n = rw (ne_eqb at 0 n) k

pub ruleset delimiting = (delimiter_none, delimiter_one, rules)

-- `encode`
delimited_parts : (x : List ℕ) → delimited x ≡ x ++ delimiter_at (length x)
unfolding delimited delimiter_at
delimited_parts [] = refl
delimited_parts (c ∷ x) = rw (ne_eqb (suc (length x)) 0 (omega arith))

encode_parts : (ps : List ℕ) (b : ℕ) → b ≡ length (below 128 ps) → encode ps ≡ below 128 ps ++ (delimiter_at b ++ numbers ps b)
unfolding encode
encode_parts ps b e = rw (e, delimited_parts (below 128 ps)) (append_assoc (below 128 ps) _ _)

module _ (d ps : List ℕ) (p : Points (length d) ps) (r₁ : Option ℕ) (e₁ : List ℕ) where
  pub encode_full : r₁ ≡ None → Puts d e₁ 0 (below 128 ps) r₁ → TooLong d 0 e₁ (encode ps)
  encode_full a q =
      let k : TooLong d 0 e₁ (below 128 ps) = rw a at q in
      rw (encode_parts ps (length (below 128 ps)) refl) (full_before d 0 e₁ _ _ k)

  module _ (b : ℕ) (a : r₁ ≡ Some b) (q : Puts d e₁ 0 (below 128 ps) r₁) where
    first : Written d 0 e₁ b (below 128 ps) []
    first = rw a at q

    counts : b ≡ length (below 128 ps)
    counts = wrote_counts d 0 e₁ b _ first ∙ zero-add _

    -- behind the code points below 128
    all : Written d 0 e₁ b (encode ps) (delimiter_at b ++ numbers ps b)
    all = rw (encode_parts ps b counts) (wrote_before d 0 e₁ b _ _ first)

    pub encode_kept : length e₁ ≡ length d
    encode_kept = wrote_long d 0 e₁ b _ _ first

    pub encode_inside : b ≤ length e₁
    encode_inside = omega (arith, first.room, encode_kept)

    module _ (r₂ : Option ℕ) (e₂ : List ℕ) where
      pub encode_stops : r₂ ≡ None → Puts e₁ e₂ b (delimiter_at b) r₂ → TooLong d 0 e₂ (encode ps)
      encode_stops f k =
          let t : TooLong e₁ b e₂ (delimiter_at b) = rw f at k in
          full_then d 0 e₁ b _ _ all e₂ (full_before e₁ b e₂ _ _ t)

      module _ (at : ℕ) (f : r₂ ≡ Some at) (k : Puts e₁ e₂ b (delimiter_at b) r₂) where
        second : Written e₁ b e₂ at (delimiter_at b) []
        second = rw f at k

        both : Written d 0 e₂ at (encode ps) (numbers ps b)
        both = wrote_then d 0 e₁ b _ _ all e₂ at _ (wrote_before e₁ b e₂ at _ _ second)

        pub encode_begins : Begins (length e₂) ps b at
        encode_begins =
            let l = wrote_long d 0 e₂ at _ _ both in
            record {
              points = rw l p;
              inside = omega (arith, both.room, l);
              counted = omega (arith, second.counts);
            }

        pub encode_end : (e₃ : List ℕ) (r₃ : Option ℕ) → Puts e₂ e₃ at (numbers ps b) r₃ → Puts d e₃ 0 (encode ps) r₃
        encode_end e₃ (Some m) t = wrote_then d 0 e₂ at _ _ both e₃ m _ t
        encode_end e₃ None t = full_then d 0 e₂ at _ _ both e₃ t

pub ruleset encoding = (encode_full, encode_stops, encode_inside, encode_kept, encode_begins, encode_end, rules)
