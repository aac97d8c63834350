-- What a text is decoded to.
--     decode_scalars    code points: no surrogate, and nothing above U+10FFFF
--     decode_most       no more of them than the text has octets
-- Assumes nothing.
use Prim.Native.Nat.{ℕ, ◌+◌, ◌*◌, ◌/◌, ◌%◌, ◌≤◌, zero-le}
use mathlib.Core.Path.{◌≡◌, refl, sym, ap, ◌∙◌}
use mathlib.Core.Bool.{true, ◌&&◌}
use mathlib.Core.List.{List, [], ◌∷◌}
use Rattle.std.specs.Prelude.{Option, Some, None}
use native.Mathlib.Omega.{arith}
use borrow.Author.Tests.{ltb-true, lt-ltb}
use lib.Dec.{eqb, ltb}
use lib.ListN.{length, take, drop, length-append, length-drop, take-append-drop}
use Rattle.octets.specs.Finding.{holds}
use Rattle.octets.specs.Options.{IfSome}
use Rattle.octets.specs.Tests.{every}
use Rattle.octets.proofs.Tests.{by_test, and_left, and_right}
use Rattle.octets.proofs.Every.{every_append, every_weaker}
use Rattle.utf8.specs.Utf8.{scalar, scalars}
use Rattle.punycode.specs.Punycode.{value, threshold, front, consumed, all_basic, inserted, landed, run, decode}

-- code points, at most m of them
pub record Sound (m : ℕ) (ps : List ℕ) : Type 0 where
  pub good : every scalar ps ≡ true
  pub most : length ps ≤ m

-- one more that is put in
inserted_sound : (m x i : ℕ) (out : List ℕ) → scalar x ≡ true → Sound m out → Sound (m + 1) (inserted x i out)
unfolding inserted every
inserted_sound m x i out v h =
    let e : (every scalar (take i out) && every scalar (drop i out)) ≡ true = sym (every_append scalar (take i out) (drop i out)) ∙ rw (take-append-drop i out) h.good in
    let l : length (take i out) + length (drop i out) ≡ length out = sym (length-append (take i out) (drop i out)) ∙ ap length (take-append-drop i out) in
    record {
      good = rw (every_append scalar (take i out) (x ∷ drop i out), v, and_left (every scalar (take i out)) _ e, and_right (every scalar (take i out)) _ e);
      most = simp length-append (omega (arith, l, h.most));
    }

-- each octet that is left is at most one code point more
module _ (m : ℕ) where
  -- what is claimed of the rest of a text
  abbrev Rest : List ℕ → Type 0
  Rest s = (n old bias : ℕ) (out : List ℕ) (i w k j : ℕ) → Sound j out → j + length s ≤ m → IfSome (Sound m) (run s n old bias out i w k)

  landed_sound : (s : List ℕ) → Rest s → (n old : ℕ) (out : List ℕ) (i j : ℕ) → Sound j out → j + 1 + length s ≤ m → IfSome (Sound m) (landed (run s) n old out i)
  unfolding landed
  landed_sound s later n old out i j h l =
      by_test (scalar (n + i / (length out + 1)))
      (λ e. rw (landed, e) (later _ _ _ _ _ _ _ (j + 1) (inserted_sound j (n + i / (length out + 1)) (i % (length out + 1)) out e h) l))
      (λ e. rw (landed, e) tt)

  run_sound : (s : List ℕ) → Rest s
  unfolding run
  run_sound [] n old bias out i w k j h l =
      by_test (eqb k 36)
      (λ e. rw e (record { good = h.good; most = omega (arith, h.most) }))
      (λ e. rw e tt)
  run_sound (c ∷ s) n old bias out i w k j h l = go (run_sound s) (value c) refl
    where
      go : Rest s → (o : Option ℕ) → value c ≡ o → IfSome (Sound m) (run (c ∷ s) n old bias out i w k)
      go later None e = rw (run, e) tt
      go later (Some d) e =
          by_test (ltb d (threshold k bias))
          (λ t. rw (run, e, t) (landed_sound s later n old out (i + d * w) j h (omega arith)))
          (λ t. rw (run, e, t) (later n old bias out _ _ _ j h (omega arith)))

-- the front
front_short : (t : List ℕ) → length (front t) ≤ length t
unfolding front
front_short [] = zero-le
front_short (c ∷ s) = by_test (holds 45 s) (λ e. rw (front, e) (omega (arith, front_short s))) (λ e. rw (front, e) zero-le)

consumed_left : (x t : List ℕ) → length x ≤ length t → length x + length (drop (consumed x) t) ≤ length t
unfolding consumed
consumed_left [] t h = omega arith
consumed_left (c ∷ x) t h = simp length-drop (omega arith)

basic_scalars : (s : List ℕ) → all_basic s ≡ true → every scalar s ≡ true
unfolding scalar
basic_scalars s e = every_weaker (λ c. ltb c 128) scalar (λ c q. rw (lt-ltb c 0xD800 (omega (arith, ltb-true c 128 q)))) s e

decode_sound : (t : List ℕ) → IfSome (Sound (length t)) (decode t)
unfolding decode
decode_sound t =
    by_test (all_basic (front t))
    (λ e.
    rw (decode, e)
    (run_sound (length t) (drop (consumed (front t)) t) 128 0 72 (front t) 0 1 36 (length (front t))
    (record { good = basic_scalars (front t) e; most = omega arith })
    (consumed_left (front t) t (front_short t))))
    (λ e. rw (decode, e) tt)

module _ (t ps : List ℕ) (e : decode t ≡ Some ps) where
  read : Sound (length t) ps
  read = rw e at (decode_sound t)

  pub decode_scalars : scalars ps ≡ true
  unfolding scalars
  decode_scalars = read.good

  pub decode_most : length ps ≤ length t
  decode_most = read.most
