-- What a coded text is made of, for any test that each digit passes.
--     every_passes     all numbers pass it
--     every_encode     and so does the text, where the delimiter and the code points below 128 do
--     encode_ends      the last octet does, where there is a code point from 128 on
-- Assumes nothing.
use Prim.Native.Nat.{ℕ, suc, zero, ◌+◌, ◌-◌, ◌<◌, ◌≤◌}
use mathlib.Core.Path.{◌≡◌, refl, sym}
use mathlib.Core.Bool.{Bool, true}
use mathlib.Core.List.{List, [], ◌∷◌, ◌++◌, append_assoc}
use Rattle.std.specs.Prelude.{Option, Some, None}
use native.Mathlib.Omega.{arith}
use lib.Dec.{eqb}
use lib.ListN.{length, get_or, length-append}
use lib.Seq.{get_or-append-add}
use Rattle.octets.specs.Tests.{every}
use Rattle.octets.proofs.Tests.{and_left, and_right}
use Rattle.octets.proofs.Every.{every_append, every_at}
use Rattle.punycode.specs.Punycode.{digit, adapt, below, delimited, integer, least, pass, passes, numbers, encode}
use Rattle.punycode.proofs.Integers.{integer_last, integer_more, by_threshold}
use Rattle.punycode.proofs.Turns.{Side, under, equal, over, side, pass_below, pass_here, pass_above}
use Rattle.punycode.proofs.Lengths.{passes_most}

module _ (test : ℕ → Bool) (good : (v : ℕ) → v < 36 → test (digit v) ≡ true) where
  every_integer : (bias f k q : ℕ) → q ≤ f → every test (integer f bias k q) ≡ true
  unfolding every
  every_integer bias =
      by_threshold (λ f k q. every test (integer f bias k q) ≡ true) bias
      (λ f k q l h. rw (integer_last f bias k q l, good q h))
      (λ f k q l h m later. rw (integer_more f bias k q l, good _ h) later)

  every_both : (s t : List ℕ) → every test s ≡ true → every test t ≡ true → every test (s ++ t) ≡ true
  every_both s t p q = rw (every_append test s t, p, q)

  module _ (after : ℕ → ℕ → ℕ → List ℕ) (later : (delta bias h : ℕ) → every test (after delta bias h) ≡ true) (b n : ℕ) where
    -- what is claimed of a pass
    abbrev Pass : List ℕ → Type 0
    Pass s = (delta bias h : ℕ) → every test (pass after b n s delta bias h) ≡ true

    every_pass : (s : List ℕ) → Pass s
    unfolding pass
    every_pass [] delta bias h = later (delta + 1) bias h
    every_pass (c ∷ s) delta bias h = go (every_pass s) (side c n)
      where
        go : Pass s → Side c n → every test (pass after b n (c ∷ s) delta bias h) ≡ true
        go rest (under l) = rw (pass_below after b n c s delta bias h l) (rest _ _ _)
        go rest (equal e) =
            rw (pass_here after b n c s delta bias h e)
            (every_both (integer delta bias 36 delta) (pass after b n s 0 (adapt delta (h + 1) (eqb h b)) (h + 1))
            (every_integer bias delta 36 delta (omega arith)) (rest _ _ _))
        go rest (over l) = rw (pass_above after b n c s delta bias h l) (rest _ _ _)

  pub every_passes : (f : ℕ) (ps : List ℕ) (b n delta bias h : ℕ) → every test (passes f ps b n delta bias h) ≡ true
  unfolding passes every
  every_passes zero ps b n delta bias h = refl
  every_passes (suc f) ps b n delta bias h = go (every_passes f ps b) (least n ps) refl
    where
      go : ((n delta bias h : ℕ) → every test (passes f ps b n delta bias h) ≡ true) → (o : Option ℕ) → least n ps ≡ o → every test (passes (suc f) ps b n delta bias h) ≡ true
      go later None e = rw (passes, e)
      go later (Some m) e = rw (passes, e) (every_pass (passes f ps b (m + 1)) (later (m + 1)) b m ps _ bias h)

  every_delimited : (x : List ℕ) → test 45 ≡ true → every test x ≡ true → every test (delimited x) ≡ true
  unfolding delimited every
  every_delimited [] m e = refl
  every_delimited (c ∷ x) m e = rw (and_left (test c) (every test x) e) (every_both x (45 ∷ []) (and_right (test c) (every test x) e) (rw m))

  pub every_encode : (ps : List ℕ) → test 45 ≡ true → every test (below 128 ps) ≡ true → every test (encode ps) ≡ true
  unfolding encode
  every_encode ps m e =
      let b = length (below 128 ps) in
      every_both (delimited (below 128 ps)) (numbers ps b) (every_delimited (below 128 ps) m e) (every_passes (length ps) ps b 128 0 72 b)

  -- the last octet, of a text that may stand behind another
  every_last : (a t w : List ℕ) → 1 ≤ length t → every test t ≡ true → w ≡ a ++ t → test (get_or w (length w - 1) 0) ≡ true
  every_last a t w k e q =
      let n : length (a ++ t) - 1 ≡ length a + (length t - 1) = simp length-append (omega arith) in
      rw (q, n, get_or-append-add a t (length t - 1) 0) (every_at test t e (length t - 1) (omega arith))

  pub encode_ends : (ps x : List ℕ) → length (below 128 ps) < length ps → test (get_or (x ++ encode ps) (length (x ++ encode ps) - 1) 0) ≡ true
  unfolding encode
  encode_ends ps x l =
      let b = length (below 128 ps) in
      let t : List ℕ = numbers ps b in
      let d : List ℕ = delimited (below 128 ps) in
      every_last (x ++ d) t (x ++ (d ++ t)) (omega (arith, passes_most ps b (length ps) 128 0 72 b (omega arith))) (every_passes (length ps) ps b 128 0 72 b) (sym (append_assoc x d t))
