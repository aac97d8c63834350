-- The code points that were coded are what is decoded.
--     landed_at                            a number that ends, by what it comes to
--     Link                                 coder and decoder in the middle of a pass
--     link_below, link_here, link_above    a turn of the pass
--     pass_back, passes_back               a pass, and all of them
--     front_free, front_delimited          what stands before the last delimiter
--     decode_encode                        the theorem
-- Assumes nothing.
use Prim.Native.Nat.{ℕ, suc, zero, ◌+◌, ◌-◌, ◌*◌, ◌/◌, ◌%◌, ◌≤◌, ◌<◌}
use mathlib.Core.Path.{◌≡◌, refl, sym, ap, ◌∙◌}
use mathlib.Core.Bool.{true, false, not, true≢false, or-true}
use mathlib.Core.List.{List, [], ◌∷◌, ◌++◌, append_assoc, append-nil}
use Rattle.std.specs.Prelude.{Option, Some, None}
use native.Mathlib.Nat.{mul-add-div_right, mul-add-mod_self_right, mod-eq_of_lt, div-eq_of_lt, add-mul, add-zero, mul-one}
use native.Mathlib.Omega.{arith}
use borrow.Author.Tests.{eq-eqb, ne_eqb, not-true}
use lib.Dec.{eqb}
use lib.ListN.{length, drop, length-append}
use lib.Seq.{take_at, drop_at}
use Rattle.octets.specs.Finding.{holds}
use Rattle.octets.specs.Tests.{every}
use Rattle.octets.proofs.Tests.{by_test, and_left, and_right, all_below_lem}
use Rattle.utf8.specs.Utf8.{scalar, scalars}
use Rattle.punycode.specs.Punycode.{digit, adapt, below, delimited, least, pass, passes, numbers, encode, front, consumed, all_basic, inserted, landed, run, runs, decode}
use Rattle.punycode.proofs.Integers.{run_integer}
use Rattle.punycode.proofs.Below.{below_yes, below_no, below_full, below_basic, Next, Least, nothing, next, least_finds}
use Rattle.punycode.proofs.Turns.{Side, under, equal, over, side, pass_below, pass_here, pass_above}
use Rattle.punycode.proofs.Coded.{every_passes}

-- from where the decoder stands, delta leads to the code point n at the place p
module _ (n nd i delta h p : ℕ) (at : nd * (h + 1) + i + delta ≡ n * (h + 1) + p) (up : nd ≤ n) (inside : p ≤ h) where
  sum : i + delta ≡ (n - nd) * (h + 1) + p
  sum =
      let a : nd + (n - nd) ≡ n = omega arith in
      let b : n * (h + 1) ≡ nd * (h + 1) + (n - nd) * (h + 1) = ap (λ (z : ℕ). z * (h + 1)) (sym a) ∙ add-mul nd (n - nd) (h + 1) in
      omega arith

  reached_point : nd + (i + delta) / (h + 1) ≡ n
  reached_point =
      let e : (i + delta) / (h + 1) ≡ n - nd = rw sum (mul-add-div_right (omega arith) (n - nd) p ∙ rw (div-eq_of_lt {n = p} {m = h + 1} (omega arith)) (add-zero (n - nd))) in
      rw e (omega arith)

  reached_place : (i + delta) % (h + 1) ≡ p
  reached_place = rw sum (mul-add-mod_self_right (n - nd) (h + 1) p ∙ mod-eq_of_lt (omega arith))

inserted_between : (x : ℕ) (a b : List ℕ) → inserted x (length a) (a ++ b) ≡ (a ++ (x ∷ [])) ++ b
unfolding inserted
inserted_between x a b = rw (take_at a b (length a) refl, drop_at a b (length a) refl) (sym (append_assoc a (x ∷ []) b))

pub landed_at : (s : List ℕ) (nd old : ℕ) (out : List ℕ) (j n p : ℕ) → nd + j / (length out + 1) ≡ n → j % (length out + 1) ≡ p → scalar n ≡ true
    → landed (run s) nd old out j ≡ run s n (p + 1) (adapt (j - old) (length out + 1) (eqb old 0)) (inserted n p out) (p + 1) 1 36
unfolding landed
landed_at s nd old out j n p e q v = rw (landed, e, v) (rw (e, q))

-- In a pass at n, `suf` is left of the code points. The decoder has `done` of those that were passed by, and of the others what is
-- below n. From its code point nd and its place i, delta leads to n and to the place behind `done`.
pub record Link (b n : ℕ) (all done suf : List ℕ) (delta h nd i : ℕ) : Type 0 where
  pub whole : done ++ below (n + 1) suf ≡ all
  pub count : h ≡ length (done ++ below n suf)
  pub place : nd * (h + 1) + i + delta ≡ n * (h + 1) + length done
  pub first : eqb i 0 ≡ eqb h b
  pub least : b ≤ h
  pub rise : nd ≤ n

-- the turns of a pass
module _ (b n : ℕ) (all done : List ℕ) (c : ℕ) (suf : List ℕ) (delta h nd i : ℕ) (k : Link b n all done (c ∷ suf) delta h nd i) where
  snoc : (t : List ℕ) → (done ++ (c ∷ [])) ++ t ≡ done ++ (c ∷ t)
  snoc t = append_assoc done (c ∷ []) t

  one_more : length (done ++ (c ∷ [])) ≡ length done + 1
  one_more = length-append done (c ∷ [])

  text_below : c < n → done ++ below n (c ∷ suf) ≡ (done ++ (c ∷ [])) ++ below n suf
  text_below l = rw (below_yes n c suf l) (sym (snoc (below n suf)))

  text_above : n ≤ c → done ++ below n (c ∷ suf) ≡ done ++ below n suf
  text_above l = rw (below_no n c suf l)

  link_below : c < n → Link b n all (done ++ (c ∷ [])) suf (delta + 1) h nd i
  link_below l =
      record {
        whole = snoc _ ∙ rw (← below_yes (n + 1) c suf (omega arith)) k.whole;
        count = k.count ∙ ap length (text_below l);
        place = omega (arith, k.place, one_more);
        first = k.first;
        least = k.least;
        rise = k.rise;
      }

  link_above : n < c → Link b n all done suf delta h nd i
  link_above l =
      record {
        whole = rw (← below_no (n + 1) c suf (omega arith)) k.whole;
        count = k.count ∙ ap length (text_above (omega arith));
        place = k.place;
        first = k.first;
        least = k.least;
        rise = k.rise;
      }

  link_here : c ≡ n → Link b n all (done ++ (c ∷ [])) suf 0 (h + 1) n (length done + 1)
  link_here e =
      record {
        whole = snoc _ ∙ rw (← below_yes (n + 1) c suf (omega arith)) k.whole;
        count = ap (λ (z : ℕ). z + 1) (k.count ∙ ap length (text_above (omega arith))) ∙ simp length-append (omega arith);
        place = omega (arith, one_more);
        first = ne_eqb (length done + 1) 0 (omega arith) ∙ sym (ne_eqb (h + 1) b (omega (arith, k.least)));
        least = omega (arith, k.least);
        rise = omega arith;
      }

  -- the number is read, and c put in
  land_here : c ≡ n → scalar c ≡ true → (s : List ℕ)
      → landed (run s) nd i (done ++ below n (c ∷ suf)) (i + delta * 1)
      ≡ run s n (length done + 1) (adapt delta (h + 1) (eqb h b)) ((done ++ (c ∷ [])) ++ below n suf) (length done + 1) 1 36
  land_here e v s =
      let t : done ++ below n (c ∷ suf) ≡ done ++ below n suf = text_above (omega arith) in
      let o : length (done ++ below n suf) ≡ h = sym (k.count ∙ ap length t) in
      let p : length done ≤ h = omega (arith, o, length-append done (below n suf)) in
      let a : nd + (i + delta) / (length (done ++ below n suf) + 1) ≡ n = rw o (reached_point n nd i delta h (length done) k.place k.rise p) in
      let q : (i + delta) % (length (done ++ below n suf) + 1) ≡ length done = rw o (reached_place n nd i delta h (length done) k.place k.rise p) in
      let d : i + delta - i ≡ delta = omega arith in
      rw (mul-one, t)
      (landed_at s nd i (done ++ below n suf) (i + delta) n (length done) a q (rw (← e) v)
      ∙ rw (o, d, k.first, inserted_between n done (below n suf), e))

-- a pass: what comes behind it is right, so the whole is
module _ (b n : ℕ) (all : List ℕ) (after : ℕ → ℕ → ℕ → List ℕ) (answer : Option (List ℕ))
    (behind : (delta bias h nd i : ℕ) → Link b n all all [] delta h nd i → run (after (delta + 1) bias h) nd i bias all i 1 36 ≡ answer) where
  -- what is claimed of the code points that are left
  abbrev Pass : List ℕ → Type 0
  Pass suf = (done : List ℕ) (delta bias h nd i : ℕ) → Link b n all done suf delta h nd i → run (pass after b n suf delta bias h) nd i bias (done ++ below n suf) i 1 36 ≡ answer

  pass_back : (suf : List ℕ) → every scalar suf ≡ true → Pass suf
  unfolding pass every below
  pass_back [] v done delta bias h nd i k =
      let e : done ≡ all = sym (append-nil done) ∙ k.whole in
      rw (append-nil done, e) (behind delta bias h nd i (rw e at k))
  pass_back (c ∷ suf) v done delta bias h nd i k = go (pass_back suf (and_right (scalar c) (every scalar suf) v)) (side c n)
    where
      go : Pass suf → Side c n → run (pass after b n (c ∷ suf) delta bias h) nd i bias (done ++ below n (c ∷ suf)) i 1 36 ≡ answer
      go later (under l) =
          rw (pass_below after b n c suf delta bias h l, text_below b n all done c suf delta h nd i k l)
          (later _ _ _ _ _ _ (link_below b n all done c suf delta h nd i k l))
      go later (equal e) =
          rw (pass_here after b n c suf delta bias h e)
          (run_integer bias (pass after b n suf 0 (adapt delta (h + 1) (eqb h b)) (h + 1)) nd i (done ++ below n (c ∷ suf)) delta 36 delta (omega arith) i 1
          ∙ land_here b n all done c suf delta h nd i k e (and_left (scalar c) (every scalar suf) v) _
          ∙ later _ _ _ _ _ _ (link_here b n all done c suf delta h nd i k e))
      go later (over l) =
          rw (pass_above after b n c suf delta bias h l, text_above b n all done c suf delta h nd i k (omega arith))
          (later _ _ _ _ _ _ (link_above b n all done c suf delta h nd i k l))

module _ (b : ℕ) (ps : List ℕ) (v : every scalar ps ≡ true) where
  -- before a pass at n
  abbrev Ahead : ℕ → ℕ → ℕ → ℕ → ℕ → Type 0
  Ahead n delta h nd i = Link b n (below (n + 1) ps) [] ps delta h nd i

  -- what is n more at one side is n times h + 1 at the other
  further : (n m h : ℕ) → n ≤ m → m * (h + 1) ≡ n * (h + 1) + (m - n) * (h + 1)
  further n m h l =
      let a : n + (m - n) ≡ m = omega arith in
      ap (λ (z : ℕ). z * (h + 1)) (sym a) ∙ add-mul n (m - n) (h + 1)

  -- to the next code point that is there
  ahead_next : (n m : ℕ) → Next n m ps → (delta h nd i : ℕ) → Ahead n delta h nd i → Ahead m (delta + (m - n) * (h + 1)) h nd i
  ahead_next n m x delta h nd i k =
      record {
        whole = refl;
        count = k.count ∙ ap length (sym x.none_between);
        place = omega (arith, k.place, further n m h x.from);
        first = k.first;
        least = k.least;
        rise = omega (arith, k.rise, x.from);
      }

  -- and behind its pass
  ahead_more : (m delta h nd i : ℕ) → Link b m (below (m + 1) ps) (below (m + 1) ps) [] delta h nd i → Ahead (m + 1) (delta + 1) h nd i
  unfolding below
  ahead_more m delta h nd i k =
      let o : h ≡ length (below (m + 1) ps) = rw (append-nil (below (m + 1) ps)) at k.count in
      record {
        whole = refl;
        count = o;
        place = omega (arith, k.place, further m (m + 1) h (omega arith));
        first = k.first;
        least = k.least;
        rise = omega (arith, k.rise);
      }

  -- what is claimed of all passes, where f of them are enough
  abbrev Passes : ℕ → Type 0
  Passes f = (n delta bias h nd i : ℕ) → Ahead n delta h nd i → length ps ≤ length (below n ps) + f → run (passes f ps b n delta bias h) nd i bias (below n ps) i 1 36 ≡ Some ps

  passes_back : (f : ℕ) → Passes f
  unfolding passes run
  passes_back zero n delta bias h nd i k l = ap (λ (t : List ℕ). Some t) (below_full n ps (omega arith))
  passes_back (suc f) n delta bias h nd i k l = go (passes_back f) (least n ps) refl (least_finds n ps)
    where
      go : Passes f → (o : Option ℕ) → least n ps ≡ o → Least n ps o → run (passes (suc f) ps b n delta bias h) nd i bias (below n ps) i 1 36 ≡ Some ps
      go later None e (nothing q) = rw (passes, e) (ap (λ (t : List ℕ). Some t) q)
      go later (Some m) e (next x) =
          rw (passes, e, ← x.none_between)
          (pass_back b m (below (m + 1) ps) (passes f ps b (m + 1)) (Some ps)
          (λ delta bias h nd i k. later (m + 1) (delta + 1) bias h nd i (ahead_more m delta h nd i k) (omega (arith, x.there, ap length x.none_between)))
          ps v [] (delta + (m - n) * (h + 1)) bias h nd i (ahead_next n m x delta h nd i k))

-- no digit is the delimiter
module _ (d : ℕ) where
  none_held : (t : List ℕ) → every (λ x. not (eqb x d)) t ≡ true → holds d t ≡ false
  unfolding every holds
  none_held [] e = refl
  none_held (x ∷ t) e =
      rw (not-true (eqb x d) (and_left (not (eqb x d)) _ e)) (none_held t (and_right (not (eqb x d)) _ e))

  held_behind : (s t : List ℕ) → holds d (s ++ (d ∷ t)) ≡ true
  unfolding holds
  held_behind [] t = rw (eq-eqb d d refl)
  held_behind (x ∷ s) t = rw (held_behind s t) (or-true (eqb x d))

passes_free : (f : ℕ) (ps : List ℕ) (b n delta bias h : ℕ) → holds 45 (passes f ps b n delta bias h) ≡ false
unfolding digit
passes_free f ps b n delta bias h =
    none_held 45 (passes f ps b n delta bias h)
    (every_passes (λ x. not (eqb x 45)) (all_below_lem (λ v. not (eqb (digit v) 45)) 36 refl) f ps b n delta bias h)

-- what stands before the last delimiter
pub front_free : (t : List ℕ) → holds 45 t ≡ false → front t ≡ []
unfolding front holds
front_free [] h = refl
front_free (c ∷ t) h = by_test (holds 45 t) (λ e. absurd (true≢false (sym (rw e (or-true (eqb c 45))) ∙ h))) (λ e. rw (front, e))

pub front_delimited : (x t : List ℕ) → holds 45 t ≡ false → front (x ++ (45 ∷ t)) ≡ x
unfolding front
front_delimited [] t h = rw (front, h)
front_delimited (c ∷ x) t h = rw (front, held_behind 45 x t) (ap (λ (z : List ℕ). c ∷ z) (front_delimited x t h))

drop_past : (x t : List ℕ) → drop (suc (length x)) (x ++ (45 ∷ t)) ≡ t
drop_past [] t = refl
drop_past (c ∷ x) t = drop_past x t

decode_parts : (x t : List ℕ) → all_basic x ≡ true → holds 45 t ≡ false → decode (delimited x ++ t) ≡ runs t x
unfolding decode delimited consumed every
decode_parts [] t v h = rw (decode, front_free t h) (rw (front_free t h))
decode_parts (c ∷ x) t v h =
    let e : ((c ∷ x) ++ (45 ∷ [])) ++ t ≡ (c ∷ x) ++ (45 ∷ t) = append_assoc (c ∷ x) (45 ∷ []) t in
    let f : front ((c ∷ x) ++ (45 ∷ t)) ≡ c ∷ x = front_delimited (c ∷ x) t h in
    let d : drop (suc (suc (length x))) ((c ∷ x) ++ (45 ∷ t)) ≡ t = drop_past x t in
    rw e (rw (decode, f, v) (rw (f, d)))

-- the theorem
pub decode_encode : (ps : List ℕ) → scalars ps ≡ true → decode (encode ps) ≡ Some ps
unfolding encode scalars
decode_encode ps v =
    let b = length (below 128 ps) in
    decode_parts (below 128 ps) (numbers ps b) (below_basic ps) (passes_free (length ps) ps b 128 0 72 b)
    ∙ passes_back b ps v (length ps) 128 0 72 b 128 0
    (record { whole = refl; count = refl; place = omega arith; first = sym (eq-eqb b b refl); least = omega arith; rise = omega arith }) (omega arith)
