-- Values unfolded line by line: the text of each line is copied whole.
--     text_none .. text_short   the text of the line that opens a text
--     text_empty .. text_lf     where it ends, from a place on
--     unfolded_line             an unfolded value is the text of its first line and what follows that line, unfolded
--     Unfolds raw d out n i     n octets of the unfolded value stand in the buffer, and what is left of it is that of raw from i on
--     unfold_begin .. unfold_end    the loop's steps
-- Assumes nothing.
use Prim.Native.Nat.{ℕ, zero, suc, ◌+◌, ◌-◌, ◌*◌, ◌^◌, ◌<◌, ◌≤◌}
use mathlib.Core.Path.{◌≡◌, refl, sym, ap, ◌∙◌}
use mathlib.Core.Bool.{Bool, true, false}
use mathlib.Core.List.{List, [], ◌∷◌, ◌++◌}
use native.Mathlib.Omega.{arith}
use borrow.Author.Rules.{rules}
use borrow.Author.Tests.{eqb-true, eqb-false}
use lib.Dec.{eqb}
use lib.ListN.{length, get_or, take, drop, length-drop, length-append}
use lib.Seq.{drop-drop, get_or-drop, length-take-le}
use mir.Syntax.{w64}
use mir.Val.{Fits}
use Rattle.octets.specs.Written.{put_at, onto}
use Rattle.octets.specs.Finding.{length_before}
use Rattle.octets.proofs.Lists.{drop_done}
use Rattle.octets.proofs.Finding.{By, none, one, other, by, before_on, before_short, before_none}
use Rattle.octets.proofs.Writing.{Wrote, begin, kept, counted, puts, done}
use Rattle.octets.specs.Octets.{cr, lf}
use Rattle.octets.proofs.Tests.{and_right}
use Rattle.header.specs.Header.{of_ending, unfolded}
use Rattle.header.specs.Lines.{line_length, text_length}
use Rattle.header.proofs.Unfolding.{plain_octet, unfolded_short, unfolded_out, unfolded_in, unfolded_lf}

module _ (x : ℕ) (s : List ℕ) where
  text_out : of_ending x (get_or s 0 0) ≡ true → text_length (x ∷ s) ≡ 0
  unfolding text_length
  text_out e = rw (text_length, e)

  text_in : of_ending x (get_or s 0 0) ≡ false → text_length (x ∷ s) ≡ suc (text_length s)
  unfolding text_length
  text_in e = rw (text_length, e)

text_none : {s : List ℕ} → By lf s → line_length s ≡ 0 → text_length s ≡ 0
unfolding text_length of_ending
text_none none q = refl
text_none (one v) q = refl
text_none (other {x} {s} e v) q = absurd (omega (arith, before_on lf x s e))

-- the octet of a line that is not of its text, if its last octet is one of a line ending
abbrev cut : Bool → ℕ
cut true = 1
cut false = 0

text_cut : {s : List ℕ} → By lf s → (k : ℕ) → line_length s ≡ suc k → (b : Bool) → of_ending (get_or s k 0) (get_or s (suc k) 0) ≡ b → text_length s + cut b ≡ line_length s
unfolding length_before
text_cut none k q b t = absurd (omega arith)
text_cut (one v) k q b t = absurd (omega arith)
text_cut (other {x} {s} e v) zero q true t = omega (arith, text_out x s t)
text_cut (other {x} {s} e v) zero q false t = omega (arith, text_in x s t, before_on lf x s e, text_none v (omega (arith, before_on lf x s e)))
text_cut (other {x} {s} e v) (suc k) q b t =
    let n : line_length s ≡ suc k = omega (arith, before_on lf x s e) in
    let p : of_ending x (get_or s 0 0) ≡ false = plain_octet x (get_or s 0 0) (eqb-false x lf e) (λ _ z. absurd (omega (arith, before_none v z))) in
    omega (arith, text_in x s p, before_on lf x s e, text_cut v k n b t)

text_short : (s : List ℕ) → text_length s ≤ length s
text_short s = go (line_length s) refl
  where
    go : (k : ℕ) → line_length s ≡ k → text_length s ≤ length s
    go zero q = omega (arith, text_none (by lf s) q)
    go (suc k) q = omega (arith, text_cut (by lf s) k q (of_ending (get_or s k 0) (get_or s (suc k) 0)) refl, before_short (by lf s))

module _ (s : List ℕ) (at e : ℕ) (p : e ≡ at + line_length (drop at s)) where
  pub text_empty : e ≤ at → e ≡ at + text_length (drop at s)
  text_empty l = omega (arith, text_none (by lf (drop at s)) (omega arith))

  module _ (l : at < e) where
    pub text_room : e - 1 < length s
    text_room = omega (arith, before_short (by lf (drop at s)), length-drop at s)

    module _ (b : Bool) (t : b ≡ of_ending (get_or s (e - 1) 0) (get_or s (e - 1 + 1) 0)) where
      text_sum : text_length (drop at s) + cut b ≡ line_length (drop at s)
      text_sum =
          let k : e - 1 ≡ at + (e - 1 - at) = omega arith in
          let n : e - 1 + 1 ≡ at + suc (e - 1 - at) = omega arith in
          text_cut (by lf (drop at s)) (e - 1 - at) (omega arith) b (rw (get_or-drop, get_or-drop, ← k, ← n) (sym t))

      pub text_cr : b ≡ true → e - 1 ≡ at + text_length (drop at s)
      text_cr q = omega (arith, rw q at text_sum)

      pub text_lf : b ≡ false → e ≡ at + text_length (drop at s)
      text_lf q = omega (arith, rw q at text_sum)

pub ruleset texts = (text_empty, text_room, text_cr, text_lf, rules)

-- an octet of a line ending that is no LF stands before one
before_lf : (x y : ℕ) → eqb x lf ≡ false → of_ending x y ≡ true → y ≡ lf
unfolding of_ending
before_lf x y e t = eqb-true y lf (and_right (eqb x cr) (eqb y lf) (rw e at t))

unfolded_line : {s : List ℕ} → By lf s → unfolded s ≡ take (text_length s) s ++ unfolded (drop (suc (line_length s)) s)
unfolding unfolded text_length length_before of_ending
unfolded_line none = refl
unfolded_line (one {s} v) = unfolded_lf s
unfolded_line (other {x} {s} e v) = go (unfolded_line v) (of_ending x (get_or s 0 0)) refl
  where
    go : unfolded s ≡ take (text_length s) s ++ unfolded (drop (suc (line_length s)) s) → (b : Bool) → of_ending x (get_or s 0 0) ≡ b
        → unfolded (x ∷ s) ≡ take (text_length (x ∷ s)) (x ∷ s) ++ unfolded (drop (suc (line_length (x ∷ s))) (x ∷ s))
    go ih true t =
        let n : text_length s ≡ 0 = text_none v (before_none v (before_lf x (get_or s 0 0) e t)) in
        rw (unfolded_out x s t, text_out x s t, before_on lf x s e) (ih ∙ rw n)
    go ih false t = rw (unfolded_in x s t, text_in x s t, before_on lf x s e) (ap (λ (l : List ℕ). x ∷ l) ih)

pub record Unfolds (raw d out : List ℕ) (n i : ℕ) : Type 0 where
  pub so_far : Wrote (unfolded raw) d out n (unfolded (drop i raw))

pub unfold_begin : (raw d : List ℕ) → length raw ≤ length d → Unfolds raw d d 0 0
unfold_begin raw d h = record { so_far = begin (unfolded raw) d (omega (arith, unfolded_short raw)) }

module _ (raw d out : List ℕ) (n i : ℕ) (h : Unfolds raw d out n i) where
  pub unfold_kept : length out ≡ length d
  unfold_kept = kept (unfolded raw) d out n (unfolded (drop i raw)) h.so_far

  module _ (l : length raw ≤ i) where
    left : Wrote (unfolded raw) d out n []
    unfolding unfolded
    left = rw (drop_done raw i l) at h.so_far

    pub unfold_end : out ≡ onto (unfolded raw) d
    unfold_end = done (unfolded raw) d out n left

    pub unfold_count : n ≡ length (unfolded raw)
    unfold_count = omega (arith, counted (unfolded raw) d out n [] left)

  module _ (e f : ℕ) (p : e ≡ i + line_length (drop i raw)) (q : f ≡ i + text_length (drop i raw)) where
    size : f - i ≡ text_length (drop i raw)
    size = omega arith

    long : length (take (f - i) (drop i raw)) ≡ f - i
    long = rw size (length-take-le (text_length (drop i raw)) (drop i raw) (text_short (drop i raw)))

    goes_on : Wrote (unfolded raw) d out n (take (f - i) (drop i raw) ++ unfolded (drop (e + 1) raw))
    goes_on =
        let k : e + 1 ≡ i + suc (line_length (drop i raw)) = omega arith in
        rw (k, size, ← drop-drop (suc (line_length (drop i raw))) i raw, ← unfolded_line (by lf (drop i raw))) h.so_far

    sum : n + (length (take (f - i) (drop i raw)) + length (unfolded (drop (e + 1) raw))) ≡ length (unfolded raw)
    sum = simp length-append at (counted (unfolded raw) d out n (take (f - i) (drop i raw) ++ unfolded (drop (e + 1) raw)) goes_on)

    pub unfold_room : n + length (take (f - i) (drop i raw)) ≤ length out
    unfold_room = omega (arith, sum, unfold_kept, goes_on.room)

    pub unfold_upto : i < length raw → f ≤ length raw
    unfold_upto l = omega (arith, text_short (drop i raw), length-drop i raw)

    pub unfold_sum : length raw < 2 ^ 64 → Fits w64 (n + (f - i))
    unfold_sum l = record { fits = omega (arith, sum, long, unfolded_short raw) }

    pub unfold_behind : i < length raw → length raw * 1 < 2 ^ 63 → Fits w64 (e + 1)
    unfold_behind l m = record { fits = omega (arith, before_short (by lf (drop i raw)), length-drop i raw) }

    pub unfold_next : (w : List ℕ) → w ≡ put_at out n (take (f - i) (drop i raw)) → Unfolds raw d w (n + (f - i)) (e + 1)
    unfold_next w t = record { so_far = rw t (rw long at (puts (unfolded raw) d out n (take (f - i) (drop i raw)) (unfolded (drop (e + 1) raw)) goes_on)) }

pub ruleset unfolds = (unfold_begin, unfold_upto, unfold_room, unfold_sum, unfold_behind, unfold_next, unfold_end, unfold_count, unfold_kept, rules)
