-- Values unfolded: laws of `unfolded`.
--     unfolded_short            it gets no longer
--     unfolded_out, unfolded_in     one step
--     value_within .. value_there_from    what a caller reads off the buffer
--     NoLf, unfolded_plain      a text without LF is itself
--     unfolded_lf, unfolded_crlf    a text that opens with a line ending
--     unfolded_append, unfolded_before    two texts, one after the other: no CRLF may begin in the one and end in the other
-- Assumes nothing.
use Prim.Native.Nat.{ℕ, suc, ◌-◌, ◌≤◌, zero-le, suc-le-suc}
use mathlib.Core.Path.{◌≡◌, refl, sym, ap, ◌∙◌}
use mathlib.Core.Bool.{Bool, true, false, ◌&&◌}
use mathlib.Core.List.{List, [], ◌∷◌, ◌++◌}
use native.Mathlib.Nat.{sub-zero}
use native.Mathlib.Omega.{arith}
use borrow.Author.Tests.{eqb-true, eqb-false, ne_eqb}
use lib.Dec.{eqb}
use lib.ListN.{length, get_or, take, drop, length-append}
use lib.Seq.{take-append_seam}
use Rattle.octets.specs.Written.{onto}
use Rattle.octets.specs.Octets.{cr, lf}
use Rattle.header.specs.Header.{of_ending, unfolded}
use Rattle.header.proofs.Telling.{ends_lf}

pub unfolded_short : (s : List ℕ) → length (unfolded s) ≤ length s
unfolding unfolded
unfolded_short [] = zero-le
unfolded_short (x ∷ s) = go (unfolded_short s) (of_ending x (get_or s 0 0))
  where
    go : length (unfolded s) ≤ length s → (b : Bool) → length {A = ℕ} (elim b [ true ↦ unfolded s | false ↦ x ∷ unfolded s ]) ≤ suc (length s)
    go ih true = omega arith
    go ih false = suc-le-suc ih

-- one step
module _ (x : ℕ) (s : List ℕ) where
  pub unfolded_out : of_ending x (get_or s 0 0) ≡ true → unfolded (x ∷ s) ≡ unfolded s
  unfolding unfolded
  unfolded_out e = rw (unfolded, e)

  pub unfolded_in : of_ending x (get_or s 0 0) ≡ false → unfolded (x ∷ s) ≡ x ∷ unfolded s
  unfolding unfolded
  unfolded_in e = rw (unfolded, e)

abbrev pub NoLf : List ℕ → Type 0
NoLf s = (i : ℕ) → get_or s i 0 ≡ lf → ⊥

-- an octet that is neither an LF nor a CR before one
pub plain_octet : (x y : ℕ) → (x ≡ lf → ⊥) → (x ≡ cr → y ≡ lf → ⊥) → of_ending x y ≡ false
unfolding of_ending
plain_octet x y n m = rw (ne_eqb x lf n) (go (eqb x cr) refl)
  where
    go : (b : Bool) → eqb x cr ≡ b → (b && eqb y lf) ≡ false
    go true e = ne_eqb y lf (m (eqb-true x cr e))
    go false e = refl

pub unfolded_plain : (s : List ℕ) → NoLf s → unfolded s ≡ s
unfolding unfolded
unfolded_plain [] h = refl
unfolded_plain (x ∷ s) h =
    unfolded_in x s (plain_octet x (get_or s 0 0) (h 0) (λ _. h 1)) ∙ ap (λ (t : List ℕ). x ∷ t) (unfolded_plain s (λ i. h (suc i)))

pub unfolded_lf : (s : List ℕ) → unfolded (lf ∷ s) ≡ unfolded s
unfolding of_ending
unfolded_lf s = unfolded_out lf s refl

pub unfolded_crlf : (s : List ℕ) → unfolded (cr ∷ lf ∷ s) ≡ unfolded s
unfolding of_ending
unfolded_crlf s = unfolded_out cr (lf ∷ s) refl ∙ unfolded_lf s

-- the last octet
unfoldable pub last : List ℕ → ℕ
last [] = 0
last (x ∷ []) = x
last (x ∷ y ∷ s) = last (y ∷ s)

-- what may stand behind an octet and changes nothing about it
same_ending : (x y z : ℕ) → (x ≡ cr → y ≡ lf → ⊥) → (x ≡ cr → z ≡ lf → ⊥) → of_ending x y ≡ of_ending x z
same_ending x y z p q = go (eqb x lf) refl
  where
    go : (b : Bool) → eqb x lf ≡ b → of_ending x y ≡ of_ending x z
    go true e = sym (ends_lf x y (eqb-true x lf e)) ∙ ends_lf x z (eqb-true x lf e)
    go false e = plain_octet x y (eqb-false x lf e) p ∙ sym (plain_octet x z (eqb-false x lf e) q)

pub unfolded_append : (s t : List ℕ) → (last s ≡ cr → get_or t 0 0 ≡ lf → ⊥) → unfolded (s ++ t) ≡ unfolded s ++ unfolded t
unfolding unfolded last
unfolded_append [] t h = refl
unfolded_append (x ∷ []) t h = go (of_ending x 0) refl
  where
    same : of_ending x (get_or t 0 0) ≡ of_ending x 0
    same = same_ending x (get_or t 0 0) 0 h (λ _ e. absurd (omega arith))

    go : (b : Bool) → of_ending x 0 ≡ b → unfolded (x ∷ t) ≡ unfolded (x ∷ []) ++ unfolded t
    go true e = rw (unfolded_out x t (same ∙ e), unfolded_out x [] e)
    go false e = rw (unfolded_in x t (same ∙ e), unfolded_in x [] e)
unfolded_append (x ∷ y ∷ s) t h = go (unfolded_append (y ∷ s) t h) (of_ending x y) refl
  where
    go : unfolded (y ∷ s ++ t) ≡ unfolded (y ∷ s) ++ unfolded t → (b : Bool) → of_ending x y ≡ b → unfolded (x ∷ y ∷ s ++ t) ≡ unfolded (x ∷ y ∷ s) ++ unfolded t
    go ih true e = unfolded_out x (y ∷ s ++ t) e ∙ ih ∙ rw (unfolded_out x (y ∷ s) e)
    go ih false e = unfolded_in x (y ∷ s ++ t) e ∙ ap (λ (l : List ℕ). x ∷ l) ih ∙ rw (unfolded_in x (y ∷ s) e)

pub unfolded_before : (s t : List ℕ) → (get_or t 0 0 ≡ lf → ⊥) → unfolded (s ++ t) ≡ unfolded s ++ unfolded t
unfolded_before s t h = unfolded_append s t (λ _. h)

-- what a caller reads off a buffer into which a value w was unfolded
module _ (w d out : List ℕ) (n : ℕ) (c : n ≡ length w) (o : out ≡ onto w d) where
  pub value_within : n ≤ length out
  unfolding onto
  value_within = rw (o, c, length-append) (omega arith)

  pub value_there : take n out ≡ w
  unfolding onto
  value_there = rw (o, c) (take-append_seam w (drop (length w) d))

  pub value_long : n ≡ length (take n out)
  value_long = c ∙ sym (ap length value_there)

  pub value_there_from : take (n - 0) (drop 0 out) ≡ w
  value_there_from = rw sub-zero value_there
