-- Spaces, tabs and comments: what `skip` knows in its loop, and what its callers ask.
--     Skipping s at i              what is left behind them is the same from `at` and from i
--     skipping_begin .. skipping_end    the loop's steps
--     stays                        an octet that is neither blank nor "(" is where what is left begins
--     skipped_suffix               what is left is a part of the text
--     skip_to                      an answer `To n`: what is left is the text from n on, and n is not before `at`; skip_left says the first alone
--     skip_unreadable              an answer Unreadable: nothing is left
-- Assumes nothing.
use Prim.Native.Nat.{ℕ, suc, zero, ◌+◌, ◌<◌, ◌≤◌}
use mathlib.Core.Path.{◌≡◌, refl, sym, ◌∙◌}
use mathlib.Core.Bool.{Bool, true, false}
use mathlib.Core.List.{List, [], ◌∷◌}
use Rattle.std.specs.Prelude.{Some, None, Option}
use native.Mathlib.Omega.{arith}
use native.Mathlib.Nat.{sub-zero}
use borrow.Author.Rules.{rules}
use borrow.Author.Tests.{ne_eqb}
use lib.Dec.{eqb, ltb}
use lib.ListN.{length, get_or, drop}
use Rattle.octets.proofs.Lists.{drop_one, drop_done}
use Rattle.octets.specs.Octets.{blank}
use Rattle.tokens.specs.Tokens.{control, kind_of, depth, past, skipped}
use Rattle.tokens.specs.Answers.{reached, opened, Passing, Passed}
use Rattle.tokens.specs.declared.OctetKind.{OctetKind}
use Rattle.tokens.specs.declared.OctetKind.TheVariants.{Closes, Escapes, Control, Plain}
use Rattle.tokens.proofs.Places.{none_or_some, Suffix, whole, behind, Left, reached_at, reached_to, reached_none}
use Rattle.tokens.proofs.Commenting.{comment_nearer}

pub stays : (x : ℕ) (s : List ℕ) → blank x ≡ false → (x ≡ 40 → ⊥) → skipped (x ∷ s) ≡ Some (x ∷ s)
unfolding past
stays x s b o = rw (past, b, ne_eqb x 40 o)

pub record Skipping (s : List ℕ) (at i : ℕ) : Type 0 where
  pub same : skipped (drop at s) ≡ skipped (drop i s)

pub skipping_begin : (s : List ℕ) (at : ℕ) → Skipping s at at
skipping_begin s at = record { same = refl }

module _ (s : List ℕ) (at i : ℕ) (h : Skipping s at i) where
  pub skipping_end : length s ≤ i → Some (length s) ≡ reached s (skipped (drop at s))
  unfolding past reached
  skipping_end l = rw (h.same, drop_done s i l, sub-zero)

  -- a comment, which the reader of comments has passed or found unreadable
  module _ (r : Option ℕ) (p : Passed s i (opened depth) (opened depth) r) where
    pub skipping_comment : (m : ℕ) → r ≡ Some m → Skipping s at m
    skipping_comment m q = let t : Passing s i 0 0 m = rw q at p in record { same = h.same ∙ t.same }

    pub skipping_unread : r ≡ None → None ≡ reached s (skipped (drop at s))
    unfolding reached
    skipping_unread q = let t : Passed s i 0 0 None = rw q at p in rw (h.same, t)

  module _ (l : i < length s) (b : Bool) (e : b ≡ blank (get_or s i 0)) where
    pub skipping_blank : b ≡ true → Skipping s at (i + 1)
    unfolding past
    skipping_blank q = record { same = h.same ∙ rw (drop_one s i l, past, sym e ∙ q) }

    pub skipping_stop : b ≡ false → (get_or s i 0 ≡ 40 → ⊥) → Some i ≡ reached s (skipped (drop at s))
    skipping_stop q o =
        let t : skipped (drop i s) ≡ Some (drop i s) = rw (drop_one s i l) (stays (get_or s i 0) (drop (i + 1) s) (sym e ∙ q) o) in
        rw (h.same, t) (sym (reached_at s i (omega arith)))

pub ruleset skipping =
    (skipping_begin, skipping_end, skipping_comment, skipping_unread, skipping_blank, skipping_stop, comment_nearer, rules)

-- one octet: unreadable, the beginning of what is left, or what follows is read
data Reads (n : ℕ) (taken : Bool) (x : ℕ) (s : List ℕ) : Type 0 where
  stuck : past n taken (x ∷ s) ≡ None → Reads n taken x s
  begins : skipped (x ∷ s) ≡ Some (x ∷ s) → past n taken (x ∷ s) ≡ Some (x ∷ s) → Reads n taken x s
  goes : (m : ℕ) (next : Bool) → past n taken (x ∷ s) ≡ past m next s → Reads n taken x s

reads : (n : ℕ) (taken : Bool) (x : ℕ) (s : List ℕ) → Reads n taken x s
unfolding past
reads zero taken x s = go (blank x) refl (eqb x 40) refl
  where
    go : (b : Bool) → blank x ≡ b → (c : Bool) → eqb x 40 ≡ c → Reads zero taken x s
    go true p c q = goes 0 false (rw (past, p))
    go false p true q = goes 1 false (rw (past, p, q))
    go false p false q = begins (rw (past, p, q)) (rw (past, p, q))
reads (suc n) true x s = go (control x) refl
  where
    go : (b : Bool) → control x ≡ b → Reads (suc n) true x s
    go true e = stuck (rw (past, e))
    go false e = goes (suc n) false (rw (past, e))
reads (suc n) false x s = go (eqb x 40) refl
  where
    room : eqb x 40 ≡ true → (b : Bool) → ltb (suc n) depth ≡ b → Reads (suc n) false x s
    room q true e = goes (suc (suc n)) false (rw (past, q, e))
    room q false e = stuck (rw (past, q, e))

    inside : eqb x 40 ≡ false → (k : OctetKind) → kind_of 41 x ≡ k → Reads (suc n) false x s
    inside q Closes e = goes n false (rw (past, q, e))
    inside q Escapes e = goes (suc n) true (rw (past, q, e))
    inside q Control e = stuck (rw (past, q, e))
    inside q Plain e = goes (suc n) false (rw (past, q, e))

    go : (c : Bool) → eqb x 40 ≡ c → Reads (suc n) false x s
    go true q = room q (ltb (suc n) depth) refl
    go false q = inside q (kind_of 41 x) refl

-- what is left is a part of the text, and nothing is left to skip in it
left_behind : (n : ℕ) (taken : Bool) (s rest : List ℕ) → past n taken s ≡ Some rest → Suffix rest s × (skipped rest ≡ Some rest)
unfolding past
left_behind zero taken [] rest e = let q : ◌≡◌ {A = List ℕ} [] rest = cc in rw (← q) (whole, refl)
left_behind (suc n) taken [] rest e = absurd (none_or_some None rest refl e)
left_behind n taken (x ∷ s) rest e = go (λ m next. left_behind m next s rest) (reads n taken x s)
  where
    go :
        ((m : ℕ) (next : Bool) → past m next s ≡ Some rest → Suffix rest s × (skipped rest ≡ Some rest)) → Reads n taken x s
        → Suffix rest (x ∷ s) × (skipped rest ≡ Some rest)
    go more (stuck p) = absurd (none_or_some (past n taken (x ∷ s)) rest p e)
    go more (begins q p) = let r : x ∷ s ≡ rest = cc in rw (← r) (whole, q)
    go more (goes m next p) = let r : _ = more m next (sym p ∙ e) in (behind x r.0, r.1)

module _ (s rest : List ℕ) (e : skipped s ≡ Some rest) where
  pub skipped_suffix : Suffix rest s
  skipped_suffix = (left_behind 0 false s rest e).0

-- what a caller of `skip` learns from its answer r
module _ (s : List ℕ) (at : ℕ) (r : Option ℕ) (e : r ≡ reached s (skipped (drop at s))) where
  module _ (n : ℕ) (q : r ≡ Some n) (l : at ≤ length s) where
    pub skip_to : Left s at n (skipped (drop at s))
    skip_to = reached_to s at n (skipped (drop at s)) l (λ rest p. skipped_suffix (drop at s) rest p) (sym q ∙ e)

    pub skip_left : skipped (drop at s) ≡ Some (drop n s)
    skip_left = skip_to.left

  pub skip_unreadable : r ≡ None → skipped (drop at s) ≡ None
  skip_unreadable q = reached_none s (skipped (drop at s)) (sym q ∙ e)
