-- What a text goes on with: its next letters, its next group.
--     over, got        what an answer of `next_letter` says of the text
--     grouped_at       one step of `decode`
--     read_three .. read_broken    what an answer of `next_group` says of the text
--     read_whole       and what one of `whole_group` says
--     the rulesets     stepping for `step`, spacing for `next_group`
-- Assumes nothing.
use Prim.Native.Nat.{ℕ, ◌+◌, ◌-◌, ◌*◌, ◌/◌, ◌%◌, ◌<◌, ◌≤◌}
use mathlib.Core.Path.{◌≡◌, refl, sym, ap, ◌∙◌}
use mathlib.Core.Bool.{Bool, true, false}
use mathlib.Core.List.{List, [], ◌∷◌}
use Rattle.std.specs.Prelude.{Option, Some, None}
use native.Mathlib.Omega.{arith}
use borrow.Author.Rules.{rules}
use lib.ListN.{length, get_or, drop, length-drop}
use lib.Seq.{drop-drop}
use Rattle.octets.specs.Octets.{blank, without_blanks}
use Rattle.octets.proofs.Lists.{drop_one}
use Rattle.octets.proofs.Without.{without_other}
use Rattle.letters.specs.Base64.{sign_of, closed, grouped, group_of, before, at_end, follow, decode}
use Rattle.letters.specs.Tables.{code_of}
use Rattle.letters.proofs.Alphabet.{found_value}
use Rattle.letters.proofs.Alphabetic.{blank_other}
use Rattle.groups.specs.Steps.{NextLetter, step_of, NextGroup, WholeGroup}
use Rattle.letters.specs.declared.Sign.TheVariants.{Value}
use Rattle.letters.specs.declared.Group.{Group}
use Rattle.letters.specs.declared.Group.TheVariants.{Three as GThree, Two as GTwo, One as GOne, Broken as GBroken}
use Rattle.groups.specs.declared.Next.{Next}
use Rattle.groups.specs.declared.Next.TheVariants.{Three, Two, One, End, Broken}

-- `next_letter`'s answer, read
module _ (s : List ℕ) (at : ℕ) (r : Option (ℕ × ℕ)) (h : NextLetter s at r) where
  pub over : r ≡ None → without_blanks (drop at s) ≡ []
  unfolding NextLetter
  over e = rw e at h

  pub got : (x n : ℕ) → r ≡ Some (x, n) → (without_blanks (drop at s) ≡ x ∷ without_blanks (drop n s)) × (at < n) × (n ≤ length s)
  unfolding NextLetter
  got x n e = rw e at h

-- `step`'s answer is the next group
module _ (s : List ℕ) (at n : ℕ) (l : at + 4 ≤ n) (k : n ≤ length s) where
  stepped_by : (g : Group) (rest : List ℕ) → without_blanks (drop n s) ≡ rest
      → decode (without_blanks (drop at s)) ≡ follow g rest (decode rest) → NextGroup s at (step_of g n rest)
  unfolding follow at_end step_of NextGroup
  stepped_by (GThree x y z) rest e h = (rw (← e) at h, l, k)
  stepped_by (GTwo x y) [] e h = h
  stepped_by (GTwo x y) (c ∷ rest) e h = h
  stepped_by (GOne x) [] e h = h
  stepped_by (GOne x) (c ∷ rest) e h = h
  stepped_by GBroken rest e h = h

-- four letters from the place `at` to the place n
module _ (s : List ℕ) (at n a b c d : ℕ) (t : without_blanks (drop at s) ≡ a ∷ b ∷ c ∷ d ∷ without_blanks (drop n s)) (l : at + 4 ≤ n) (k : n ≤ length s) where
  pub grouped_at : NextGroup s at (step_of (group_of a b c d) n (without_blanks (drop n s)))
  unfolding decode
  grouped_at = stepped_by s at n l k (group_of a b c d) (without_blanks (drop n s)) refl (ap decode t)

-- `step`: behind pads, only blanks may follow
module _ (g : Group) (n : ℕ) (s : List ℕ) (r : Option (ℕ × ℕ)) (h : NextLetter s n r) where
  pub step_two : (x y : ℕ) → g ≡ GTwo x y → r ≡ None → Two x y ≡ step_of g n (without_blanks (drop n s))
  unfolding step_of
  step_two x y e o = rw (e, over s n r h o)

  pub step_one : (x : ℕ) → g ≡ GOne x → r ≡ None → One x ≡ step_of g n (without_blanks (drop n s))
  unfolding step_of
  step_one x e o = rw (e, over s n r h o)

  module _ (q : ℕ × ℕ) (o : r ≡ Some q) where
    pub two_goes_on : (x y : ℕ) → g ≡ GTwo x y → Broken ≡ step_of g n (without_blanks (drop n s))
    unfolding step_of
    two_goes_on x y e = rw (e, (got s n r h q.0 q.1 o).0)

    pub one_goes_on : (x : ℕ) → g ≡ GOne x → Broken ≡ step_of g n (without_blanks (drop n s))
    unfolding step_of
    one_goes_on x e = rw (e, (got s n r h q.0 q.1 o).0)

pub ruleset stepping = (step_two, step_one, two_goes_on, one_goes_on, rules)

-- `next_group`
module _ (s : List ℕ) (at : ℕ) (r₁ : Option (ℕ × ℕ)) (h₁ : NextLetter s at r₁) where
  pub no_letter : r₁ ≡ None → NextGroup s at End
  unfolding NextGroup decode
  no_letter e = rw (over s at r₁ h₁ e)

  module _ (a i : ℕ) (e₁ : r₁ ≡ Some (a, i)) (r₂ : Option (ℕ × ℕ)) (h₂ : NextLetter s i r₂) where
    pub one_letter : r₂ ≡ None → NextGroup s at Broken
    unfolding NextGroup decode
    one_letter e = rw ((got s at r₁ h₁ a i e₁).0, over s i r₂ h₂ e)

    module _ (b j : ℕ) (e₂ : r₂ ≡ Some (b, j)) (r₃ : Option (ℕ × ℕ)) (h₃ : NextLetter s j r₃) where
      pub two_letters : r₃ ≡ None → NextGroup s at Broken
      unfolding NextGroup decode
      two_letters e = rw ((got s at r₁ h₁ a i e₁).0, (got s i r₂ h₂ b j e₂).0, over s j r₃ h₃ e)

      module _ (c k : ℕ) (e₃ : r₃ ≡ Some (c, k)) (r₄ : Option (ℕ × ℕ)) (h₄ : NextLetter s k r₄) where
        pub three_letters : r₄ ≡ None → NextGroup s at Broken
        unfolding NextGroup decode
        three_letters e =
            rw ((got s at r₁ h₁ a i e₁).0, (got s i r₂ h₂ b j e₂).0, (got s j r₃ h₃ c k e₃).0, over s k r₄ h₄ e)

        pub four_letters : (d n : ℕ) → r₄ ≡ Some (d, n) → (g : Group) → g ≡ group_of a b c d → (r : Next)
            → r ≡ step_of g n (without_blanks (drop n s)) → NextGroup s at r
        four_letters d n e₄ g eg r er =
            let g₁ = got s at r₁ h₁ a i e₁ in
            let g₂ = got s i r₂ h₂ b j e₂ in
            let g₃ = got s j r₃ h₃ c k e₃ in
            let g₄ = got s k r₄ h₄ d n e₄ in
            rw (er, eg) (grouped_at s at n a b c d (rw (g₁.0, g₂.0, g₃.0, g₄.0)) (omega arith) g₄.2)

pub ruleset spacing = (no_letter, one_letter, two_letters, three_letters, four_letters, rules)

-- a letter, by the number that the table has for it
module _ (x v : ℕ) (e : v ≡ code_of (sign_of x)) (l : v < 64) where
  is_letter : sign_of x ≡ Value v
  is_letter = sym (found_value x v e l)

  no_blank : blank x ≡ false
  no_blank = go (blank x) refl
    where
      go : (b : Bool) → blank x ≡ b → b ≡ false
      go false q = refl
      go true q = let z : ◌≡◌ {A = ℕ} 0 1 = cc (is_letter, blank_other x q) in absurd (omega arith)

four_first : (u : List ℕ) → 4 ≤ length u → u ≡ get_or u 0 0 ∷ get_or u 1 0 ∷ get_or u 2 0 ∷ get_or u 3 0 ∷ drop 4 u
four_first u h = drop_one u 0 (omega arith) ∙ rw (drop_one u 1 (omega arith), drop_one u 2 (omega arith), drop_one u 3 (omega arith))

-- `whole_group`: the next four characters, the first four of u, are letters
module _ (s : List ℕ) (at : ℕ) (l : at ≤ length s) (u : List ℕ) (i : u ≡ drop at s) (k : 4 ≤ length u) (p q r t : ℕ)
    (e₁ : p ≡ code_of (sign_of (get_or u 0 0))) (e₂ : q ≡ code_of (sign_of (get_or u 1 0)))
    (e₃ : r ≡ code_of (sign_of (get_or u 2 0))) (e₄ : t ≡ code_of (sign_of (get_or u 3 0)))
    (l₁ : p < 64) (l₂ : q < 64) (l₃ : r < 64) (l₄ : t < 64) where
  upto : at + 4 ≤ length s
  upto = omega (arith, ap length i, length-drop at s)

  split : drop at s ≡ get_or u 0 0 ∷ get_or u 1 0 ∷ get_or u 2 0 ∷ get_or u 3 0 ∷ drop (at + 4) s
  split = sym i ∙ four_first u k ∙ rw (ap (λ (v : List ℕ). drop 4 v) i, drop-drop)

  whole_values : NextGroup s at (Three (p * 4 + q / 16) (q % 16 * 16 + r / 4) (r % 4 * 64 + t) (at + 4))
  unfolding step_of grouped closed
  whole_values =
      let f = grouped_at s at (at + 4) (get_or u 0 0) (get_or u 1 0) (get_or u 2 0) (get_or u 3 0)
      (rw (split, without_other blank _ _ (no_blank _ p e₁ l₁), without_other blank _ _ (no_blank _ q e₂ l₂), without_other blank _ _ (no_blank _ r e₃ l₃), without_other blank _ _ (no_blank _ t e₄ l₄)))
      (omega arith) upto in
      rw (is_letter _ p e₁ l₁, is_letter _ q e₂ l₂, is_letter _ r e₃ l₃, is_letter _ t e₄ l₄) at f

  -- their octets, by the 24 bits of the four
  pub whole_three : (n : ℕ) → n ≡ p * 262144 + q * 4096 + r * 64 + t → WholeGroup s at (Some (n / 65536 % 256 ∷ n / 256 % 256 ∷ n % 256 ∷ []))
  unfolding WholeGroup
  whole_three n e =
      let x : n / 65536 % 256 ≡ p * 4 + q / 16 = omega arith in
      let y : n / 256 % 256 ≡ q % 16 * 16 + r / 4 = omega arith in
      let z : n % 256 ≡ r % 4 * 64 + t = omega arith in
      rw (x, y, z) whole_values

-- `next_group`'s answer, read
module _ (s : List ℕ) (at : ℕ) (g : Next) (h : NextGroup s at g) where
  pub read_three : (x y z n : ℕ) → g ≡ Three x y z n
      → (decode (without_blanks (drop at s)) ≡ before (x ∷ y ∷ z ∷ []) (decode (without_blanks (drop n s)))) × (at + 4 ≤ n) × (n ≤ length s)
  unfolding NextGroup
  read_three x y z n e = rw e at h

  pub read_two : (x y : ℕ) → g ≡ Two x y → decode (without_blanks (drop at s)) ≡ Some (x ∷ y ∷ [])
  unfolding NextGroup
  read_two x y e = rw e at h

  pub read_one : (x : ℕ) → g ≡ One x → decode (without_blanks (drop at s)) ≡ Some (x ∷ [])
  unfolding NextGroup
  read_one x e = rw e at h

  pub read_end : g ≡ End → decode (without_blanks (drop at s)) ≡ Some []
  unfolding NextGroup
  read_end e = rw e at h

  pub read_broken : g ≡ Broken → decode (without_blanks (drop at s)) ≡ None
  unfolding NextGroup
  read_broken e = rw e at h

-- `whole_group`'s answer, read
module _ (s : List ℕ) (at : ℕ) (r : Option (List ℕ)) (h : WholeGroup s at r) (w : List ℕ) (e : r ≡ Some w) where
  pub read_whole : NextGroup s at (Three (get_or w 0 0) (get_or w 1 0) (get_or w 2 0) (at + 4))
  unfolding WholeGroup
  read_whole = rw e at h

  pub nearer_whole : length s - (at + 4) < length s - at
  nearer_whole = let r = read_three s at _ read_whole _ _ _ (at + 4) refl in omega arith
