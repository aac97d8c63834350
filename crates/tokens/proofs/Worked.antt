-- Worked examples of L2 to L5, by computing the definitions.
-- Assumes nothing.
use Prim.Native.Nat.{ℕ}
use mathlib.Core.Path.{◌≡◌, refl}
use mathlib.Core.Bool.{false}
use mathlib.Core.List.{List, [], ◌∷◌, ◌++◌, map}
use Rattle.std.specs.Prelude.{Option, Some, None}
use lib.ListN.{replicate}
use Rattle.octets.specs.Octets.{ascii, octet, blank, tab}
use Rattle.tokens.specs.Tokens.{control, kind_of, past, skipped, after_quote}
use Rattle.tokens.specs.Answers.{reached}

-- so many comments one inside the other
nested : ℕ → List ℕ
nested n = replicate n (octet "(") ++ replicate n (octet ")")

-- a text, and what is left behind its spaces, tabs and comments
skips : List (List ℕ × Option (List ℕ))
skips =
    -- L2: depth 16 is the last that reads
    (nested 16 ++ ascii "x", Some (ascii "x"))
    ∷ (nested 17 ++ ascii "x", None)
    -- L2: each outermost comment counts from 1 again
    ∷ (nested 9 ++ (nested 16 ++ ascii "x"), Some (ascii "x"))
    -- L11: blanks and comments in any order, and none at all
    ∷ (ascii " (a (b) c) " ++ (tab ∷ ascii "() ,x"), Some (ascii ",x"))
    ∷ (ascii "x", Some (ascii "x"))
    ∷ ([], Some [])
    -- L4: a backslash takes a parenthesis; a quote inside a comment means nothing
    ∷ (ascii "(\\))x", Some (ascii "x"))
    ∷ (ascii "(\\()x", Some (ascii "x"))
    ∷ (ascii "(\")x", Some (ascii "x"))
    -- L2, L4: a comment lacks its end, a backslash its octet
    ∷ (ascii "((a)", None)
    ∷ (ascii "(a\\", None)
    -- L5: control octets in a comment, also behind a backslash; a tab is none
    ∷ (octet "(" ∷ 127 ∷ ascii ")x", None)
    ∷ (octet "(" ∷ octet "\\" ∷ 1 ∷ ascii ")x", None)
    ∷ (octet "(" ∷ octet "\\" ∷ tab ∷ ascii ")x", Some (ascii "x"))
    -- outside of comments they are left to the reader above
    ∷ (octet " " ∷ 1 ∷ [], Some (1 ∷ []))
    ∷ []

skips_hold : map (λ (e : List ℕ × Option (List ℕ)). skipped e.0) skips ≡ map (λ (e : List ℕ × Option (List ℕ)). e.1) skips
unfolding skips nested past blank kind_of control
skips_hold = refl

-- a text behind an opening quote, and what is left behind the closing one
quotes : List (List ℕ × Option (List ℕ))
quotes =
    (ascii "a (b\" c", Some (ascii " c"))
    ∷ (ascii "\\\"\\\\\"c", Some (ascii "c"))
    -- L4: a quoted string holds octets from 128 on, and tabs
    ∷ (195 ∷ 164 ∷ tab ∷ ascii "\"", Some [])
    ∷ (ascii "abc\\\"", None)
    ∷ (octet "\\" ∷ 1 ∷ ascii "\"", None)
    ∷ []

quotes_hold :
    map (λ (e : List ℕ × Option (List ℕ)). after_quote false e.0) quotes ≡ map (λ (e : List ℕ × Option (List ℕ)). e.1) quotes
unfolding quotes after_quote kind_of control
quotes_hold = refl

-- as places
place : reached (ascii "a (b) c") (skipped (ascii " (b) c")) ≡ Some 6
unfolding reached past blank kind_of control
place = refl
