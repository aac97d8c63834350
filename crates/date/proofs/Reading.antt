-- From tokens to the parts of a date.
--     read_got, read_missing        an answer of the code, and what the definition reads
--     first-.., inside-..           what an answer of `token` says
--     next-..                       the token at a place
--     optional-..                   a part that may be missing
--     then_got, then_missing        one part after the other
-- Assumes nothing.
use Prim.Native.Nat.{ℕ, ◌-◌, ◌≤◌}
use mathlib.Core.Path.{◌≡◌, sym, ◌∙◌}
use mathlib.Core.List.{List}
use Rattle.std.specs.Prelude.{Option, Some, None}
use borrow.Author.Rules.{rules}
use lib.ListN.{length, take, drop}
use Rattle.datewords.specs.Words.{token, end, unreadable, first_token, meant}
use Rattle.date.specs.Date.{Read, got, missing, read_of, and_then, next, optional}
use Rattle.datewords.specs.Answers.{token_in, Inside}
use Rattle.date.specs.Answers.{read_in}
use Rattle.datewords.specs.declared.token.WordAt.{WordAt}
use Rattle.datewords.specs.declared.token.WordAt.TheVariants.{Between, End, Unreadable}
use Rattle.datewords.specs.declared.meaning.Place.{Place}
use Rattle.date.specs.declared.PartRead.{PartRead}
use Rattle.datewords.proofs.Digits.{value_is, nothing_is}

-- what an answer of `token` says of the text u that is left
module _ (s u : List ℕ) (g : WordAt) (e : token_in s g ≡ first_token u) where
  pub first_between : (from to : ℕ) → g ≡ Between from to → first_token u ≡ token (take (to - from) (drop from s)) (drop to s)
  unfolding token_in
  first_between from to q = sym e ∙ rw q

  pub first_end : g ≡ End → first_token u ≡ end
  unfolding token_in
  first_end q = sym e ∙ rw q

  pub first_unreadable : g ≡ Unreadable → first_token u ≡ unreadable
  unfolding token_in
  first_unreadable q = sym e ∙ rw q

  module _ (what : Place) where
    pub next_end : g ≡ End → read_in s None ≡ next what u
    unfolding next read_in
    next_end q = rw (next, first_end q)

    pub next_unreadable : g ≡ Unreadable → read_in s None ≡ next what u
    unfolding next read_in
    next_unreadable q = rw (next, first_unreadable q)

    module _ (from to : ℕ) (q : g ≡ Between from to) (m : Option ℕ) (h : m ≡ meant what (take (to - from) (drop from s))) where
      pub next_got : (n : ℕ) → m ≡ Some n → read_in s (Some (record { value = n; to = to })) ≡ next what u
      unfolding next read_in read_of
      next_got n p = rw (next, first_between from to q, value_is (meant what (take (to - from) (drop from s))) m n h p)

      pub next_missing : m ≡ None → read_in s None ≡ next what u
      unfolding next read_in read_of
      next_missing p = rw (next, first_between from to q, nothing_is (meant what (take (to - from) (drop from s))) m h p)

module _ (s : List ℕ) (g : WordAt) (h : Inside s g) (from to : ℕ) (q : g ≡ Between from to) where
  inside : Inside s (Between from to)
  inside = rw q at h

  pub inside_order : from ≤ to
  inside_order = inside.0

  pub inside_upto : to ≤ length s
  inside_upto = inside.1

pub ruleset nexts = (next_end, next_unreadable, next_got, next_missing, inside_order, inside_upto, rules)

-- what an answer of a reader says of what was to be read
module _ (s : List ℕ) (g : Option PartRead) (u : Read) (e : read_in s g ≡ u) where
  pub read_got : (p : PartRead) → g ≡ Some p → u ≡ got p.value (drop p.to s)
  unfolding read_in
  read_got p q = sym e ∙ rw q

  pub read_missing : g ≡ None → u ≡ missing
  unfolding read_in
  read_missing q = sym e ∙ rw q

  module _ (f : ℕ → List ℕ → Read) where
    pub then_got : (p : PartRead) (r : Option PartRead) → g ≡ Some p → read_in s r ≡ f p.value (drop p.to s) → read_in s r ≡ and_then u f
    unfolding and_then
    then_got p r q h = rw (read_got p q) h

    pub then_missing : (r : Option PartRead) → r ≡ None → g ≡ None → read_in s r ≡ and_then u f
    unfolding and_then read_in
    then_missing r p q = rw (p, read_missing q)

module _ (s t : List ℕ) (g : Option PartRead) (opening closing : Place) (e : read_in s g ≡ next opening t) where
  pub optional_got : (p : PartRead) (r : Option PartRead) → g ≡ Some p → read_in s r ≡ next closing (drop p.to s) → read_in s r ≡ optional opening closing t
  unfolding optional
  optional_got p r q h = rw (optional, read_got s g (next opening t) e p q) h

pub optional_missing :
    (s : List ℕ) (at : ℕ) (g : Option PartRead) (opening closing : Place) → read_in s g ≡ next opening (drop at s) → g ≡ None
    → read_in s (Some (record { value = 0; to = at })) ≡ optional opening closing (drop at s)
unfolding optional read_in
optional_missing s at g opening closing e q = rw (optional, read_missing s g (next opening (drop at s)) e q)

pub ruleset optionals = (optional_got, optional_missing, rules)
