-- The tokens: what is found at a place of the list, by the octets from there on.
--     opens_run_octet             what opens a run is an octet of one
--     run_from .. run_unread      the run that begins at a place
--     quote_word .. quote_unread  the quoted string that begins at a place
--     at_run .. at_nothing        the token at a place, by what its first octet opens
--     first_end .. first_unread   the first token from a place on, by what is skipped
--     inside_earlier              a token that lies behind a place lies behind every earlier one
-- Assumes nothing.
use Prim.Native.Nat.{ℕ, suc, ◌+◌, ◌-◌, ◌<◌, ◌≤◌}
use mathlib.Core.Path.{◌≡◌, refl, sym, ap, ◌∙◌}
use mathlib.Core.Logic.{⊎_elim}
use mathlib.Core.Bool.{Bool, true, false, cond}
use mathlib.Core.List.{List}
use Rattle.std.specs.Prelude.{◌==◌, Some, Option, None}
use Rattle.std.specs.List.{list_any}
use native.Mathlib.Omega.{arith}
use native.Mathlib.Nat.{sub-zero}
use borrow.Author.Rules.{rules}
use lib.ListN.{length, get_or, take, drop}
use lib.Seq.{drop-drop}
use Rattle.octets.specs.Finding.{holds}
use Rattle.octets.specs.Octets.{octet}
use Rattle.octets.proofs.Lists.{lt_or_le, drop_one, drop_done}
use Rattle.runs.specs.Runs.{run}
use Rattle.runs.proofs.Running.{Ran, ran}
use Rattle.tokens.specs.Tokens.{past, skipped, after_quote}
use Rattle.tokens.specs.Answers.{reached}
use Rattle.tokens.proofs.Places.{Left}
use Rattle.tokens.proofs.Skipping.{skip_to, skip_unreadable}
use Rattle.tokens.proofs.Quoting.{quoted_to, quoted_unreadable}
use Rattle.address.specs.Address.{address_octet, plain}
use Rattle.addresslist.specs.List.{opening_of, Token, run_token, quoted_token, token_at, first_token}
use Rattle.addresslist.specs.Answers.{between, found_in, Inside}
use Rattle.addresslist.proofs.Telling.{held}
use Rattle.grammar.specs.declared.Sort.{Sort}
use Rattle.grammar.specs.declared.Sort.TheVariants.{Word}
use Rattle.addresslist.specs.declared.token.Start.{Start}
use Rattle.addresslist.specs.declared.token.Start.TheVariants.{Run, Quote, Sign, Nothing}
use Rattle.addresslist.specs.declared.token.TokenAt.{TokenAt}
use Rattle.addresslist.specs.declared.token.TokenAt.TheVariants.{Address, Other, End as Over, Unreadable as Unfound}

-- the run that begins at the place `from` and ends at the place `to`
module _ (s : List ℕ) (from to : ℕ) (l : from < length s) (e : to ≡ from + run address_octet (drop from s)) where
  here : Ran address_octet s from to
  here = ran address_octet s from to (omega arith) e

  pub run_from : from ≤ to
  run_from = here.from

  pub run_upto : to ≤ length s
  run_upto = here.upto

  pub run_long : address_octet (get_or s from 0) ≡ true → from < to
  unfolding run
  run_long o =
      let n : run address_octet (drop from s) ≡ suc (run address_octet (drop (from + 1) s)) = rw (drop_one s from l, run, o) in
      omega arith

  octets_run : take (run address_octet (drop from s)) (drop from s) ≡ between s from to
  octets_run = let n : run address_octet (drop from s) ≡ to - from = omega arith in ap (λ (k : ℕ). take k (drop from s)) n

  behind_run : drop (run address_octet (drop from s)) (drop from s) ≡ drop to s
  behind_run = rw (drop-drop, ← e)

  module _ (b : Bool) (p : b ≡ plain (between s from to)) where
    pub run_address : b ≡ true → found_in s (Address from to) ≡ run_token (drop from s)
    unfolding found_in run_token
    run_address t = rw (run_token, octets_run, sym p ∙ t, octets_run, behind_run)

    module _ (f : b ≡ false) (h : Bool) (q : h ≡ list_any (λ x. x == octet "@") (between s from to)) where
      at_in : h ≡ holds (octet "@") (between s from to)
      at_in = q ∙ held (octet "@") (between s from to)

      pub run_unread : h ≡ true → found_in s Unfound ≡ run_token (drop from s)
      unfolding found_in run_token
      run_unread t = rw (run_token, octets_run, sym p ∙ f, octets_run, sym at_in ∙ t)

      pub run_word : h ≡ false → found_in s (Other Word to) ≡ run_token (drop from s)
      unfolding found_in run_token
      run_word t = rw (run_token, octets_run, sym p ∙ f, octets_run, sym at_in ∙ t, behind_run)

pub ruleset finding_run = (run_from, run_upto, run_long, run_address, run_unread, run_word, rules)

-- the quoted string whose opening quote stands at the place `from`
module _ (s : List ℕ) (from : ℕ) (r : Option ℕ) (e : r ≡ reached s (after_quote false (drop (from + 1) s))) where
  closed : (to : ℕ) → r ≡ Some to → Left s ((from + 1) + 1) to (after_quote false (drop (from + 1) s))
  closed to q = quoted_to s (from + 1) r e to q

  pub quote_word : (to : ℕ) → r ≡ Some to → found_in s (Other Word to) ≡ quoted_token (drop from s)
  unfolding found_in quoted_token
  quote_word to q = rw (quoted_token, drop-drop, (closed to q).left)

  pub quote_long : (to : ℕ) → r ≡ Some to → from < to
  quote_long to q = omega (arith, (closed to q).from)

  pub quote_upto : (to : ℕ) → r ≡ Some to → to ≤ length s
  quote_upto to q = (closed to q).upto

  pub quote_unread : r ≡ None → found_in s Unfound ≡ quoted_token (drop from s)
  unfolding found_in quoted_token
  quote_unread q = rw (quoted_token, drop-drop, quoted_unreadable s (from + 1) r e q)

pub ruleset finding_quoted = (quote_word, quote_long, quote_upto, quote_unread, rules)

-- what opens a run is an octet of one
is_run : Start → Bool
is_run Run = true
is_run Quote = false
is_run (Sign sort) = false
is_run Nothing = false

of_cond : (b : Bool) (x y : Start) → is_run (cond b x y) ≡ cond b (is_run x) (is_run y)
of_cond true x y = refl
of_cond false x y = refl

cond_same : (b c : Bool) → cond b c c ≡ c
cond_same true c = refl
cond_same false c = refl

cond_self : (b : Bool) → cond b true false ≡ b
cond_self true = refl
cond_self false = refl

run_begins : (x : ℕ) → is_run (opening_of x) ≡ address_octet x
unfolding opening_of is_run
run_begins x = simp (of_cond, cond_same, cond_self)

pub opens_run_octet : (x : ℕ) → opening_of x ≡ Run → address_octet x ≡ true
unfolding is_run
opens_run_octet x e = sym (run_begins x) ∙ ap is_run e

-- the token at the place `from`, which its first octet opens
module _ (s : List ℕ) (from : ℕ) (o : Start) (l : from < length s) (e : o ≡ opening_of (get_or s from 0)) where
  pub at_begins : o ≡ Run → address_octet (get_or s from 0) ≡ true
  at_begins q = opens_run_octet (get_or s from 0) (sym e ∙ q)

  pub at_run : (t : Token) → o ≡ Run → t ≡ run_token (drop from s) → t ≡ token_at (drop from s)
  unfolding token_at
  at_run t q p = p ∙ rw (drop_one s from l, token_at, sym e ∙ q)

  pub at_quote : (t : Token) → o ≡ Quote → t ≡ quoted_token (drop from s) → t ≡ token_at (drop from s)
  unfolding token_at
  at_quote t q p = p ∙ rw (drop_one s from l, token_at, sym e ∙ q)

  pub at_sign : (sort : Sort) → o ≡ Sign sort → found_in s (Other sort (from + 1)) ≡ token_at (drop from s)
  unfolding found_in token_at
  at_sign sort q = rw (drop_one s from l, token_at, sym e ∙ q)

  pub at_nothing : o ≡ Nothing → found_in s Unfound ≡ token_at (drop from s)
  unfolding found_in token_at
  at_nothing q = rw (drop_one s from l, token_at, sym e ∙ q)

pub ruleset finding_at = (at_begins, at_run, at_quote, at_sign, at_nothing, rules)

-- the first token from the place `at` on
pub inside_earlier : (s : List ℕ) (at from : ℕ) (g : TokenAt) → at ≤ from → Inside s from g → Inside s at g
inside_earlier s at from (Address a b) l h = (omega arith, h.1, h.2)
inside_earlier s at from (Other sort b) l h = (omega arith, h.1)
inside_earlier s at from Over l h = h
inside_earlier s at from Unfound l h = h

module _ (s : List ℕ) (at : ℕ) (r : Option ℕ) (e : r ≡ reached s (skipped (drop at s))) where
  past_end : (n : ℕ) → length s ≤ at → r ≡ Some n → n ≡ length s
  unfolding past reached
  past_end n l q = let z : Some n ≡ Some (length s) = sym q ∙ e ∙ rw (drop_done s at l, sub-zero) in cc

  came : (n : ℕ) → r ≡ Some n → at < length s → Left s at n (skipped (drop at s))
  came n q l = skip_to s at r e n q (omega arith)

  left_at : (n : ℕ) → r ≡ Some n → skipped (drop at s) ≡ Some (drop n s)
  unfolding past
  left_at n q =
      ⊎_elim
      (λ (l : at < length s). (came n q l).left)
      (λ (l : length s ≤ at). rw (drop_done s at l, drop_done s n (omega (arith, past_end n l q))))
      (lt_or_le at (length s))

  pub first_later : (n : ℕ) → r ≡ Some n → n < length s → at ≤ n
  first_later n q k =
      ⊎_elim
      (λ (l : at < length s). (came n q l).from)
      (λ (l : length s ≤ at). absurd (omega (arith, past_end n l q)))
      (lt_or_le at (length s))

  pub first_end : (n : ℕ) → r ≡ Some n → length s ≤ n → found_in s Over ≡ first_token (drop at s)
  unfolding found_in first_token token_at
  first_end n q k = rw (first_token, left_at n q, drop_done s n k)

  pub first_token_lem : (n : ℕ) (t : Token) → r ≡ Some n → t ≡ token_at (drop n s) → t ≡ first_token (drop at s)
  unfolding first_token
  first_token_lem n t q p = p ∙ rw (first_token, left_at n q)

  pub first_unread : r ≡ None → found_in s Unfound ≡ first_token (drop at s)
  unfolding found_in first_token
  first_unread q = rw (first_token, skip_unreadable s at r e q)

pub ruleset finding = (inside_earlier, first_later, first_end, first_token_lem, first_unread, rules)
