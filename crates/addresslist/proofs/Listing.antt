-- What a list gives from a place of the grammar on, token by token, with no count of tokens.
--     Stands, stands                where a token stands in a list
--     enough                        how many tokens are counted does not matter, if they are enough
--     listed_address .. listed_unread   what the first token makes of it
--     by_tokens                     what holds at the end, and of a token in front of what it holds of, holds of every list
-- Assumes nothing.
use Prim.Native.Nat.{ℕ, zero, suc, ◌<◌}
use mathlib.Core.Path.{◌≡◌, refl, sym, ap, ◌∙◌}
use mathlib.Core.Bool.{Bool, true, false}
use mathlib.Core.List.{List, [], ◌∷◌, ◌++◌}
use Rattle.std.specs.Prelude.{Option, Some, None}
use native.Mathlib.Omega.{arith}
use lib.ListN.{length, take, drop, length-drop, length-append, take-append-drop}
use Rattle.octets.specs.Options.{in_front}
use Rattle.octets.specs.Finding.{holds}
use Rattle.octets.specs.Octets.{octet}
use Rattle.octets.proofs.Tests.{by_test}
use Rattle.runs.specs.Runs.{run}
use Rattle.tokens.specs.Tokens.{skipped, after_quote}
use Rattle.tokens.proofs.Places.{Suffix, whole, behind, suffix_length, suffix_one}
use Rattle.tokens.proofs.Skipping.{skipped_suffix}
use Rattle.tokens.proofs.Quoting.{quote_suffix}
use Rattle.address.specs.Address.{address_octet, plain}
use Rattle.address.proofs.Sides.{plain_least}
use Rattle.grammar.specs.Grammar.{after_address, after, may_end}
use Rattle.addresslist.specs.List.{opening_of, Token, address, other, end, unreadable, run_token, quoted_token, token_at, first_token, listed_by, listed, addresses}
use Rattle.grammar.specs.declared.Sort.{Sort}
use Rattle.addresslist.specs.declared.token.Start.{Start}
use Rattle.addresslist.specs.declared.token.Start.TheVariants.{Run, Quote, Sign, Nothing}
use Rattle.grammar.specs.declared.Stage.{Stage}
use Rattle.grammar.specs.declared.Stage.TheVariants.{Place}
use Rattle.addresslist.proofs.Finding.{opens_run_octet}

-- Where a token stands in a list: an address in front of what is left of it, and any other before that.
abbrev pub Stands : List ℕ → Token → Type 0
Stands s (address a rest) = Suffix (a ++ rest) s × (plain a ≡ true)
Stands s (other sort rest) = Suffix rest s × (length rest < length s)
Stands s end = Unit
Stands s unreadable = Unit

drop_suffix : (n : ℕ) (s : List ℕ) → Suffix (drop n s) s
drop_suffix zero s = whole
drop_suffix (suc n) [] = whole
drop_suffix (suc n) (x ∷ s) = behind x (drop_suffix n s)

suffix_of : {r t s : List ℕ} → Suffix r t → Suffix t s → Suffix r s
suffix_of h whole = h
suffix_of h (behind x k) = behind x (suffix_of h k)

run_stands : (x : ℕ) (s : List ℕ) → address_octet x ≡ true → Stands (x ∷ s) (run_token (x ∷ s))
unfolding run_token run
run_stands x s o =
    let n : ℕ = run address_octet (x ∷ s) in
    let k : length (drop n (x ∷ s)) < length (x ∷ s) =
    let e : n ≡ suc (run address_octet s) = rw (run, o) in
    rw e (omega (arith, length-drop (run address_octet s) s))
    in
    by_test (plain (take n (x ∷ s)))
    (λ p. rw (run_token, p) (rw (take-append-drop n (x ∷ s)) whole, p))
    (λ p. by_test (holds (octet "@") (take n (x ∷ s))) (λ h. rw (run_token, p, h) tt) (λ h. rw (run_token, p, h) (drop_suffix n (x ∷ s), k)))

quoted_stands : (x : ℕ) (s : List ℕ) → Stands (x ∷ s) (quoted_token (x ∷ s))
unfolding quoted_token
quoted_stands x s = go (after_quote false s) refl
  where
    go : (o : Option (List ℕ)) → after_quote false s ≡ o → Stands (x ∷ s) (quoted_token (x ∷ s))
    go None e = rw (quoted_token, e) tt
    go (Some rest) e =
        let h : Suffix rest s = suffix_one s (quote_suffix false s rest e) in
        rw (quoted_token, e) (behind x h, omega (arith, suffix_length h))

at_stands : (s : List ℕ) → Stands s (token_at s)
unfolding token_at
at_stands [] = tt
at_stands (x ∷ s) = go (opening_of x) refl
  where
    go : (o : Start) → opening_of x ≡ o → Stands (x ∷ s) (token_at (x ∷ s))
    go Run e = rw (token_at, e) (run_stands x s (opens_run_octet x e))
    go Quote e = rw (token_at, e) (quoted_stands x s)
    go (Sign sort) e = rw (token_at, e) (behind x whole, omega arith)
    go Nothing e = rw (token_at, e) tt

from_longer : (s rest : List ℕ) (t : Token) → Suffix rest s → Stands rest t → Stands s t
from_longer s rest (address a r) l h = (suffix_of h.0 l, h.1)
from_longer s rest (other sort r) l h = (suffix_of h.0 l, omega (arith, h.1, suffix_length l))
from_longer s rest end l h = h
from_longer s rest unreadable l h = h

pub stands : (s : List ℕ) (t : Token) → first_token s ≡ t → Stands s t
unfolding first_token
stands s t p = rw p at (go (skipped s) refl)
  where
    go : (o : Option (List ℕ)) → skipped s ≡ o → Stands s (first_token s)
    go None e = rw (first_token, e) tt
    go (Some rest) e = rw (first_token, e) (from_longer s rest (token_at rest) (skipped_suffix s rest e) (at_stands rest))

-- an address has an octet at least
shorter : (s a rest : List ℕ) → Suffix (a ++ rest) s → plain a ≡ true → length rest < length s
shorter s a rest h p = omega (arith, suffix_length h, length-append a rest, plain_least a p)

-- one token of a list, the others being counted by n
module _ (n : ℕ) (stage : Stage) (inside : Bool) (s : List ℕ) where
  module _ (a rest : List ℕ) (e : first_token s ≡ address a rest) where
    by_address : (next : Stage) (inner : Bool) → after_address stage inside ≡ Some (next, inner)
        → listed_by (suc n) stage inside s ≡ in_front a (listed_by n next inner rest)
    unfolding listed_by
    by_address next inner p = rw (listed_by, e, p)

    by_address_wrong : after_address stage inside ≡ None → listed_by (suc n) stage inside s ≡ None
    unfolding listed_by
    by_address_wrong p = rw (listed_by, e, p)

  module _ (sort : Sort) (rest : List ℕ) (e : first_token s ≡ other sort rest) where
    by_other : (next : Stage) (inner : Bool) → after stage inside sort ≡ Some (next, inner)
        → listed_by (suc n) stage inside s ≡ listed_by n next inner rest
    unfolding listed_by
    by_other next inner p = rw (listed_by, e, p)

    by_other_wrong : after stage inside sort ≡ None → listed_by (suc n) stage inside s ≡ None
    unfolding listed_by
    by_other_wrong p = rw (listed_by, e, p)

  by_end : (b : Bool) → first_token s ≡ end → may_end stage inside ≡ b → listed_by (suc n) stage inside s ≡ elim b [ true ↦ Some [] | false ↦ None ]
  unfolding listed_by
  by_end b e p = rw (listed_by, e, p)

  by_unread : first_token s ≡ unreadable → listed_by (suc n) stage inside s ≡ None
  unfolding listed_by
  by_unread e = rw (listed_by, e)

-- what the first token makes of a list, however many others are counted
data Turn (stage : Stage) (inside : Bool) (s : List ℕ) : Type 0 where
  over : ((n : ℕ) → listed_by (suc n) stage inside s ≡ Some []) → Turn stage inside s
  unread : ((n : ℕ) → listed_by (suc n) stage inside s ≡ None) → Turn stage inside s
  hands :
      (a rest : List ℕ) (next : Stage) (inner : Bool) → Suffix (a ++ rest) s → plain a ≡ true → after_address stage inside ≡ Some (next, inner)
      → ((n : ℕ) → listed_by (suc n) stage inside s ≡ in_front a (listed_by n next inner rest)) → Turn stage inside s
  goes :
      (rest : List ℕ) (next : Stage) (inner : Bool) → Suffix rest s → length rest < length s
      → ((n : ℕ) → listed_by (suc n) stage inside s ≡ listed_by n next inner rest) → Turn stage inside s

module _ (stage : Stage) (inside : Bool) (s : List ℕ) where
  turn : Turn stage inside s
  turn = go (first_token s) refl
    where
      addressed : (a rest : List ℕ) → first_token s ≡ address a rest → (r : Option (Stage × Bool)) → after_address stage inside ≡ r → Turn stage inside s
      addressed a rest e (Some (next, inner)) p =
          hands a rest next inner (stands s (address a rest) e).0 (stands s (address a rest) e).1 p
          (λ n. by_address n stage inside s a rest e next inner p)
      addressed a rest e None p = unread (λ n. by_address_wrong n stage inside s a rest e p)

      others : (sort : Sort) (rest : List ℕ) → first_token s ≡ other sort rest → (r : Option (Stage × Bool)) → after stage inside sort ≡ r → Turn stage inside s
      others sort rest e (Some (next, inner)) p =
          goes rest next inner (stands s (other sort rest) e).0 (stands s (other sort rest) e).1 (λ n. by_other n stage inside s sort rest e next inner p)
      others sort rest e None p = unread (λ n. by_other_wrong n stage inside s sort rest e p)

      go : (t : Token) → first_token s ≡ t → Turn stage inside s
      go (address a rest) e = addressed a rest e (after_address stage inside) refl
      go (other sort rest) e = others sort rest e (after stage inside sort) refl
      go end e = by_test (may_end stage inside) (λ p. over (λ n. by_end n stage inside s true e p)) (λ p. unread (λ n. by_end n stage inside s false e p))
      go unreadable e = unread (λ n. by_unread n stage inside s e)

enough :
    (n m : ℕ) (stage : Stage) (inside : Bool) (s : List ℕ) → length s < n → length s < m
    → listed_by n stage inside s ≡ listed_by m stage inside s
enough zero m stage inside s h k = absurd (omega arith)
enough (suc n) zero stage inside s h k = absurd (omega arith)
enough (suc n) (suc m) stage inside s h k = go (λ next inner rest. enough n m next inner rest) (turn stage inside s)
  where
    go :
        ((next : Stage) (inner : Bool) (rest : List ℕ) → length rest < n → length rest < m → listed_by n next inner rest ≡ listed_by m next inner rest)
        → Turn stage inside s → listed_by (suc n) stage inside s ≡ listed_by (suc m) stage inside s
    go more (over e) = e n ∙ sym (e m)
    go more (unread e) = e n ∙ sym (e m)
    go more (hands a rest next inner l p g e) =
        let j : length rest < length s = shorter s a rest l p in
        e n ∙ ap (in_front a) (more next inner rest (omega arith) (omega arith)) ∙ sym (e m)
    go more (goes rest next inner l j e) = e n ∙ more next inner rest (omega arith) (omega arith) ∙ sym (e m)

-- what is left behind a token, counted anew
anew : (s rest : List ℕ) (next : Stage) (inner : Bool) → length rest < length s → listed_by (length s) next inner rest ≡ listed next inner rest
unfolding listed
anew s rest next inner l = enough (length s) (suc (length rest)) next inner rest l (omega arith)

module _ (stage : Stage) (inside : Bool) (s : List ℕ) where
  module _ (a rest : List ℕ) (e : first_token s ≡ address a rest) where
    pub listed_address :
        (next : Stage) (inner : Bool) → after_address stage inside ≡ Some (next, inner) → listed stage inside s ≡ in_front a (listed next inner rest)
    unfolding listed
    listed_address next inner p =
        by_address (length s) stage inside s a rest e next inner p
        ∙ ap (in_front a) (anew s rest next inner (shorter s a rest (stands s (address a rest) e).0 (stands s (address a rest) e).1))

    pub listed_address_wrong : after_address stage inside ≡ None → listed stage inside s ≡ None
    unfolding listed
    listed_address_wrong p = by_address_wrong (length s) stage inside s a rest e p

  module _ (sort : Sort) (rest : List ℕ) (e : first_token s ≡ other sort rest) where
    pub listed_other : (next : Stage) (inner : Bool) → after stage inside sort ≡ Some (next, inner) → listed stage inside s ≡ listed next inner rest
    unfolding listed
    listed_other next inner p =
        by_other (length s) stage inside s sort rest e next inner p ∙ anew s rest next inner (stands s (other sort rest) e).1

    pub listed_other_wrong : after stage inside sort ≡ None → listed stage inside s ≡ None
    unfolding listed
    listed_other_wrong p = by_other_wrong (length s) stage inside s sort rest e p

  pub listed_end : (b : Bool) → first_token s ≡ end → may_end stage inside ≡ b → listed stage inside s ≡ elim b [ true ↦ Some [] | false ↦ None ]
  unfolding listed
  listed_end b e p = by_end (length s) stage inside s b e p

  pub listed_unread : first_token s ≡ unreadable → listed stage inside s ≡ None
  unfolding listed
  listed_unread e = by_unread (length s) stage inside s e

-- a fact P on a place of the grammar, a list and what it gives from there on
module _ (P : Stage → List ℕ → Option (List (List ℕ)) → Type 0) (at_end : (stage : Stage) (s : List ℕ) → P stage s (Some []))
    (unreadably : (stage : Stage) (s : List ℕ) → P stage s None)
    (front :
    (stage next : Stage) (inside inner : Bool) (s a rest : List ℕ) (o : Option (List (List ℕ))) → after_address stage inside ≡ Some (next, inner)
    → Suffix (a ++ rest) s → plain a ≡ true → P next rest o → P stage s (in_front a o))
    (past : (stage next : Stage) (s rest : List ℕ) (o : Option (List (List ℕ))) → Suffix rest s → length rest < length s → P next rest o → P stage s o) where
  counted : (n : ℕ) (stage : Stage) (inside : Bool) (s : List ℕ) → P stage s (listed_by n stage inside s)
  unfolding listed_by
  counted zero stage inside s = unreadably stage s
  counted (suc n) stage inside s = go (λ next inner rest. counted n next inner rest) (turn stage inside s)
    where
      go :
          ((next : Stage) (inner : Bool) (rest : List ℕ) → P next rest (listed_by n next inner rest)) → Turn stage inside s
          → P stage s (listed_by (suc n) stage inside s)
      go more (over e) = rw (e n) (at_end stage s)
      go more (unread e) = rw (e n) (unreadably stage s)
      go more (hands a rest next inner l p g e) =
          rw (e n) (front stage next inside inner s a rest (listed_by n next inner rest) g l p (more next inner rest))
      go more (goes rest next inner l k e) = rw (e n) (past stage next s rest (listed_by n next inner rest) l k (more next inner rest))

  pub by_tokens : (s : List ℕ) → P Place s (addresses s)
  unfolding addresses listed
  by_tokens s = counted (suc (length s)) Place false s
