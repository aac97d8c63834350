-- What holds of every readable list.
--     plain_alone              a plain address is a list of that one address
--     readable_at, readable_octets    its addresses are plain, and octets where the list is of octets
--     counted_some, counted_none      what a count says
--     only_plain, only_octets         the one address of a list that has no other is plain, and octets
-- Assumes nothing.
use Prim.Native.Nat.{ℕ, zero, suc, ◌<◌, ◌≤◌}
use mathlib.Core.Path.{◌≡◌, refl, sym, ap, ◌∙◌}
use mathlib.Core.Logic.{⊎_elim}
use mathlib.Core.Bool.{true, false, false≢true}
use mathlib.Core.List.{List, [], ◌∷◌, ◌++◌}
use Rattle.std.specs.Prelude.{Option, Some, None}
use native.Mathlib.Omega.{arith}
use borrow.Author.Tests.{ne_eqb}
use lib.ListN.{length, get_or}
use lib.Seq.{take-length, drop-length, take-append_seam, drop-append_seam}
use Rattle.octets.specs.Octets.{AllOctets, blank}
use Rattle.octets.specs.Options.{in_front, only_one, or_else, IfSome, Each}
use Rattle.octets.proofs.Lists.{lt_or_le, drop_octets, take_octets}
use Rattle.octets.proofs.Options.{only_listed, each_front}
use Rattle.octets.specs.Tests.{every}
use Rattle.octets.proofs.Tests.{and_left, and_right}
use Rattle.runs.specs.Runs.{belongs, run}
use Rattle.tokens.specs.Tokens.{past}
use Rattle.tokens.proofs.Places.{Suffix, whole, behind}
use Rattle.tokens.proofs.Skipping.{stays}
use Rattle.address.specs.Address.{address_octet, plain}
use Rattle.address.proofs.Sides.{plain_least, plain_octets, plain_at, low_apart}
use Rattle.grammar.specs.Grammar.{after_address}
use Rattle.addresslist.specs.List.{address, run_token, token_at, first_token, addresses}
use Rattle.addresslist.specs.Answers.{counted_of}
use Rattle.grammar.specs.declared.Stage.{Stage}
use Rattle.grammar.specs.declared.Stage.TheVariants.{Place, Behind}
use Rattle.addresslist.proofs.Telling.{opens_run}
use Rattle.addresslist.proofs.Listing.{by_tokens, listed_address, listed_end}

suffix_octets : {r s : List ℕ} → Suffix r s → AllOctets s → AllOctets r
suffix_octets whole o = o
suffix_octets (behind x h) o = suffix_octets h (λ i. o (suc i))

front_octets : (a rest : List ℕ) → AllOctets (a ++ rest) → AllOctets a
front_octets a rest o = rw (take-append_seam a rest) at (take_octets (length a) (a ++ rest) o)

rest_octets : (a rest : List ℕ) → AllOctets (a ++ rest) → AllOctets rest
rest_octets a rest o = rw (drop-append_seam a rest) at (drop_octets (length a) (a ++ rest) o)

-- a run that is the whole text
run_whole : (s : List ℕ) → every address_octet s ≡ true → run address_octet s ≡ length s
unfolding run every
run_whole [] e = refl
run_whole (x ∷ s) e =
    let o : address_octet x ≡ true = and_left (address_octet x) (every address_octet s) e in
    rw (run, o) (ap suc (run_whole s (and_right (address_octet x) (every address_octet s) e)))

not_blank : (x : ℕ) → address_octet x ≡ true → blank x ≡ false
unfolding blank
not_blank x o =
    let high : 33 ≤ x =
    ⊎_elim (λ (l : x < 33). absurd (false≢true (sym (low_apart x l) ∙ o))) (λ (l : 33 ≤ x). l) (lt_or_le x 33)
    in
    rw (ne_eqb x 32 (λ e. omega arith), ne_eqb x 9 (λ e. omega arith))

opens_none : (x : ℕ) → address_octet x ≡ true → x ≡ 40 → ⊥
unfolding belongs
opens_none x o e = false≢true (rw e at o)

run_plain : (a : List ℕ) → plain a ≡ true → run_token a ≡ address a []
unfolding run_token
run_plain a p =
    let n : run address_octet a ≡ length a = run_whole a (plain_octets a p) in
    rw (run_token, n, take-length a, p, n, take-length a, drop-length a)

first_plain : (a : List ℕ) → plain a ≡ true → first_token a ≡ address a []
unfolding first_token token_at
first_plain [] p = absurd (omega (arith, plain_least [] p))
first_plain (x ∷ s) p =
    let o : address_octet x ≡ true = plain_at (x ∷ s) p 0 (omega arith) in
    rw (first_token, stays x s (not_blank x o) (opens_none x o), token_at, sym (opens_run x true (sym o) refl)) (run_plain (x ∷ s) p)

pub plain_alone : (a : List ℕ) → plain a ≡ true → addresses a ≡ Some (a ∷ [])
unfolding addresses after_address in_front first_token past token_at
plain_alone a p =
    listed_address Place false a a [] (first_plain a p) Behind false refl
    ∙ ap (in_front a) (listed_end Behind false [] true refl refl)

abbrev EachPlain : List (List ℕ) → Type 0
EachPlain list = every plain list ≡ true

each_plain : (list : List (List ℕ)) → every plain list ≡ true → (i : ℕ) → i < length list → plain (get_or list i []) ≡ true
unfolding every
each_plain [] e i l = absurd (omega arith)
each_plain (a ∷ list) e zero l = and_left (plain a) (every plain list) e
each_plain (a ∷ list) e (suc i) l = each_plain list (and_right (plain a) (every plain list) e) i (omega arith)

plain_front : (a : List ℕ) (o : Option (List (List ℕ))) → plain a ≡ true → IfSome EachPlain o → IfSome EachPlain (in_front a o)
unfolding in_front every
plain_front a None p h = tt
plain_front a (Some list) p h = rw p h

module _ (s : List ℕ) (list : List (List ℕ)) (e : addresses s ≡ Some list) where
  readable_plain : every plain list ≡ true
  unfolding every
  readable_plain =
      rw e at
      (by_tokens (λ (stage : Stage) (t : List ℕ) (o : Option (List (List ℕ))). IfSome EachPlain o) (λ stage t. refl) (λ stage t. tt)
      (λ stage next inside inner t a rest o g l p h. plain_front a o p h) (λ stage next t rest o l k h. h) s)

  pub readable_at : (i : ℕ) → i < length list → plain (get_or list i []) ≡ true
  readable_at i l = each_plain list readable_plain i l

  pub readable_octets : AllOctets s → Each AllOctets list
  unfolding Each
  readable_octets o =
      rw e at
      (by_tokens (λ (stage : Stage) (t : List ℕ) (found : Option (List (List ℕ))). AllOctets t → IfSome (Each AllOctets) found) (λ stage t q. tt)
      (λ stage t q. tt)
      (λ stage next inside inner t a rest found g l p h q.
      let both : AllOctets (a ++ rest) = suffix_octets l q in
      each_front AllOctets a found (front_octets a rest both) (h (rest_octets a rest both)))
      (λ stage next t rest found l k h q. h (suffix_octets l q)) s) o

-- what a count says
pub counted_some : (o : Option (List (List ℕ))) (n : ℕ) → Some n ≡ counted_of o → (list : List (List ℕ)) × ((o ≡ Some list) × (n ≡ length list))
unfolding counted_of
counted_some None n e = let z : ◌≡◌ {A = ℕ} 0 1 = cc in absurd (omega arith)
counted_some (Some list) n e = (list, (refl, cc))

pub counted_none : (o : Option (List (List ℕ))) → None ≡ counted_of o → o ≡ None
unfolding counted_of
counted_none None e = refl
counted_none (Some list) e = cc

-- the one address of a list that has no other
module _ (s a : List ℕ) (e : Some a ≡ only_one (or_else [] (addresses s))) where
  pub only_plain : plain a ≡ true
  only_plain = readable_at s (a ∷ []) (only_listed (addresses s) a (sym e)) 0 (omega arith)

  pub only_octets : AllOctets s → AllOctets a
  unfolding Each
  only_octets o = (readable_octets s (a ∷ []) (only_listed (addresses s) a (sym e)) o).0
