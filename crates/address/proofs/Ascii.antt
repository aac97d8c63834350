-- Addresses whose labels are ASCII: the rule for labels in any script, and the rule that asks for ASCII (`ascii_plain`).
--     plain_ascii            what is a plain address by the rule for ASCII is one
--     ascii_form             its form is that of its two sides
--     ascii_plain_lem        a text in ASCII is one by both rules, or by neither
--     ascii_canonical_lem    its canonical form is its lower case
--     is_canonical_ascii     what is canonical is told without Punycode, since the form of a label is ASCII
--     was_canonical_lem      and was so by the old rule (T16)
--     was_plain              what was canonical by that rule is a plain address
-- Assumes nothing.
use Prim.Native.Nat.{ℕ, ◌+◌, ◌<◌}
use mathlib.Core.Path.{◌≡◌, refl, sym, ap, ◌∙◌}
use mathlib.Core.Bool.{true, not, false≢true}
use mathlib.Core.List.{List, [], ◌∷◌, ◌++◌, map}
use native.Mathlib.Omega.{arith}
use borrow.Author.Tests.{le-leb, ne_eqb}
use lib.Dec.{ltb, eqb}
use lib.ListN.{length, length-append}
use Rattle.octets.specs.Octets.{lower, lowered}
use Rattle.octets.specs.Tests.{every}
use Rattle.octets.proofs.Comparing.{same_refl}
use Rattle.octets.proofs.Letters.{by_case, length_lowered}
use Rattle.octets.proofs.Tests.{by_test, and_left, and_right}
use Rattle.octets.proofs.Every.{every_weaker}
use Rattle.utf8.specs.Lowering.{lower_text}
use Rattle.utf8.specs.Steps.{all_ascii}
use Rattle.utf8.proofs.Alike.{alike_length}
use Rattle.utf8.proofs.Lowering.{alike_text}
use Rattle.pieces.specs.Pieces.{pieces, before, behind, from, joined}
use Rattle.pieces.proofs.Pieces.{pieces_every, behind_every, pieces_map, joined_pieces, before_from, before_free, sides_join, from_into}
use Rattle.asciiaddress.specs.Ascii.{ascii_label, ascii_domain, ascii_plain, was_canonical}
use Rattle.asciiaddress.specs.Answers.{lower_sides, ascii_canonical}
use Rattle.asciiaddress.proofs.Sides.{sides}
use Rattle.asciiaddress.proofs.Lowered.{sides_ascii}
use Rattle.asciiaddress.proofs.Before as was
use Rattle.asciiaddress.proofs.Before.{own_plain, own_same}
use Rattle.labels.specs.Labels.{label, labelled}
use Rattle.labels.proofs.Ascii.{own_ascii, label_ascii, ascii_label_lem, ascii_labelled}
use Rattle.address.specs.Address.{domain, domain_form, address_form, plain, canonical, is_canonical}
use Rattle.address.proofs.Spelling.{Owns, no_own, an_own, forms_own, forms_back, behind_form, short, left, right, canonical_form, canonical_plain, canonical_same}
use Rattle.address.proofs.Sides.{counted}

lowered_front : (x : ℕ) (s : List ℕ) → lowered (x ∷ s) ≡ lower x ∷ lowered s
unfolding lowered
lowered_front x s = refl

lower_dot : (x : ℕ) → eqb (lower x) 46 ≡ eqb x 46
lower_dot x =
    by_case (λ y. eqb y 46 ≡ eqb x 46) x (λ _. refl) (λ _. refl)
    (λ h k. ne_eqb (x + 32) 46 (omega arith) ∙ sym (ne_eqb x 46 (omega arith)))

-- a domain of labels in ASCII: its form is its lower case
labels_lowered : (ps : List (List ℕ)) → every ascii_label ps ≡ true → map labelled ps ≡ map lowered ps
unfolding every
labels_lowered [] e = refl
labels_lowered (p ∷ ps) e =
    rw (ascii_labelled p (and_left (ascii_label p) (every ascii_label ps) e), labels_lowered ps (and_right (ascii_label p) (every ascii_label ps) e))

module _ (d : List ℕ) (e : ascii_domain d ≡ true) where
  domain_lowered : domain_form d ≡ lowered d
  unfolding domain_form ascii_domain lowered
  domain_lowered =
      ap (joined 46) (labels_lowered (pieces 46 d) e ∙ sym (pieces_map lower 46 lower_dot d)) ∙ joined_pieces 46 (lowered d)

  domain_ascii : domain d ≡ true
  unfolding domain ascii_domain
  domain_ascii = every_weaker ascii_label label ascii_label_lem (pieces 46 d) e

-- what stands from the "@" on, where something stands behind it
from_behind : (s : List ℕ) → length (before 64 s) < length s → from 64 s ≡ 64 ∷ behind 64 s
unfolding from
from_behind s l =
    ap (from 64) (sides_join 64 s l)
    ∙ from_into (λ x. not (eqb x 64)) 64 refl (before 64 s) (64 ∷ behind 64 s) (before_free 64 s)

module _ (s : List ℕ) (e : ascii_domain (behind 64 s) ≡ true) where
  pub ascii_form : address_form s ≡ lower_sides s
  unfolding address_form lower_sides lower
  ascii_form =
      rw (domain_lowered (behind 64 s) e, from_behind s (omega (arith, counted s (domain_ascii (behind 64 s) e))))
      (ap (λ w. lower_text (before 64 s) ++ w) (sym (lowered_front 64 (behind 64 s))))

  sides_long : length (lower_sides s) ≡ length s
  unfolding lower_sides
  sides_long =
      simp length-append
      (omega (
        arith,
        alike_length (alike_text (before 64 s)),
        length_lowered (from 64 s),
        ap length (before_from 64 s),
        length-append (before 64 s) (from 64 s),
      ))

module _ (s : List ℕ) (p : ascii_plain s ≡ true) where
  pub plain_ascii : plain s ≡ true
  unfolding plain
  plain_ascii =
      let h = sides s p in
      rw (
        ascii_form s h.right,
        le-leb (length (lower_sides s)) 254 (omega (arith, sides_long s h.right, h.short)),
        h.left,
        domain_ascii (behind 64 s) h.right,
      )

-- the other way round, for a domain in ASCII
ascii_whole : (s : List ℕ) → plain s ≡ true → ascii_domain (behind 64 s) ≡ true → ascii_plain s ≡ true
unfolding ascii_plain
ascii_whole s p e =
    rw (le-leb (length s) 254 (omega (arith, short s p, ap length (ascii_form s e), sides_long s e)), left s p, e)

labels_ascii : (ps : List (List ℕ)) → every all_ascii ps ≡ true → every label ps ≡ every ascii_label ps
unfolding every
labels_ascii [] a = refl
labels_ascii (p ∷ ps) a =
    rw (label_ascii p (and_left (all_ascii p) (every all_ascii ps) a), labels_ascii ps (and_right (all_ascii p) (every all_ascii ps) a))

module _ (s : List ℕ) (a : all_ascii s ≡ true) where
  domain_both : domain (behind 64 s) ≡ ascii_domain (behind 64 s)
  unfolding domain ascii_domain
  domain_both =
      labels_ascii (pieces 46 (behind 64 s)) (pieces_every (λ x. ltb x 0x80) 46 (behind 64 s) (behind_every (λ x. ltb x 0x80) 64 s a))

  pub ascii_plain_lem : plain s ≡ ascii_plain s
  ascii_plain_lem =
      by_test (ascii_plain s)
      (λ h. plain_ascii s h ∙ sym h)
      (λ h.
      by_test (plain s)
      (λ p. absurd (false≢true (sym h ∙ ascii_whole s p (sym domain_both ∙ right s p))))
      (λ p. p ∙ sym h))

  pub ascii_canonical_lem : plain s ≡ true → canonical s ≡ lowered s
  ascii_canonical_lem p = canonical_form s p ∙ ascii_form s (sym domain_both ∙ right s p) ∙ sides_ascii s a

-- what is canonical has labels in ASCII
owns_ascii : {ws : List (List ℕ)} → Owns ws → every ascii_label ws ≡ true
unfolding every
owns_ascii no_own = refl
owns_ascii (an_own o r) = rw (own_ascii o) (owns_ascii r)

module _ (s : List ℕ) (c : is_canonical s ≡ true) where
  p : plain s ≡ true
  p = canonical_plain s c

  own : address_form s ≡ s
  own = sym (canonical_form s p) ∙ canonical_same s c

  own_domain : ascii_domain (behind 64 s) ≡ true
  unfolding ascii_domain
  own_domain =
      ap (λ d. every ascii_label (pieces 46 d)) (sym (sym (behind_form s) ∙ ap (behind 64) own))
      ∙ ap (every ascii_label) (forms_back (behind 64 s) (right s p))
      ∙ owns_ascii (forms_own (behind 64 s) (right s p))

  to_ascii : ascii_canonical s ≡ true
  unfolding ascii_canonical
  to_ascii = rw (ascii_whole s p own_domain, sym (ascii_form s own_domain) ∙ own) (same_refl s)

module _ (s : List ℕ) (c : ascii_canonical s ≡ true) where
  of_ascii : is_canonical s ≡ true
  unfolding is_canonical
  of_ascii =
      let h : plain s ≡ true = plain_ascii s (own_plain s c) in
      rw (h, canonical_form s h ∙ ascii_form s (sides s (own_plain s c)).right ∙ own_same s c) (same_refl s)

pub is_canonical_ascii : (s : List ℕ) → is_canonical s ≡ ascii_canonical s
is_canonical_ascii s =
    by_test (is_canonical s)
    (λ c. c ∙ sym (to_ascii s c))
    (λ c. by_test (ascii_canonical s) (λ o. absurd (false≢true (sym c ∙ of_ascii s o))) (λ o. c ∙ sym o))

pub was_canonical_lem : (s : List ℕ) → is_canonical s ≡ true → was_canonical s ≡ true
was_canonical_lem s c = was.was_canonical_lem s (to_ascii s c)

pub was_plain : (s : List ℕ) → was_canonical s ≡ true → plain s ≡ true
was_plain s w = plain_ascii s (was.was_plain s w)
