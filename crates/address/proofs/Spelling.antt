-- The canonical form, as callers ask for it.
--     Owns                                 forms of labels
--     forms_own, forms_back                the forms of a domain's labels are such, and its pieces
--     before_form, behind_form, from_form  the two sides of a form
--     short, left, right                   what a plain address is
--     form_twice, plain_form               its form is a plain address, and its own form
--     canonical_form, not_plain            the canonical form of a plain address, and of another text
--     canonical_octets                     octets stay octets
--     canonical_twice                      it is its own canonical form
--     plain_canonical                      that of a plain address is a plain address
--     plain_is_canonical                   and is canonical
--     canonical_plain                      what is canonical is a plain address
--     canonical_same                       and its own canonical form
--     canonical_most                       the form of a plain address is within the limit of L6
--     own_most                             so is what is canonical
-- Assumes nothing.
use Prim.Native.Nat.{ℕ, suc, ◌≤◌}
use mathlib.Core.Path.{◌≡◌, refl, ap, ◌∙◌}
use mathlib.Core.Bool.{true, false, not, ◌&&◌}
use mathlib.Core.List.{List, [], ◌∷◌, ◌++◌, map, append-nil}
use native.Mathlib.Omega.{arith}
use borrow.Author.Tests.{leb-true, le-leb}
use lib.Dec.{leb, eqb}
use lib.ListN.{length}
use Rattle.octets.specs.Octets.{AllOctets, same_octets}
use Rattle.octets.specs.Tests.{every}
use Rattle.octets.proofs.Joined.{more_octets, append_octets}
use Rattle.octets.proofs.Tests.{by_test, and_left, and_right}
use Rattle.octets.proofs.Comparing.{same_refl, same_true}
use Rattle.utf8.specs.Lowering.{lower_text}
use Rattle.utf8.proofs.Alike.{alike_at, near_octet}
use Rattle.utf8.proofs.Lowering.{alike_text, text_twice}
use Rattle.pieces.specs.Pieces.{pieces, before, behind, from, following, joined}
use Rattle.pieces.proofs.Pieces.{pieces_first, pieces_joined, before_into, behind_into, from_into}
use Rattle.asciiaddress.specs.Ascii.{local_part}
use Rattle.asciiaddress.proofs.Alike.{local_alike}
use Rattle.asciiaddress.proofs.Lowered.{local_free}
use Rattle.labels.specs.Labels.{label, labelled}
use Rattle.labels.proofs.Forming.{form_octet, form_low, form_free, Own, own_labelled, own_label, label_own}
use Rattle.address.specs.Address.{domain, domain_form, address_form, plain, canonical, is_canonical}

pub data Owns : List (List ℕ) → Type 0 where
  no_own : Owns []
  an_own : {w : List ℕ} {ws : List (List ℕ)} → Own w → Owns ws → Owns (w ∷ ws)

labels_own : (ps : List (List ℕ)) → every label ps ≡ true → Owns (map labelled ps)
unfolding every
labels_own [] e = no_own
labels_own (p ∷ ps) e = an_own (label_own p (and_left (label p) (every label ps) e)) (labels_own ps (and_right (label p) (every label ps) e))

owns_label : {ws : List (List ℕ)} → Owns ws → every label ws ≡ true
unfolding every
owns_label no_own = refl
owns_label (an_own {w} o r) = rw (own_label w o) (owns_label r)

owns_labelled : {ws : List (List ℕ)} → Owns ws → map labelled ws ≡ ws
owns_labelled no_own = refl
owns_labelled (an_own {w} o r) = rw (own_labelled w o, owns_labelled r)

owns_free : {ws : List (List ℕ)} → Owns ws → every (every (λ x. not (eqb x 46))) ws ≡ true
unfolding every
owns_free no_own = refl
owns_free (an_own {w} o r) = rw (form_free w o.octets) (owns_free r)

-- forms with dots between them are cut into these forms again
own_pieces : (w : List ℕ) (ws : List (List ℕ)) → Owns (w ∷ ws) → pieces 46 (joined 46 (w ∷ ws)) ≡ w ∷ ws
own_pieces w ws o = pieces_joined (λ x. not (eqb x 46)) 46 refl w ws (owns_free o)

module _ (d : List ℕ) (e : domain d ≡ true) where
  pub forms_own : Owns (map labelled (pieces 46 d))
  unfolding domain
  forms_own = labels_own (pieces 46 d) e

  pub forms_back : pieces 46 (domain_form d) ≡ map labelled (pieces 46 d)
  unfolding domain_form
  forms_back = rw (pieces_first 46 d) (own_pieces _ _ (rw (pieces_first 46 d) at forms_own))

  domain_form_lem : domain (domain_form d) ≡ true
  unfolding domain
  domain_form_lem = rw forms_back (owns_label forms_own)

  domain_twice : domain_form (domain_form d) ≡ domain_form d
  unfolding domain_form
  domain_twice = ap (λ ws. joined 46 (map labelled ws)) forms_back ∙ ap (joined 46) (owns_labelled forms_own)

module _ (s : List ℕ) where
  pub before_form : before 64 (address_form s) ≡ lower_text (before 64 s)
  unfolding address_form before
  before_form =
      before_into (λ x. not (eqb x 64)) 64 refl (lower_text (before 64 s)) (64 ∷ domain_form (behind 64 s)) (local_free s) ∙ append-nil _

  pub behind_form : behind 64 (address_form s) ≡ domain_form (behind 64 s)
  unfolding address_form behind
  behind_form =
      behind_into (λ x. not (eqb x 64)) 64 refl (lower_text (before 64 s)) (64 ∷ domain_form (behind 64 s)) (local_free s)

  pub from_form : from 64 (address_form s) ≡ 64 ∷ domain_form (behind 64 s)
  unfolding address_form from
  from_form = from_into (λ x. not (eqb x 64)) 64 refl (lower_text (before 64 s)) (64 ∷ domain_form (behind 64 s)) (local_free s)

  pub not_plain : plain s ≡ false → canonical s ≡ s
  unfolding canonical
  not_plain e = rw e

  module _ (p : plain s ≡ true) where
    both : (leb (length (address_form s)) 254 && local_part (before 64 s)) ≡ true
    unfolding plain
    both = and_left _ (domain (behind 64 s)) p

    pub short : length (address_form s) ≤ 254
    short = leb-true (length (address_form s)) 254 (and_left (leb (length (address_form s)) 254) _ both)

    pub left : local_part (before 64 s) ≡ true
    left = and_right (leb (length (address_form s)) 254) _ both

    pub right : domain (behind 64 s) ≡ true
    unfolding plain
    right = and_right (leb (length (address_form s)) 254 && local_part (before 64 s)) _ p

    pub form_twice : address_form (address_form s) ≡ address_form s
    unfolding address_form
    form_twice =
        ap (λ w. lower_text w ++ (64 ∷ domain_form (behind 64 (address_form s)))) before_form
        ∙ ap (λ w. lower_text (lower_text (before 64 s)) ++ (64 ∷ domain_form w)) behind_form
        ∙ rw (text_twice (before 64 s), domain_twice (behind 64 s) right)

    pub plain_form : plain (address_form s) ≡ true
    unfolding plain
    plain_form =
        rw (
          form_twice,
          le-leb (length (address_form s)) 254 short,
          before_form,
          behind_form,
          local_alike (alike_text (before 64 s)),
          left,
        ) (domain_form_lem (behind 64 s) right)

    pub canonical_form : canonical s ≡ address_form s
    unfolding canonical
    canonical_form = rw p

    pub plain_canonical : plain (canonical s) ≡ true
    plain_canonical = rw canonical_form plain_form

    pub canonical_most : length (canonical s) ≤ 254
    canonical_most = rw canonical_form short

pub canonical_twice : (s : List ℕ) → canonical (canonical s) ≡ canonical s
canonical_twice s =
    by_test (plain s)
    (λ p. rw (canonical_form s p) (canonical_form (address_form s) (plain_form s p) ∙ form_twice s p))
    (λ p. ap canonical (not_plain s p))

-- octets stay octets
form_octets : (w : List ℕ) → every form_octet w ≡ true → AllOctets w
unfolding every
form_octets [] e = λ i. omega arith
form_octets (x ∷ w) e =
    more_octets x w (omega (arith, form_low x (and_left (form_octet x) (every form_octet w) e)))
    (form_octets w (and_right (form_octet x) (every form_octet w) e))

following_octets : {ws : List (List ℕ)} → Owns ws → AllOctets (following 46 ws)
unfolding following
following_octets no_own = λ i. omega arith
following_octets (an_own {w} {ws} o r) =
    more_octets 46 (w ++ following 46 ws) (omega arith) (append_octets w (following 46 ws) (form_octets w o.octets) (following_octets r))

joined_octets : {ws : List (List ℕ)} → Owns ws → AllOctets (joined 46 ws)
unfolding joined
joined_octets no_own = λ i. omega arith
joined_octets (an_own {w} {ws} o r) = append_octets w (following 46 ws) (form_octets w o.octets) (following_octets r)

before_octets : (s : List ℕ) → AllOctets s → AllOctets (before 64 s)
unfolding before
before_octets [] h = h
before_octets (x ∷ s) h =
    by_test (eqb x 64)
    (λ e. rw (before, e) (λ i. omega arith))
    (λ e. rw (before, e) (more_octets x (before 64 s) (h 0) (before_octets s (λ i. h (suc i)))))

module _ (s : List ℕ) (h : AllOctets s) (e : domain (behind 64 s) ≡ true) where
  local_octets : AllOctets (lower_text (before 64 s))
  local_octets i = near_octet (alike_at (alike_text (before 64 s)) i) (before_octets s h i)

  domain_octets : AllOctets (domain_form (behind 64 s))
  unfolding domain_form
  domain_octets = joined_octets (forms_own (behind 64 s) e)

  address_octets : AllOctets (address_form s)
  unfolding address_form
  address_octets =
      append_octets (lower_text (before 64 s)) (64 ∷ domain_form (behind 64 s)) local_octets
      (more_octets 64 (domain_form (behind 64 s)) (omega arith) domain_octets)

pub canonical_octets : (s : List ℕ) → AllOctets s → AllOctets (canonical s)
canonical_octets s h =
    by_test (plain s)
    (λ p. rw (canonical_form s p) (address_octets s h (right s p)))
    (λ p. rw (not_plain s p) h)

pub plain_is_canonical : (s : List ℕ) → plain s ≡ true → is_canonical (canonical s) ≡ true
unfolding is_canonical
plain_is_canonical s p = rw (plain_canonical s p, canonical_twice s) (same_refl (canonical s))

module _ (s : List ℕ) (c : is_canonical s ≡ true) where
  pub canonical_plain : plain s ≡ true
  unfolding is_canonical
  canonical_plain = and_left (plain s) (same_octets (canonical s) s) c

  pub canonical_same : canonical s ≡ s
  unfolding is_canonical
  canonical_same = same_true (canonical s) s (and_right (plain s) (same_octets (canonical s) s) c)

  pub own_most : length s ≤ 254
  own_most = rw canonical_same at (canonical_most s canonical_plain)
