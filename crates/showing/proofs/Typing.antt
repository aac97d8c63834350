-- What is shown can be typed back (W12, C20). (`@` is 64, a dot 46.)
--     by_shown                        what is shown of a text: itself, or a label with this form
--     shown_long                      what is longer than a label is shown as it is
--     shown_label, shown_form         what is shown of the form of a label is a label, and has that form
--     shown_dotless, shown_atless     it has no dot, and no `@`
--     plain_displayed                 what is shown of a plain address is one
--     canonical_displayed             with the same canonical form
--     displayed_most                  so it has 1,016 octets at most
-- Assumes nothing.
use Prim.Native.Nat.{ℕ, ◌<◌, ◌≤◌}
use mathlib.Core.Path.{◌≡◌, refl, sym, ap, ◌∙◌}
use mathlib.Core.Bool.{true, false, not, ◌&&◌, false≢true}
use mathlib.Core.List.{List, ◌∷◌, ◌++◌, map, append-nil}
use Rattle.std.specs.Prelude.{Option, Some, None}
use native.Mathlib.Omega.{arith}
use borrow.Author.Tests.{le-leb, eqb-true}
use lib.Dec.{eqb}
use lib.ListN.{length, drop}
use Rattle.octets.specs.Octets.{starts_with}
use Rattle.octets.specs.Options.{or_else}
use Rattle.octets.specs.Tests.{every}
use Rattle.octets.proofs.Comparing.{same_true}
use Rattle.octets.proofs.Tests.{by_test, and_left, and_right}
use Rattle.octets.proofs.Every.{every_weaker}
use Rattle.utf8.specs.Utf8.{encoded}
use Rattle.utf8.specs.Lowering.{lower_text}
use Rattle.utf8.proofs.Lowering.{alike_text, text_twice}
use Rattle.punycode.specs.Punycode.{decode}
use Rattle.runs.specs.Runs.{belongs}
use Rattle.pieces.specs.Pieces.{pieces, before, behind, joined}
use Rattle.pieces.proofs.Pieces.{others, pieces_first, before_into, behind_into, pieces_joined}
use Rattle.asciiaddress.proofs.Alike.{local_alike}
use Rattle.asciiaddress.proofs.Lowered.{local_free}
use Rattle.labels.specs.Labels.{label_octet, opening, label_form, label, labelled}
use Rattle.labels.proofs.Forming.{Own, own_label, own_labelled, all_label, fit_most}
use Rattle.address.specs.Address.{domain, domain_form, address_form, plain, canonical}
use Rattle.address.proofs.Spelling.{Owns, no_own, an_own, forms_own, forms_back, before_form, behind_form, short, left, right, canonical_form}
use Rattle.address.proofs.Growing.{plain_long}
use Rattle.showing.specs.Showing.{same_form, shown_by, shown, displayed}

-- a form that is the same
same_form_lem : (w : List ℕ) (o : Option (List ℕ)) → same_form w o ≡ true → o ≡ Some w
unfolding same_form
same_form_lem w None e = absurd (false≢true e)
same_form_lem w (Some v) e = ap Some (same_true v w e)

module _ (P : List ℕ → Type 0) (w : List ℕ) (same : P w) (other : (t : List ℕ) → label t ≡ true → label_form t ≡ Some w → P t) where
  by_shown_by : (o : Option (List ℕ)) → P (shown_by w o)
  unfolding shown_by
  by_shown_by None = same
  by_shown_by (Some ps) =
      by_test (label (encoded ps) && same_form w (label_form (encoded ps)))
      (λ e.
      rw e
      (other (encoded ps) (and_left (label (encoded ps)) _ e)
      (same_form_lem w (label_form (encoded ps)) (and_right (label (encoded ps)) (same_form w (label_form (encoded ps))) e))))
      (λ e. rw e same)

  pub by_shown : P (shown w)
  unfolding shown
  by_shown = by_test (starts_with opening w) (λ e. rw e (by_shown_by (decode (drop (length opening) w)))) (λ e. rw e same)

pub shown_long : (w : List ℕ) → 63 < length w → shown w ≡ w
shown_long w l = by_shown (λ t. t ≡ w) w refl (λ t h e. absurd (omega (arith, fit_most t h w e)))

module _ (w : List ℕ) (o : Own w) where
  pub shown_label : label (shown w) ≡ true
  shown_label = by_shown (λ t. label t ≡ true) w (own_label w o) (λ t h e. h)

  pub shown_form : labelled (shown w) ≡ w
  unfolding labelled or_else
  shown_form = by_shown (λ t. labelled t ≡ w) w (own_labelled w o) (λ t h e. rw e)

-- an octet that is none of a label
label_free : (d : ℕ) → label_octet d ≡ false → (s : List ℕ) → label s ≡ true → every (λ x. not (eqb x d)) s ≡ true
label_free d out s h =
    every_weaker label_octet (λ x. not (eqb x d))
    (λ x e.
    by_test (eqb x d)
    (λ q. absurd (false≢true (sym out ∙ ap label_octet (sym (eqb-true x d q)) ∙ e)))
    (λ q. rw q))
    s (all_label s h)

label_dotless : (s : List ℕ) → label s ≡ true → every (λ x. not (eqb x 46)) s ≡ true
unfolding label_octet belongs
label_dotless = label_free 46 refl

module _ (w : List ℕ) (o : Own w) where
  pub shown_dotless : every (λ x. not (eqb x 46)) (shown w) ≡ true
  shown_dotless = label_dotless (shown w) (shown_label w o)

  pub shown_atless : every (λ x. not (eqb x 64)) (shown w) ≡ true
  unfolding label_octet belongs
  shown_atless = label_free 64 refl (shown w) (shown_label w o)

-- the labels of a domain as they are shown
all_label_shown : {ws : List (List ℕ)} → Owns ws → every label (map shown ws) ≡ true
unfolding every
all_label_shown no_own = refl
all_label_shown (an_own {w} o r) = rw (shown_label w o) (all_label_shown r)

all_form_shown : {ws : List (List ℕ)} → Owns ws → map labelled (map shown ws) ≡ ws
all_form_shown no_own = refl
all_form_shown (an_own {w} o r) = rw (shown_form w o, all_form_shown r)

-- a domain of such labels
module _ (w : List ℕ) (ws : List (List ℕ)) (o : Owns (w ∷ ws)) where
  abbrev whole : List ℕ
  whole = joined 46 (map shown (w ∷ ws))

  whole_pieces : pieces 46 whole ≡ map shown (w ∷ ws)
  whole_pieces =
      pieces_joined (λ x. not (eqb x 46)) 46 refl (shown w) (map shown ws)
      (every_weaker label (every (λ x. not (eqb x 46))) label_dotless (map shown (w ∷ ws)) (all_label_shown o))

  whole_domain : domain whole ≡ true
  unfolding domain
  whole_domain = rw whole_pieces (all_label_shown o)

  whole_form : domain_form whole ≡ joined 46 (w ∷ ws)
  unfolding domain_form
  whole_form = ap (λ ps. joined 46 (map labelled ps)) whole_pieces ∙ ap (joined 46) (all_form_shown o)

module _ (s : List ℕ) (p : plain s ≡ true) where
  abbrev d : List ℕ
  d = behind 64 s

  abbrev local : List ℕ
  local = lower_text (before 64 s)

  abbrev labels : List (List ℕ)
  labels = map shown (map labelled (pieces 46 d))

  own : Owns (labelled (before 46 d) ∷ map labelled (others 46 d))
  own = rw (pieces_first 46 d) at (forms_own d (right s p))

  shown_domain : domain (joined 46 labels) ≡ true
  shown_domain = rw (pieces_first 46 d) (whole_domain (labelled (before 46 d)) (map labelled (others 46 d)) own)

  shown_domain_form : domain_form (joined 46 labels) ≡ domain_form d
  unfolding domain_form
  shown_domain_form = rw (pieces_first 46 d) (whole_form (labelled (before 46 d)) (map labelled (others 46 d)) own)

  -- the two sides of what is shown
  both_sides : displayed s ≡ local ++ (64 ∷ joined 46 labels)
  unfolding displayed
  both_sides = rw (canonical_form s p, before_form s, behind_form s, forms_back d (right s p))

  shown_before : before 64 (displayed s) ≡ local
  unfolding before
  shown_before =
      ap (before 64) both_sides
      ∙ before_into (λ x. not (eqb x 64)) 64 refl local (64 ∷ joined 46 labels) (local_free s)
      ∙ append-nil local

  shown_behind : behind 64 (displayed s) ≡ joined 46 labels
  unfolding behind
  shown_behind =
      ap (behind 64) both_sides ∙ behind_into (λ x. not (eqb x 64)) 64 refl local (64 ∷ joined 46 labels) (local_free s)

  its_form : address_form (displayed s) ≡ address_form s
  unfolding address_form
  its_form = rw (shown_before, shown_behind, shown_domain_form, text_twice (before 64 s))

  pub plain_displayed : plain (displayed s) ≡ true
  unfolding plain
  plain_displayed =
      rw (
        its_form,
        le-leb (length (address_form s)) 254 (short s p),
        shown_before,
        shown_behind,
        local_alike (alike_text (before 64 s)),
        left s p,
      ) shown_domain

  pub canonical_displayed : canonical (displayed s) ≡ canonical s
  canonical_displayed = canonical_form (displayed s) plain_displayed ∙ its_form ∙ sym (canonical_form s p)

  pub displayed_most : length (displayed s) ≤ 1016
  displayed_most = plain_long (displayed s) plain_displayed
