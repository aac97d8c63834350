-- The form of a label: it is a label, and its own form.
--     form_octet                       what octets a form has
--     forms_ascii, forms_lowered       so it is ASCII, in lower case
--     form_free                        and has no dot
--     Own w                            a text of such octets, with a label's length and ends
--     own_form, own_labelled, own_label    it is a label, and its own form
--     is_some .. is_fit                what a label is
--     form_ascii, form_coded, coded_as     its form
--     label_own                        the form of a label is such a text
--     label_of_lem, of_label           and what `label_of` gives
-- Assumes nothing.
use Prim.Native.Nat.{ℕ, ◌+◌, ◌-◌, ◌<◌, ◌≤◌}
use mathlib.Core.Path.{◌≡◌, refl, sym, ap, ◌∙◌}
use mathlib.Core.Bool.{Bool, true, false, not, ◌&&◌, ◌||◌, false≢true}
use mathlib.Core.List.{List, [], ◌∷◌, ◌++◌}
use Rattle.std.specs.Prelude.{Some, None}
use mathlib.Core.Logic.{⊎_elim}
use native.Mathlib.Omega.{arith}
use borrow.Author.Tests.{leb-true, eqb-true, ltb-true, le-leb, lt-leb, lt-ltb, ne_eqb}
use lib.Dec.{leb, ltb, eqb}
use lib.ListN.{length, get_or}
use Rattle.octets.specs.Octets.{octet, lower, lowered}
use Rattle.octets.specs.Options.{or_else}
use Rattle.octets.specs.Tests.{every}
use Rattle.octets.proofs.Lists.{lt_or_le}
use Rattle.octets.proofs.Letters.{by_case, length_lowered, get_d_lowered}
use Rattle.octets.proofs.Options.{by_option}
use Rattle.octets.proofs.Tests.{by_test, and_left, and_right, all_below, all_below_lem}
use Rattle.octets.proofs.Every.{every_append, every_weaker}
use Rattle.utf8.specs.Utf8.{points, encoded_one, encoded}
use Rattle.utf8.specs.Lowering.{lower_point, lower_points}
use Rattle.utf8.specs.Steps.{all_ascii}
use Rattle.utf8.proofs.Back.{encoded_points}
use Rattle.utf8.proofs.Mapping.{point_low, point_past}
use Rattle.punycode.specs.Punycode.{digit, below, encode}
use Rattle.punycode.proofs.Below.{below_yes, below_no, below_at_most}
use Rattle.punycode.proofs.Coded.{every_encode, encode_ends}
use Rattle.runs.specs.Runs.{belongs}
use Rattle.asciiaddress.specs.Ascii.{free_ends}
use Rattle.labels.specs.Answers.{label_of}
use Rattle.labels.specs.Labels.{label_octet, opening, coded, label_form, fits, label, labelled}

-- a small letter, a digit or a hyphen
unfoldable pub form_octet : ℕ → Bool
form_octet x = (leb (octet "a") x && leb x (octet "z")) || (leb (octet "0") x && leb x (octet "9")) || eqb x (octet "-")

-- what follows from a test, computed at every octet below 128
implied : (a b : Bool) → (not a || b) ≡ true → a ≡ true → b ≡ true
implied true b e p = e
implied false b e p = absurd (false≢true p)

pub at_octets : (a b : ℕ → Bool) → all_below (λ x. not (a x) || b x) 128 ≡ true → (x : ℕ) → x < 128 → a x ≡ true → b x ≡ true
at_octets a b e x l p = implied (a x) (b x) (all_below_lem (λ x. not (a x) || b x) 128 e x l) p

pub form_low : (x : ℕ) → form_octet x ≡ true → x < 128
unfolding form_octet
form_low x e =
    ⊎_elim
    (λ (l : x < 128). l)
    (λ (l : 128 ≤ x).
    absurd
    (false≢true
    (sym
    (rw (le-leb 97 x (omega arith), lt-leb x 122 (omega arith), le-leb 48 x (omega arith), lt-leb x 57 (omega arith))
    (ne_eqb x 45 (omega arith)))
    ∙ e)))
    (lt_or_le x 128)

form_small : (x : ℕ) → form_octet x ≡ true → lower x ≡ x
unfolding form_octet lower
form_small x e = eqb-true (lower x) x (at_octets form_octet (λ x. eqb (lower x) x) refl x (form_low x e) e)

form_label : (x : ℕ) → form_octet x ≡ true → label_octet x ≡ true
unfolding form_octet label_octet belongs
form_label x e = at_octets form_octet label_octet refl x (form_low x e) e

form_dot : (x : ℕ) → form_octet x ≡ true → not (eqb x 46) ≡ true
unfolding form_octet
form_dot x e = at_octets form_octet (λ x. not (eqb x 46)) refl x (form_low x e) e

label_lower : (x : ℕ) → x < 128 → label_octet x ≡ true → form_octet (lower x) ≡ true
unfolding form_octet label_octet belongs lower
label_lower = at_octets label_octet (λ x. form_octet (lower x)) refl

label_point : (x : ℕ) → x < 128 → label_octet x ≡ true → form_octet (lower_point x) ≡ true
unfolding form_octet label_octet belongs lower_point
label_point = at_octets label_octet (λ x. form_octet (lower_point x)) refl

digit_form : (v : ℕ) → v < 36 → form_octet (digit v) ≡ true
unfolding form_octet digit
digit_form = all_below_lem (λ v. form_octet (digit v)) 36 refl

digit_last : (v : ℕ) → v < 36 → not (eqb (digit v) 45) ≡ true
unfolding digit
digit_last = all_below_lem (λ v. not (eqb (digit v) 45)) 36 refl

lower_hyphen : (x : ℕ) → eqb (lower x) 45 ≡ eqb x 45
lower_hyphen x =
    by_case (λ y. eqb y 45 ≡ eqb x 45) x (λ _. refl) (λ _. refl)
    (λ h k. ne_eqb (x + 32) 45 (omega arith) ∙ sym (ne_eqb x 45 (omega arith)))

module _ (w : List ℕ) (e : every form_octet w ≡ true) where
  pub forms_ascii : all_ascii w ≡ true
  forms_ascii = every_weaker form_octet (λ x. ltb x 0x80) (λ x h. lt-ltb x 128 (form_low x h)) w e

  pub form_free : every (λ x. not (eqb x 46)) w ≡ true
  form_free = every_weaker form_octet (λ x. not (eqb x 46)) form_dot w e

pub forms_lowered : (w : List ℕ) → every form_octet w ≡ true → lowered w ≡ w
unfolding every lowered
forms_lowered [] e = refl
forms_lowered (x ∷ w) e = rw (form_small x (and_left (form_octet x) (every form_octet w) e), forms_lowered w (and_right (form_octet x) (every form_octet w) e))

pub record Own (w : List ℕ) : Type 0 where
  pub octets : every form_octet w ≡ true
  pub ends : free_ends w ≡ true
  pub filled : 1 ≤ length w
  pub short : length w ≤ 63

module _ (w : List ℕ) (o : Own w) where
  pub own_form : label_form w ≡ Some w
  unfolding label_form
  own_form = rw (forms_ascii w o.octets, forms_lowered w o.octets)

  pub own_labelled : labelled w ≡ w
  unfolding labelled or_else
  own_labelled = rw own_form

  pub own_label : label w ≡ true
  unfolding label fits
  own_label =
      rw (
        le-leb 1 (length w) o.filled,
        every_weaker form_octet label_octet form_label w o.octets,
        o.ends,
        own_form,
        le-leb (length w) 63 o.short,
      )

-- a label in ASCII
ascii_octets : (s : List ℕ) → all_ascii s ≡ true → every label_octet s ≡ true → every form_octet (lowered s) ≡ true
unfolding every lowered
ascii_octets [] a e = refl
ascii_octets (x ∷ s) a e =
    rw (label_lower x (ltb-true x 128 (and_left (ltb x 128) (all_ascii s) a)) (and_left (label_octet x) (every label_octet s) e))
    (ascii_octets s (and_right (ltb x 128) (all_ascii s) a) (and_right (label_octet x) (every label_octet s) e))

ascii_ends : (s : List ℕ) → free_ends s ≡ true → free_ends (lowered s) ≡ true
unfolding free_ends
ascii_ends s e =
    rw (
      length_lowered s,
      get_d_lowered s 0,
      get_d_lowered s (length s - 1),
      lower_hyphen (get_or s 0 0),
      lower_hyphen (get_or s (length s - 1) 0),
    ) e

-- a label with other octets: those of its code points that are ASCII, and that there are others
point_one : (p : ℕ) → p < 128 → encoded_one p ≡ p ∷ []
unfolding encoded_one
point_one p l = rw (lt-ltb p 128 l)

basics : (ps : List ℕ) → every label_octet (encoded ps) ≡ true → every form_octet (below 128 (lower_points ps)) ≡ true
unfolding encoded lower_points below every
basics [] e = refl
basics (p ∷ ps) e =
    let t : (every label_octet (encoded_one p) && every label_octet (encoded ps)) ≡ true = sym (every_append label_octet (encoded_one p) (encoded ps)) ∙ e in
    let ih : every form_octet (below 128 (lower_points ps)) ≡ true = basics ps (and_right (every label_octet (encoded_one p)) _ t) in
    ⊎_elim
    (λ (l : p < 128).
    let k : every label_octet (p ∷ []) ≡ true = rw (point_one p l) at (and_left (every label_octet (encoded_one p)) _ t) in
    rw (below_yes 128 (lower_point p) (lower_points ps) (point_low p l)) (rw (label_point p l (and_left (label_octet p) _ k)) ih))
    (λ (l : 128 ≤ p). rw (below_no 128 (lower_point p) (lower_points ps) (point_past p l)) ih)
    (lt_or_le p 128)

fewer : (ps : List ℕ) → all_ascii (encoded ps) ≡ false → length (below 128 (lower_points ps)) < length (lower_points ps)
unfolding encoded lower_points below every
fewer [] e = absurd (false≢true (sym e))
fewer (p ∷ ps) e =
    ⊎_elim
    (λ (l : p < 128).
    let k : all_ascii (p ∷ encoded ps) ≡ false = rw (point_one p l) at e in
    let m : all_ascii (encoded ps) ≡ false = rw (lt-ltb p 128 l) at k in
    rw (below_yes 128 (lower_point p) (lower_points ps) (point_low p l)) (omega (arith, fewer ps m)))
    (λ (l : 128 ≤ p). rw (below_no 128 (lower_point p) (lower_points ps) (point_past p l)) (omega (arith, below_at_most 128 (lower_points ps))))
    (lt_or_le p 128)

module _ (ps : List ℕ) (e : every label_octet (encoded ps) ≡ true) (a : all_ascii (encoded ps) ≡ false) where
  coded_own : length (opening ++ encode (lower_points ps)) ≤ 63 → Own (opening ++ encode (lower_points ps))
  unfolding every form_octet free_ends
  coded_own l =
      record {
        octets = every_encode form_octet digit_form (lower_points ps) refl (basics ps e);
        ends = encode_ends (λ x. not (eqb x 45)) digit_last (lower_points ps) opening (fewer ps a);
        filled = omega arith;
        short = l;
      }

module _ (s : List ℕ) where
  pub form_ascii : all_ascii s ≡ true → label_form s ≡ Some (lowered s)
  unfolding label_form
  form_ascii a = rw a

  module _ (a : all_ascii s ≡ false) where
    pub form_coded : label_form s ≡ coded (points s)
    unfolding label_form
    form_coded = rw a

    pub coded_as : (ps : List ℕ) → points s ≡ Some ps → label_form s ≡ Some (opening ++ encode (lower_points ps))
    unfolding coded
    coded_as ps e = form_coded ∙ ap coded e

    coded_none : points s ≡ None → label_form s ≡ None
    unfolding coded
    coded_none e = form_coded ∙ ap coded e

  module _ (h : label s ≡ true) where
    three : (leb 1 (length s) && every label_octet s && free_ends s) ≡ true
    unfolding label
    three = and_left (leb 1 (length s) && every label_octet s && free_ends s) (fits (label_form s)) h

    two : (leb 1 (length s) && every label_octet s) ≡ true
    two = and_left (leb 1 (length s) && every label_octet s) (free_ends s) three

    pub is_some : 1 ≤ length s
    is_some = leb-true 1 (length s) (and_left (leb 1 (length s)) (every label_octet s) two)

    pub all_label : every label_octet s ≡ true
    all_label = and_right (leb 1 (length s)) (every label_octet s) two

    pub is_free : free_ends s ≡ true
    is_free = and_right (leb 1 (length s) && every label_octet s) (free_ends s) three

    pub is_fit : fits (label_form s) ≡ true
    unfolding label
    is_fit = and_right (leb 1 (length s) && every label_octet s && free_ends s) (fits (label_form s)) h

    pub fit_most : (w : List ℕ) → label_form s ≡ Some w → length w ≤ 63
    unfolding fits
    fit_most w e = leb-true (length w) 63 (rw e at is_fit)

    -- a label that is not ASCII has code points
    pub label_points : {P : Type 0} → all_ascii s ≡ false → ((ps : List ℕ) → points s ≡ Some ps → P) → P
    unfolding fits
    label_points a go =
        by_option (points s) (λ e. absurd (false≢true (rw (coded_none a e) at is_fit))) (λ ps e. go ps e)

    labelled_own : (w : List ℕ) → label_form s ≡ Some w → Own w → Own (labelled s)
    unfolding labelled or_else
    labelled_own w e o = rw e o

    pub label_own : Own (labelled s)
    label_own =
        by_test (all_ascii s)
        (λ a.
        let f = form_ascii a in
        labelled_own (lowered s) f
        (record {
          octets = ascii_octets s a all_label;
          ends = ascii_ends s is_free;
          filled = rw length_lowered is_some;
          short = fit_most (lowered s) f;
        }))
        (λ a.
        label_points a
        (λ ps e.
        let q : encoded ps ≡ s = encoded_points s ps e in
        let f : label_form s ≡ Some (opening ++ encode (lower_points ps)) = coded_as a ps e in
        labelled_own _ f (coded_own ps (rw q all_label) (rw q a) (fit_most _ f))))

    pub label_of_lem : label_of s ≡ Some (labelled s)
    unfolding label_of labelled or_else fits
    label_of_lem =
        by_option (label_form s) (λ e. absurd (false≢true (rw e at is_fit))) (λ w e. rw (h, e))

  pub of_label : (w : List ℕ) → label_of s ≡ Some w → (label s ≡ true) × (w ≡ labelled s)
  unfolding label_of
  of_label w e =
      by_test (label s)
      (λ h. (h, let p : Some w ≡ Some (labelled s) = sym e ∙ label_of_lem h in cc))
      (λ h. absurd (let p : None ≡ Some w = rw h at e in let z : ◌≡◌ {A = ℕ} 0 1 = cc in omega arith))
