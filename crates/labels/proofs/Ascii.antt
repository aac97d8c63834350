-- Labels in ASCII: the rule for labels in any script, and the rule that asks for ASCII (`ascii_label`).
--     own_ascii                      the form of a label is a label in ASCII
--     label_ascii                    a text in ASCII is a label by both rules, or by neither
--     ascii_text, ascii_label_lem    what is a label by the rule for ASCII is ASCII, and a label
--     ascii_labelled                 and its form is its lower case
-- Assumes nothing.
use Prim.Native.Nat.{ℕ, ◌<◌, ◌≤◌}
use mathlib.Core.Path.{◌≡◌, refl, sym, ◌∙◌}
use mathlib.Core.Bool.{Bool, true, false, ◌&&◌, false≢true, or-false}
use mathlib.Core.List.{List, [], ◌∷◌}
use mathlib.Core.Logic.{⊎_elim}
use borrow.Author.Tests.{ltb-true, le-leb, lt-leb, lt-ltb}
use lib.Dec.{leb, ltb}
use lib.ListN.{length}
use Rattle.octets.specs.Octets.{lowered}
use Rattle.octets.specs.Options.{or_else}
use Rattle.octets.specs.Tests.{every, one_to}
use Rattle.octets.proofs.Lists.{lt_or_le}
use Rattle.octets.proofs.Letters.{length_lowered}
use Rattle.octets.proofs.Tests.{and_left, and_right}
use Rattle.octets.proofs.Every.{every_weaker}
use Rattle.utf8.specs.Steps.{all_ascii}
use Rattle.runs.specs.Runs.{belongs}
use Rattle.runs.specs.declared.Class.TheVariants.{Label}
use Rattle.asciiaddress.specs.Ascii.{longest_label, free_ends, ascii_label}
use Rattle.asciiaddress.proofs.Alike.{high_label}
use Rattle.labels.specs.Labels.{label_octet, fits, label, labelled}
use Rattle.labels.proofs.Forming.{form_octet, at_octets, form_low, Own, form_ascii}

form_plain : (x : ℕ) → form_octet x ≡ true → belongs Label x ≡ true
unfolding form_octet belongs
form_plain x e = at_octets form_octet (belongs Label) refl x (form_low x e) e

pub own_ascii : {w : List ℕ} → Own w → ascii_label w ≡ true
unfolding ascii_label
own_ascii {w} o =
    rw (
      le-leb 1 (length w) o.filled,
      le-leb (length w) 63 o.short,
      every_weaker form_octet (belongs Label) form_plain w o.octets,
      o.ends,
    )

octets_ascii : (s : List ℕ) → all_ascii s ≡ true → every label_octet s ≡ every (belongs Label) s
unfolding every label_octet
octets_ascii [] a = refl
octets_ascii (x ∷ s) a =
    rw (lt-leb 128 x (ltb-true x 128 (and_left (ltb x 128) (all_ascii s) a)), or-false (belongs Label x), octets_ascii s (and_right (ltb x 128) (all_ascii s) a))

pub label_ascii : (s : List ℕ) → all_ascii s ≡ true → label s ≡ ascii_label s
unfolding label fits ascii_label
label_ascii s a =
    rw (form_ascii s a, octets_ascii s a, length_lowered s) (turned (leb 1 (length s)) (leb (length s) 63) (every (belongs Label) s) (free_ends s))
  where
    turned : (a b e f : Bool) → (((a && e) && f) && b) ≡ (((a && b) && e) && f)
    turned false b e f = refl
    turned true false false f = refl
    turned true false true false = refl
    turned true false true true = refl
    turned true true false f = refl
    turned true true true false = refl
    turned true true true true = refl

module _ (s : List ℕ) (h : ascii_label s ≡ true) where
  pub ascii_text : all_ascii s ≡ true
  unfolding ascii_label
  ascii_text =
      every_weaker (belongs Label) (λ x. ltb x 0x80) low s
      (and_right (one_to longest_label (length s)) _ (and_left (one_to longest_label (length s) && every (belongs Label) s) (free_ends s) h))
    where
      low : (x : ℕ) → belongs Label x ≡ true → ltb x 0x80 ≡ true
      low x e =
          ⊎_elim (λ (l : x < 128). lt-ltb x 128 l) (λ (l : 128 ≤ x). absurd (false≢true (sym (high_label x l) ∙ e))) (lt_or_le x 128)

  pub ascii_label_lem : label s ≡ true
  ascii_label_lem = label_ascii s ascii_text ∙ h

  pub ascii_labelled : labelled s ≡ lowered s
  unfolding labelled or_else
  ascii_labelled = rw (form_ascii s ascii_text)
