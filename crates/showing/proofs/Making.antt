-- What is shown of one label, where it is written.
--     text_put                          a text that is written from a place on
--     own_none .. own_same              whether a text is a label with just this form
--     decoded_none .. decoded_put       the text that a code stands for
--     either_text, either_form          that text or the form
--     opened_none .. opened_put         what is shown of a coded label
--     opens_filled .. other_shown       and of any form
-- Assumes nothing.
use Prim.Native.Nat.{ℕ, ◌+◌, ◌-◌, ◌<◌, ◌≤◌}
use mathlib.Core.Path.{◌≡◌, refl, sym, ap, ◌∙◌}
use mathlib.Core.Bool.{Bool, true, false, ◌&&◌, false≢true}
use mathlib.Core.List.{List, [], append-nil}
use Rattle.std.specs.Prelude.{Option, Some, None}
use mathlib.Core.Logic.{⊎_elim}
use native.Mathlib.Nat.{sub-zero}
use native.Mathlib.Omega.{arith}
use borrow.Author.Rules.{rules}
use lib.ListN.{length, take, drop, length-drop}
use lib.Seq.{length-take-le, take_all}
use Rattle.octets.specs.Octets.{same_octets, starts_with}
use Rattle.octets.specs.Written.{put_at}
use Rattle.octets.specs.Puts.{Written, Puts, Told, Untold, PutsText}
use Rattle.octets.proofs.Comparing.{opens_long}
use Rattle.octets.proofs.Lists.{lt_or_le}
use Rattle.octets.proofs.Options.{by_option}
use Rattle.octets.proofs.Puts.{put_told, told_long, told_front, untold_none}
use Rattle.octets.proofs.Tests.{by_test}
use Rattle.utf8.specs.Utf8.{encoded, scalars}
use Rattle.codepoints.proofs.Bounds.{encoded_most}
use Rattle.punycode.specs.Punycode.{decode}
use Rattle.punycode.proofs.Sound.{decode_scalars, decode_most}
use Rattle.decoder.specs.Steps.{Shown, NoText, Decodes}
use Rattle.labels.specs.Labels.{opening, label_form, label}
use Rattle.labels.specs.Answers.{label_of}
use Rattle.labels.proofs.Forming.{label_own, label_of_lem, of_label}
use Rattle.showing.specs.Showing.{same_form, shown_by, shown}
use Rattle.showing.specs.Answers.{text_of, either_of}
use Rattle.showing.proofs.Typing.{shown_long}

pub text_put : (d t e : List ℕ) (at : ℕ) → at ≤ length d → length t ≤ length d - at → e ≡ put_at d at t → Written d at e (at + length t) t []
text_put d t e at i l p =
    record { octets = t; splits = sym (append-nil t); writes = p; counts = refl; room = omega arith }

pub ruleset putting_text = (text_put, rules)

-- a text t and a form w. The text's own form is written into f₀, which is then f.
module _ (t w f₀ f : List ℕ) (l : length f₀ ≡ 63) (r : Option ℕ) (h : PutsText f₀ f 0 (label_of t) r) where
  pub own_none : r ≡ None → false ≡ (label t && same_form w (label_form t))
  own_none q =
      let k : Untold f₀ 0 f (label_of t) = rw q at h in
      by_test (label t)
      (λ e. absurd (omega (arith, k.long _ (label_of_lem t e), (label_own t e).short)))
      (λ e. rw e)

  module _ (n : ℕ) (q : r ≡ Some n) where
    own : Told f₀ 0 f n (label_of t)
    own = rw q at h

    is_label : label t ≡ true
    is_label = (of_label t own.text own.is).0

    is_form : label_form t ≡ Some own.text
    unfolding label_of
    is_form = rw is_label at own.is

    pub own_end : n ≤ length f
    own_end = omega (arith, told_long f₀ 0 f n _ own, own.room)

    pub own_count : n ≡ length (take n f)
    own_count = sym (length-take-le n f own_end)

    pub own_same : (b : Bool) → b ≡ same_octets (take n f) w → b ≡ (label t && same_form w (label_form t))
    unfolding same_form
    own_same b e = e ∙ rw (rw sub-zero at (told_front f₀ f n _ own), is_label, is_form)

pub ruleset having_form = (own_none, own_end, own_count, own_same, rules)

-- the code points p₀ as they came, and p as they are decoded from c
module _ (c d p₀ p : List ℕ) (o : Option ℕ) where
  pub decoded_none : o ≡ None → Decodes p₀ p (decode c) o → Untold d 0 d (text_of (decode c))
  unfolding text_of
  decoded_none a q =
      let k : NoText p₀ p (decode c) = rw a at q in
      untold_none d 0 d _ (ap text_of k.text) refl

  module _ (n : ℕ) (a : o ≡ Some n) (q : Decodes p₀ p (decode c) o) where
    read : Shown p₀ p (decode c) n
    read = rw a at q

    pub decoded_end : n ≤ length p
    decoded_end = read.upto

    pub decoded_count : n ≡ length (take n p)
    decoded_count = sym (length-take-le n p read.upto)

    pub decoded_points : scalars (take n p) ≡ true
    decoded_points = decode_scalars c (take n p) read.text

    is_text : text_of (decode c) ≡ Some (encoded (take n p))
    unfolding text_of
    is_text = ap text_of read.text

    pub decoded_put : (e : List ℕ) (r : Option ℕ) → Puts d e 0 (encoded (take n p)) r → PutsText d e 0 (text_of (decode c)) r
    decoded_put e r h = put_told d e 0 _ (encoded (take n p)) is_text r h

pub ruleset putting_decoded = (decoded_none, decoded_end, decoded_count, decoded_points, decoded_put, rules)

-- what the buffer d is left as, e, where a text is written from `at` on
module _ (d e : List ℕ) (at : ℕ) (r : Option ℕ) where
  module _ (t w : List ℕ) (b : Bool) where
    pub either_text : b ≡ true → b ≡ (label t && same_form w (label_form t)) → Puts d e at t r → Puts d e at (either_of w t) r
    unfolding either_of
    either_text q p h = rw (← p, q) h

    pub either_form : b ≡ false → b ≡ (label t && same_form w (label_form t)) → Puts d e at w r → Puts d e at (either_of w t) r
    unfolding either_of
    either_form q p h = rw (← p, q) h

pub ruleset putting_either = (either_text, either_form, rules)

-- what is shown of a form, by the text that its code stands for
by_text : (w : List ℕ) (o : Option (List ℕ)) (v : List ℕ) → text_of o ≡ Some v → shown_by w o ≡ either_of w v
unfolding text_of shown_by either_of
by_text w None v e = absurd (let z : ◌≡◌ {A = ℕ} 0 1 = cc in omega arith)
by_text w (Some ps) v e = let k : v ≡ encoded ps = cc in rw k

-- a form w that opens as a coded label does. Its text is written into x₀, which is then x.
module _ (w : List ℕ) (few : 4 ≤ length w) (most : length w ≤ 63) where
  abbrev code : List ℕ
  code = take (length w - 4) (drop 4 w)

  code_is : code ≡ drop 4 w
  code_is = take_all (length w - 4) (drop 4 w) (omega (arith, length-drop 4 w))

  module _ (x₀ x : List ℕ) (l : length x₀ ≡ 236) (o : Option ℕ) (h : PutsText x₀ x 0 (text_of (decode code)) o) (d e : List ℕ) (at : ℕ) (r : Option ℕ) where
    pub opened_none : o ≡ None → Puts d e at w r → Puts d e at (shown_by w (decode (drop 4 w))) r
    unfolding shown_by text_of
    opened_none q p =
        let k : Untold x₀ 0 x (text_of (decode code)) = rw q at h in
        let s : (ps : List ℕ) → decode code ≡ Some ps → ⊥ = λ ps y. omega (arith, k.long (encoded ps) (ap text_of y), encoded_most ps, decode_most code ps y, ap length code_is, length-drop 4 w) in
        by_option (decode code)
        (λ y. rw (← code_is, y) p)
        (λ ps y. absurd (s ps y))

  module _ (x₀ x : List ℕ) (n : ℕ) (o : Option ℕ) (q : o ≡ Some n) (h : PutsText x₀ x 0 (text_of (decode code)) o) where
    told : Told x₀ 0 x n (text_of (decode code))
    told = rw q at h

    pub opened_end : n ≤ length x
    opened_end = omega (arith, told_long x₀ 0 x n _ told, told.room)

    pub opened_count : n ≡ length (take n x)
    opened_count = sym (length-take-le n x opened_end)

    either_is : shown_by w (decode (drop 4 w)) ≡ either_of w (take n x)
    either_is =
        ap (λ c. shown_by w (decode c)) (sym code_is)
        ∙ by_text w (decode code) told.text told.is
        ∙ ap (either_of w) (sym (rw sub-zero at (told_front x₀ x n _ told)))

    pub opened_put : (d e : List ℕ) (at : ℕ) (r : Option ℕ) → Puts d e at (either_of w (take n x)) r → Puts d e at (shown_by w (decode (drop 4 w))) r
    opened_put d e at r p = rw either_is p

pub ruleset putting_opened = (opened_none, opened_end, opened_count, opened_put, rules)

-- any form
module _ (w : List ℕ) where
  pub opens_filled : (b : Bool) → b ≡ true → b ≡ starts_with opening (drop 0 w) → 4 ≤ length w
  opens_filled b q p =
      ⊎_elim
      (λ (l : length w < 4). absurd (false≢true (opens_long w opening 0 (omega arith) ∙ sym p ∙ q)))
      (λ (l : 4 ≤ length w). l)
      (lt_or_le (length w) 4)

  module _ (d e : List ℕ) (at : ℕ) (r : Option ℕ) where
    pub long_shown : 63 < length w → Puts d e at w r → Puts d e at (shown w) r
    long_shown l h = rw (shown_long w l) h

    pub opened_shown : (b : Bool) → b ≡ true → b ≡ starts_with opening (drop 0 w)
        → Puts d e at (shown_by w (decode (drop 4 w))) r → Puts d e at (shown w) r
    unfolding shown
    opened_shown b q p h = let k : starts_with opening w ≡ true = sym p ∙ q in rw k h

    pub other_shown : (b : Bool) → b ≡ false → b ≡ starts_with opening (drop 0 w) → Puts d e at w r → Puts d e at (shown w) r
    unfolding shown
    other_shown b q p h = let k : starts_with opening w ≡ false = sym p ∙ q in rw k h

pub ruleset putting_shown = (opens_filled, long_shown, opened_shown, other_shown, rules)
