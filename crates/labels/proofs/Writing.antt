-- The form of a label where it is written.
--     small_long .. small_put           the form of a label in ASCII
--     code_bad .. code_put              the code of a label that is not ASCII
--     opened_sum .. opened_put          the opening in front of a code
--     coded_none .. coded_put           the form of other labels
--     label_none .. label_other         the form of any label
-- Assumes nothing.
use Prim.Native.Nat.{ℕ, ◌+◌, ◌-◌, ◌<◌, ◌≤◌}
use mathlib.Core.Path.{◌≡◌, refl, sym, ap, ◌∙◌}
use mathlib.Core.Bool.{Bool, true, false, not, ◌&&◌}
use mathlib.Core.List.{List, [], ◌++◌, append-nil}
use Rattle.std.specs.Prelude.{Some, None, Option}
use native.Mathlib.Nat.{sub-zero}
use native.Mathlib.Omega.{arith}
use borrow.Author.Rules.{rules}
use borrow.Author.Tests.{le-leb, lt-leb, not-true, not-false}
use mir.Syntax.{w64}
use mir.Val.{Fits}
use lib.ListN.{length, take}
use lib.Seq.{length-take-le}
use Rattle.octets.specs.Octets.{lowered}
use Rattle.octets.specs.Written.{put_at}
use Rattle.octets.specs.Puts.{Written, TooLong, Puts, Told, Untold, PutsText}
use Rattle.octets.proofs.Letters.{length_lowered}
use Rattle.octets.proofs.Options.{by_option}
use Rattle.octets.proofs.Putting.{put_long, put_both}
use Rattle.octets.proofs.Puts.{put_told, told_long, told_front, untold_none, untold_long}
use Rattle.utf8.specs.Utf8.{points}
use Rattle.utf8.specs.Lowering.{lower_points}
use Rattle.utf8.specs.Steps.{all_ascii}
use Rattle.codepoints.specs.Reading.{small_of, Shown, Nought, Many, Reads}
use Rattle.codepoints.specs.declared.Read.{Read}
use Rattle.codepoints.specs.declared.Read.TheVariants.{Points as Are, Bad, Full}
use Rattle.codepoints.proofs.Bounds.{small_scalars, scalars_below}
use Rattle.punycode.specs.Punycode.{encode}
use Rattle.punycode.proofs.Lengths.{encode_most}
use Rattle.coder.specs.Steps.{Points}
use Rattle.labels.specs.Labels.{opening, coded, label_form, fits, label}
use Rattle.labels.specs.Answers.{judged, code_of, fitting, label_of}
use Rattle.labels.proofs.Forming.{form_ascii, form_coded}

-- a form that is too long is none
fits_some : (w : List ℕ) → length w ≤ 63 → fitting (Some w) ≡ Some w
unfolding fitting fits
fits_some w l = rw (le-leb (length w) 63 l)

fits_none : (w : List ℕ) → 63 < length w → fitting (Some w) ≡ None
unfolding fitting fits
fits_none w l = rw (lt-leb (length w) 63 l)

fitting_none : fitting None ≡ None
unfolding fitting fits
fitting_none = refl

never : {P : Type 0} {w : List ℕ} → None ≡ Some w → P
never p = absurd (let z : ◌≡◌ {A = ℕ} 0 1 = cc in omega arith)

equal : {u w : List ℕ} → Some u ≡ Some w → u ≡ w
equal p = cc

module _ (s d : List ℕ) (at : ℕ) where
  pub small_long : 63 < length s → Untold d at d (fitting (Some (lowered s)))
  small_long l = untold_none d at d _ (fits_none (lowered s) (rw length_lowered l)) refl

  module _ (i : at ≤ length d) (m : length s ≤ 63) where
    pub small_full : length d - at < length s → Untold d at d (fitting (Some (lowered s)))
    small_full l =
        untold_long d at d _ (lowered s) (fits_some (lowered s) (rw length_lowered m)) (rw length_lowered (omega arith)) refl

    module _ (l : length s ≤ length d - at) where
      pub small_room : at + length s ≤ length d
      small_room = omega arith

      pub small_put : (e : List ℕ) → e ≡ put_at d at (lowered s) → Told d at e (at + length s) (fitting (Some (lowered s)))
      small_put e q =
          record {
            text = lowered s;
            is = fits_some (lowered s) (rw length_lowered m);
            writes = q;
            counts = rw (length_lowered s);
            room = omega arith;
          }

pub ruleset putting_small = (small_long, small_full, small_room, small_put, rules)

-- the code points p₀ as they came, and p as they are read
module _ (d s p₀ p : List ℕ) (l : length p₀ ≡ 59) (o : Read) where
  pub code_bad : o ≡ Bad → Reads p₀ p (small_of (points s)) o → Untold d 0 d (code_of (small_of (points s)))
  unfolding code_of
  code_bad a q =
      let k : Nought p₀ p (small_of (points s)) = rw a at q in
      untold_none d 0 d _ (ap code_of k.text) refl

  pub code_many : o ≡ Full → Reads p₀ p (small_of (points s)) o → length d ≤ 59 → Untold d 0 d (code_of (small_of (points s)))
  unfolding code_of
  code_many a q h =
      let k : Many p₀ p (small_of (points s)) = rw a at q in
      by_option (small_of (points s))
      (λ t. untold_none d 0 d _ (ap code_of t) refl)
      (λ ps t. untold_long d 0 d _ (encode ps) (ap code_of t) (omega (arith, k.text ps t, encode_most ps)) refl)

  module _ (n : ℕ) (a : o ≡ Are n) (q : Reads p₀ p (small_of (points s)) o) where
    shown : Shown p₀ p (small_of (points s)) n
    shown = rw a at q

    pub code_prefix : n ≤ length p
    code_prefix = shown.upto

    is_code : code_of (small_of (points s)) ≡ Some (encode (take n p))
    unfolding code_of
    is_code = ap code_of shown.text

    pub code_count : n ≡ length (take n p)
    code_count = sym (length-take-le n p shown.upto)

    pub code_points : length d ≤ 59 → Points (length d) (take n p)
    code_points h =
        record {
          below = scalars_below (take n p) (small_scalars s (take n p) shown.text);
          few = omega (arith, code_count, shown.upto, shown.same);
          short = omega arith;
        }

    pub code_put : (e : List ℕ) (r : Option ℕ) → Puts d e 0 (encode (take n p)) r → PutsText d e 0 (code_of (small_of (points s))) r
    code_put e r h = put_told d e 0 _ (encode (take n p)) is_code r h

pub ruleset putting_code = (code_bad, code_many, code_prefix, code_count, code_points, code_put, rules)

-- the opening, and a code behind it
module _ (c d : List ℕ) (at : ℕ) (i : at ≤ length d) (m : length c ≤ 59) where
  pub opened_sum : Fits w64 (4 + length c)
  opened_sum = omega arith

  pub opened_full : length d - at < 4 + length c → TooLong d at d (opening ++ c)
  opened_full l = record { long = omega arith; same = refl }

  module _ (l : 4 + length c ≤ length d - at) where
    pub opened_first : at + 4 ≤ length d
    opened_first = omega arith

    module _ (u : List ℕ) (p : u ≡ put_at d at opening) where
      pub opened_second : (at + 4) + length c ≤ length u
      opened_second = rw (p, put_long d at opening (omega arith)) (omega arith)

      pub opened_put : (e : List ℕ) → e ≡ put_at u (at + 4) c → Written d at e (at + 4 + length c) (opening ++ c) []
      opened_put e z =
          record {
            octets = opening ++ c;
            splits = sym (append-nil (opening ++ c));
            writes = z ∙ rw p (put_both d at opening c (omega arith));
            counts = omega arith;
            room = omega arith;
          }

pub ruleset putting_opened = (opened_sum, opened_full, opened_first, opened_second, opened_put, rules)

-- a label that is not ASCII: its form is the opening, and its code
module _ (s : List ℕ) (a : all_ascii s ≡ false) where
  coded_of : label_form s ≡ coded (points s)
  coded_of = form_coded s a

  -- by its code
  form_of_lem : (w : List ℕ) → code_of (small_of (points s)) ≡ Some w → label_form s ≡ Some (opening ++ w)
  unfolding code_of small_of coded
  form_of_lem w e =
      by_option (points s)
      (λ t. never (sym (ap (λ o. code_of (small_of o)) t) ∙ e))
      (λ ps t. coded_of ∙ ap coded t ∙ ap (λ v. Some (opening ++ v)) (equal (sym (ap (λ o. code_of (small_of o)) t) ∙ e)))

  -- and the other way round
  code_of_lem : (w : List ℕ) → label_form s ≡ Some w → (v : List ℕ) × ((code_of (small_of (points s)) ≡ Some v) × (w ≡ opening ++ v))
  unfolding code_of small_of coded
  code_of_lem w e =
      by_option (points s)
      (λ t. never (sym (coded_of ∙ ap coded t) ∙ e))
      (λ ps t. (encode (lower_points ps), (ap (λ o. code_of (small_of o)) t, equal (sym e ∙ coded_of ∙ ap coded t))))

  -- the code c₀ as it came, and c as it is written
  module _ (d : List ℕ) (at : ℕ) (i : at ≤ length d) (c₀ c : List ℕ) (l : length c₀ ≡ 59) (r : Option ℕ) (h : PutsText c₀ c 0 (code_of (small_of (points s))) r) where
    pub coded_none : r ≡ None → Untold d at d (fitting (label_form s))
    coded_none q =
        let k : Untold c₀ 0 c (code_of (small_of (points s))) = rw q at h in
        untold_none d at d _
        (by_option (label_form s)
        (λ t. ap fitting t ∙ fitting_none)
        (λ w t.
        let v = code_of_lem w t in
        ap fitting t ∙ fits_none w (rw v.1.1 (omega (arith, k.long v.0 v.1.0)))))
        refl

    module _ (n : ℕ) (q : r ≡ Some n) where
      told : Told c₀ 0 c n (code_of (small_of (points s)))
      told = rw q at h

      is_form : label_form s ≡ Some (opening ++ told.text)
      is_form = form_of_lem told.text told.is

      fit_form : fitting (label_form s) ≡ Some (opening ++ told.text)
      fit_form = ap fitting is_form ∙ fits_some (opening ++ told.text) (omega (arith, told.counts, told.room))

      pub coded_end : n ≤ length c
      coded_end = omega (arith, told_long c₀ 0 c n _ told, told.room)

      pub coded_count : n ≡ length (take n c)
      coded_count = sym (length-take-le n c coded_end)

      pub coded_few : length (take n c) ≤ 59
      coded_few = omega (arith, coded_count, told.room)

      pub coded_put : (e : List ℕ) (t : Option ℕ) → Puts d e at (opening ++ take n c) t → PutsText d e at (fitting (label_form s)) t
      coded_put e t g = put_told d e at _ (opening ++ told.text) fit_form t (rw (sym (rw sub-zero at (told_front c₀ c n _ told))) g)

pub ruleset putting_coded = (coded_none, coded_end, coded_count, coded_few, coded_put, rules)

-- any label
module _ (s : List ℕ) where
  label_is : label s ≡ (judged s && fits (label_form s))
  unfolding label judged
  label_is = refl

  of_judged : judged s ≡ true → label_of s ≡ fitting (label_form s)
  unfolding label_of fitting
  of_judged e = rw (label_is, e)

  module _ (d : List ℕ) (at : ℕ) (b : Bool) (j : b ≡ judged s) where
    pub label_none : not b ≡ true → Untold d at d (label_of s)
    unfolding label_of
    label_none n = untold_none d at d _ (rw (label_is, ← j, not-true b n)) refl

    module _ (n : not b ≡ false) (e : List ℕ) (r : Option ℕ) where
      pub label_small : all_ascii s ≡ true → PutsText d e at (fitting (Some (lowered s))) r → PutsText d e at (label_of s) r
      label_small a h = rw (of_judged (sym j ∙ not-false b n), form_ascii s a) h

      pub label_other : PutsText d e at (fitting (label_form s)) r → PutsText d e at (label_of s) r
      label_other h = rw (of_judged (sym j ∙ not-false b n)) h

  pub label_ascii : (b : Bool) → b ≡ true → b ≡ all_ascii s → all_ascii s ≡ true
  label_ascii b t e = sym e ∙ t

  pub label_high : (b : Bool) → b ≡ false → b ≡ all_ascii s → all_ascii s ≡ false
  label_high b t e = sym e ∙ t

pub ruleset putting_label = (label_none, label_small, label_other, label_ascii, label_high, rules)
