-- Blanks left out at the ends of a part.
--     front_blank, front_other      the first octet of a text that is trimmed in front
--     back_blank, back_other        the last octet of a text that is trimmed behind
--     front_trimmed                 the place where the run of blanks ends that opens a part
--     Back s from to i              trimmed behind, the part up to `to` is the part up to i
--     back_begin .. back_end        the steps of a loop that looks for that place
--     trim_both                     both ends together
--     every_reverse                 a list turned round has the same elements
-- Assumes nothing.
use Prim.Native.Nat.{ℕ, ◌+◌, ◌-◌, ◌*◌, ◌^◌, ◌<◌, ◌≤◌}
use mathlib.Core.Path.{◌≡◌, refl, sym, ap, ◌∙◌}
use mathlib.Core.Bool.{Bool, true, false, not}
use mathlib.Core.List.{List, [], ◌∷◌, ◌++◌, reverse, reverse-cons, reverse-append, reverse-reverse}
use native.Mathlib.Omega.{arith}
use borrow.Author.Rules.{rules}
use borrow.Author.Tests.{not-true, not-false}
use lib.ListN.{length, get_or, take, drop, length-take}
use mir.Syntax.{w64}
use mir.Val.{Fits}
use Rattle.octets.specs.Octets.{blank}
use Rattle.octets.specs.Tests.{every}
use Rattle.octets.proofs.Tests.{and_left, and_right, by_test}
use Rattle.octets.proofs.Every.{every_append}
use Rattle.runs.specs.Runs.{belongs, run, run_length}
use Rattle.runs.specs.declared.Class.TheVariants.{Blank}
use Rattle.runs.proofs.Running.{run_in, run_out, run_short}
use Rattle.attributes.specs.Attribute.{trimmed_front, trimmed_back, trimmed}
use Rattle.attributes.specs.Answers.{part, Within, TrimmedFrom, TrimmedTo, Trimmed}
use Rattle.attributes.proofs.Parts.{part_none, part_last, part_back}

module _ (x : ℕ) (s : List ℕ) where
  pub front_blank : blank x ≡ true → trimmed_front (x ∷ s) ≡ trimmed_front s
  unfolding trimmed_front
  front_blank e = rw (trimmed_front, e)

  pub front_other : blank x ≡ false → trimmed_front (x ∷ s) ≡ x ∷ s
  unfolding trimmed_front
  front_other e = rw (trimmed_front, e)

  pub back_blank : blank x ≡ true → trimmed_back (s ++ (x ∷ [])) ≡ trimmed_back s
  unfolding trimmed_back trimmed_front
  back_blank e = rw (reverse-append s (x ∷ []), trimmed_front, e)

  pub back_other : blank x ≡ false → trimmed_back (s ++ (x ∷ [])) ≡ s ++ (x ∷ [])
  unfolding trimmed_back trimmed_front
  back_other e = rw (reverse-append s (x ∷ []), trimmed_front, e, ← reverse-append s (x ∷ [])) (reverse-reverse (s ++ (x ∷ [])))

-- what is trimmed in front is a run of blanks
trimmed_run : (s : List ℕ) → trimmed_front s ≡ drop (run blank s) s
unfolding trimmed_front run
trimmed_run [] = refl
trimmed_run (x ∷ s) =
    by_test (blank x)
    (λ e. rw (front_blank x s e, run_in blank x s e) (trimmed_run s))
    (λ e. rw (front_other x s e, run_out blank x s e))

module _ (s : List ℕ) (from to n : ℕ) (w : Within s from to) (e : n ≡ 0 + run_length Blank (take (to - from) (drop from s))) where
  front_upto : from + n ≤ to
  front_upto = omega (arith, run_short (belongs Blank) (take (to - from) (drop from s)), length-take (to - from) (drop from s), w.order)

  pub front_trimmed : TrimmedFrom s from to (from + n)
  unfolding part belongs
  front_trimmed =
      let m : n ≡ run blank (part s from to) = omega arith in
      record {
        is = part_back s from to n front_upto w.upto ∙ rw m (sym (trimmed_run (part s from to)));
        low = omega arith;
        high = front_upto;
      }

  pub front_sum : length s * 1 < 2 ^ 63 → Fits w64 (from + n)
  front_sum l = record { fits = omega (arith, front_upto, w.upto) }

pub ruleset trimming_front = (front_trimmed, front_sum, rules)

pub record Back (s : List ℕ) (from to i : ℕ) : Type 0 where
  pub low : from ≤ i
  pub upto : i ≤ to
  pub inside : to ≤ length s
  pub so_far : trimmed_back (part s from to) ≡ trimmed_back (part s from i)

module _ (s : List ℕ) (from to : ℕ) where
  pub back_begin : Within s from to → Back s from to to
  back_begin h = record { low = h.order; upto = omega arith; inside = h.upto; so_far = refl }

  module _ (i : ℕ) (h : Back s from to i) where
    pub back_end : i ≤ from → TrimmedTo s from to i
    unfolding trimmed_back trimmed_front
    back_end l =
        let e : i ≡ from = omega (arith, h.low) in
        let z : part s from i ≡ [] = rw e (part_none s from) in
        record { is = sym (h.so_far ∙ rw z); low = h.low; high = h.upto }

    module _ (b : Bool) (l : from < i) (e : b ≡ blank (get_or s (i - 1) 0)) where
      pub back_next : not b ≡ false → Back s from to (i - 1)
      back_next n =
          record {
            low = omega arith;
            upto = omega arith;
            inside = h.inside;
            so_far =
                h.so_far
                ∙ rw (part_last s from i l (omega arith)) (back_blank (get_or s (i - 1) 0) (part s from (i - 1)) (sym e ∙ not-false b n));
          }

      pub back_stop : not b ≡ true → TrimmedTo s from to i
      back_stop n =
          record {
            is = sym (h.so_far ∙ rw (part_last s from i l (omega arith)) (back_other (get_or s (i - 1) 0) (part s from (i - 1)) (sym e ∙ not-true b n)));
            low = h.low;
            high = h.upto;
          }

pub ruleset trimming_back = (back_begin, back_next, back_stop, back_end, rules)

-- both ends together, as `trim` has them
pub trim_both : (s : List ℕ) (from to start end : ℕ) → TrimmedFrom s from to start → TrimmedTo s start to end → Trimmed s from to (record { from = start; to = end })
unfolding trimmed
trim_both s from to start end f b =
    record { low = f.low; order = b.low; high = b.high; is = b.is ∙ ap trimmed_back f.is }

pub ruleset trimming = (trim_both, rules)

-- a list turned round has the same elements
pub every_reverse : (test : ℕ → Bool) (s : List ℕ) → every test s ≡ true → every test (reverse s) ≡ true
unfolding every
every_reverse test [] e = refl
every_reverse test (x ∷ s) e =
    rw (reverse-cons, every_append, every_reverse test s (and_right (test x) (every test s) e), and_left (test x) (every test s) e)
