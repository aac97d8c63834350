-- What a reader hands out after k others is the field of the number k (B14).
--     Agrees s k o h     h is right where the fields are o: of a readable text the field of the number k and never broken, of an
--                        unreadable one never over
--     agrees             what is handed out is right
--     number_text, number_whole, number_on    what a caller asks of it
--     number_of                               of a whole block
-- Assumes nothing.
use Prim.Native.Nat.{ℕ, zero, suc}
use mathlib.Core.Path.{◌≡◌, refl, sym, ap, ◌∙◌, subst}
use mathlib.Core.Bool.{true}
use mathlib.Core.List.{List, []}
use Rattle.std.specs.Prelude.{Option, Some, None}
use native.Mathlib.Omega.{arith}
use Rattle.octets.specs.Options.{in_front, is_some}
use Rattle.header.specs.Header.{FieldText, fields_of}
use Rattle.header.specs.Answers.{fields_from, step_at, field_at}
use Rattle.header.specs.declared.Step.{Step}
use Rattle.header.specs.declared.Step.TheVariants as step
use Rattle.header.proofs.Fields.{from_over, from_broken, from_field, fields_fit, clear_fits}
use Rattle.reader.specs.Reading.{handed_after, text_of, field_of}
use Rattle.reader.specs.declared.Handed.{Handed}
use Rattle.reader.specs.declared.Handed.TheVariants.{Over, Broken, Field}
use Rattle.reader.proofs.Handing.{out_over, out_broken, out_field, behind_over, behind_broken, behind_field, stays}

abbrev Agrees : List ℕ → ℕ → Option (List FieldText) → Handed → Type 0
Agrees s k (Some fs) h = (text_of s h ≡ field_of k fs) × (h ≡ Broken → ⊥)
Agrees s k None h = h ≡ Over → ⊥

agree_over : (s : List ℕ) (k : ℕ) → Agrees s k (Some []) Over
unfolding text_of field_of
agree_over s k = (refl, λ e. let z : ◌≡◌ {A = ℕ} 0 1 = cc in omega arith)

agree_broken : (s : List ℕ) (k : ℕ) → Agrees s k None Broken
agree_broken s k e = let z : ◌≡◌ {A = ℕ} 0 1 = cc in omega arith

agree_here : (s : List ℕ) (m n v e : ℕ) (o : Option (List FieldText)) → Agrees s 0 (in_front (field_at s m n v e) o) (Field m n v e)
unfolding in_front text_of field_of
agree_here s m n v e None = λ q. let z : ◌≡◌ {A = ℕ} 0 1 = cc in omega arith
agree_here s m n v e (Some fs) = (refl, λ q. let z : ◌≡◌ {A = ℕ} 0 1 = cc in omega arith)

agree_on : (s : List ℕ) (k : ℕ) (f : FieldText) (o : Option (List FieldText)) (h : Handed) → Agrees s k o h → Agrees s (suc k) (in_front f o) h
unfolding in_front field_of
agree_on s k f None h a = a
agree_on s k f (Some fs) h a = a

-- by what stands at a place, with what is known behind a field
module _ (k : ℕ) (s : List ℕ) (at : ℕ) (field : (n v e : ℕ) → step.Field n v e ≡ step_at s at → Agrees s k (fields_from s at) (handed_after k s at)) where
  by_step : (r : Step) → r ≡ step_at s at → Agrees s k (fields_from s at) (handed_after k s at)
  by_step step.Over t = rw (from_over s at step.Over t refl, ← stays k s at Over (out_over s at step.Over t refl) (behind_over Over at refl)) (agree_over s k)
  by_step step.Broken t = rw (from_broken s at step.Broken t refl, ← stays k s at Broken (out_broken s at step.Broken t refl) (behind_broken Broken at refl)) (agree_broken s k)
  by_step (step.Field n v e) t = field n v e t

agrees : (k : ℕ) (s : List ℕ) (at : ℕ) → Agrees s k (fields_from s at) (handed_after k s at)
unfolding handed_after
agrees zero s at =
    by_step zero s at
    (λ n v e t. rw (from_field s at (step.Field n v e) t n v e refl, ← out_field s at (step.Field n v e) t n v e refl) (agree_here s at n v e (fields_from s e)))
    (step_at s at) refl
agrees (suc k) s at =
    by_step (suc k) s at
    (λ n v e t. rw (from_field s at (step.Field n v e) t n v e refl, ← out_field s at (step.Field n v e) t n v e refl, ← behind_field (Field at n v e) at at n v e refl)
    (agree_on s k (field_at s at n v e) (fields_from s e) (handed_after k s e) (agrees k s e)))
    (step_at s at) refl

module _ (k : ℕ) (s : List ℕ) (at : ℕ) where
  known : (o : Option (List FieldText)) → fields_from s at ≡ o → Agrees s k o (handed_after k s at)
  known o e = subst (λ (x : Option (List FieldText)). Agrees s k x (handed_after k s at)) e (agrees k s at)

  pub number_text : (fs : List FieldText) → fields_from s at ≡ Some fs → text_of s (handed_after k s at) ≡ field_of k fs
  number_text fs e = (known (Some fs) e).0

  pub number_whole : (fs : List FieldText) → fields_from s at ≡ Some fs → handed_after k s at ≡ Broken → ⊥
  number_whole fs e = (known (Some fs) e).1

  pub number_on : fields_from s at ≡ None → handed_after k s at ≡ Over → ⊥
  number_on e = known None e

pub number_of : (k : ℕ) (s : List ℕ) (fs : List FieldText) → fields_of s ≡ Some fs → text_of s (handed_after k s 0) ≡ field_of k fs
unfolding is_some
number_of k s fs e = number_text k s 0 fs (sym (fields_fit s (clear_fits s true (sym (ap is_some e)) refl)) ∙ e)
