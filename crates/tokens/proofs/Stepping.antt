-- One step inside a comment or a quoted string, once for both readers.
--     step_end .. step_plain    what stands at a place, by the kind of the octet there
--     Moved                     what a reader leaves from a place on, by what stands there
--     moved                     so it is for a reader that goes by the kind of the octet
-- Assumes nothing.
use Prim.Native.Nat.{ℕ, ◌+◌, ◌<◌, ◌≤◌}
use mathlib.Core.Path.{◌≡◌, refl, sym, subst, ◌∙◌}
use mathlib.Core.Bool.{Bool, true, false, false≢true}
use mathlib.Core.List.{List, [], ◌∷◌}
use Rattle.std.specs.Prelude.{Option, None}
use native.Mathlib.Omega.{arith}
use borrow.Author.Rules.{rules}
use borrow.Author.Tests.{not-true, not-false}
use lib.ListN.{length, get_or, drop, length-drop}
use lib.Seq.{drop-drop}
use Rattle.octets.proofs.Lists.{drop_one, drop_done}
use Rattle.tokens.specs.Tokens.{control, kind_of}
use Rattle.tokens.specs.Answers.{takes, step_in}
use Rattle.tokens.specs.declared.OctetKind.{OctetKind}
use Rattle.tokens.specs.declared.OctetKind.TheVariants.{Closes, Escapes, Control, Plain}
use Rattle.tokens.specs.declared.StepIn.{StepIn}
use Rattle.tokens.specs.declared.StepIn.TheVariants.{On, Ends, Stops}

module _ (closing : ℕ) (s : List ℕ) (i : ℕ) where
  pub step_end : length s ≤ i → Stops ≡ step_in closing i (drop i s)
  unfolding step_in
  step_end l = rw drop_done

  module _ (l : i < length s) (k : OctetKind) (e : k ≡ kind_of closing (get_or s i 0)) where
    pub step_closes : k ≡ Closes → Ends (i + 1) ≡ step_in closing i (drop i s)
    unfolding step_in
    step_closes q = rw (drop_one s i l, step_in, sym e ∙ q)

    pub step_control : k ≡ Control → Stops ≡ step_in closing i (drop i s)
    unfolding step_in
    step_control q = rw (drop_one s i l, step_in, sym e ∙ q)

    pub step_plain : k ≡ Plain → On (i + 1) ≡ step_in closing i (drop i s)
    unfolding step_in
    step_plain q = rw (drop_one s i l, step_in, sym e ∙ q)

    module _ (q : k ≡ Escapes) (b : Bool) (t : b ≡ takes (drop (i + 1) s)) where
      pub step_taken : b ≡ true → On (i + 2) ≡ step_in closing i (drop i s)
      unfolding step_in
      step_taken f = rw (drop_one s i l, step_in, sym e ∙ q, sym t ∙ f)

      pub step_refused : b ≡ false → Stops ≡ step_in closing i (drop i s)
      unfolding step_in
      step_refused f = rw (drop_one s i l, step_in, sym e ∙ q, sym t ∙ f)

pub ruleset stepping = (step_end, step_closes, step_control, step_plain, step_taken, step_refused, rules)

-- `read taken s` is what the reader leaves, `close s` what it leaves behind the closing octet
module _ (read : Bool → List ℕ → Option (List ℕ)) (close : List ℕ → Option (List ℕ)) where
  -- what stands behind a backslash
  module _ (end : read true [] ≡ None)
      (taken : (x : ℕ) (r : List ℕ) → read true (x ∷ r) ≡ elim (control x) [ true ↦ None | false ↦ read false r ]) where
    takes_true : (r : List ℕ) → takes r ≡ true → (0 < length r) × (read true r ≡ read false (drop 1 r))
    unfolding takes
    takes_true [] e = absurd (false≢true e)
    takes_true (x ∷ r) e = (omega arith, taken x r ∙ rw (not-true (control x) e))

    takes_false : (r : List ℕ) → takes r ≡ false → read true r ≡ None
    unfolding takes
    takes_false [] e = end
    takes_false (x ∷ r) e = taken x r ∙ rw (not-false (control x) e)

  module _ (s : List ℕ) (i : ℕ) where
    abbrev pub Moved : StepIn → Type 0
    Moved (On m) = (i < m) × (m ≤ length s) × (read false (drop i s) ≡ read false (drop m s))
    Moved (Ends m) = (i < m) × (m ≤ length s) × (read false (drop i s) ≡ close (drop m s))
    Moved Stops = read false (drop i s) ≡ None

    module _ (closing : ℕ) (l : i < length s)
        (here : read false (drop i s)
        ≡ elim (kind_of closing (get_or s i 0)) [
          | Closes ↦ close (drop (i + 1) s)
          | Escapes ↦ read true (drop (i + 1) s)
          | Control ↦ None
          | Plain ↦ read false (drop (i + 1) s)
        ])
        (end : read true [] ≡ None)
        (taken : (x : ℕ) (r : List ℕ) → read true (x ∷ r) ≡ elim (control x) [ true ↦ None | false ↦ read false r ]) where
      pub moved : Moved (step_in closing i (drop i s))
      moved = by_kind (kind_of closing (get_or s i 0)) refl
        where
          by_takes : (b : Bool) → takes (drop (i + 1) s) ≡ b → kind_of closing (get_or s i 0) ≡ Escapes → Moved (step_in closing i (drop i s))
          by_takes true f e =
              let t : _ = takes_true end taken (drop (i + 1) s) f in
              let two : (i + 1) + 1 ≡ i + 2 = omega arith in
              subst Moved (step_taken closing s i l _ refl e _ refl f)
              (omega arith, omega (arith, t.0, length-drop (i + 1) s), here ∙ rw e (t.1 ∙ rw (drop-drop, two)))
          by_takes false f e = subst Moved (step_refused closing s i l _ refl e _ refl f) (here ∙ rw e (takes_false end taken (drop (i + 1) s) f))

          by_kind : (k : OctetKind) → kind_of closing (get_or s i 0) ≡ k → Moved (step_in closing i (drop i s))
          by_kind Closes e = subst Moved (step_closes closing s i l _ refl e) (omega arith, omega arith, here ∙ rw e)
          by_kind Escapes e = by_takes (takes (drop (i + 1) s)) refl e
          by_kind Control e = subst Moved (step_control closing s i l _ refl e) (here ∙ rw e)
          by_kind Plain e = subst Moved (step_plain closing s i l _ refl e) (omega arith, omega arith, here ∙ rw e)
