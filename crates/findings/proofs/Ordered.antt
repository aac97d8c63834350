-- C22, O4: faults are in their order, and so none stands twice.
--     from_later                      the faults of fields from a place on are of their block, and not in front of that place
--     rising_from                     they are in order
--     mail_before, block_before       the fault of the mail is before those of fields, and the outer block before the payload
--     in_order                        those of a mail are in order
--     nothing_twice                   what stands somewhere does not stand behind it
-- Assumes nothing.
use Prim.Native.Nat.{ℕ, ◌+◌, ◌<◌}
use mathlib.Core.Path.{◌≡◌, refl, sym, ◌∙◌}
use mathlib.Core.Bool.{Bool, true, false, ◌&&◌, ◌||◌}
use mathlib.Core.List.{List, [], ◌∷◌, ◌++◌}
use native.Mathlib.Omega.{arith}
use borrow.Author.Tests.{ltb-true, eqb-true, eqb-false, lt-ltb}
use lib.Dec.{eqb, ltb}
use Rattle.octets.specs.Tests.{every}
use Rattle.octets.proofs.Tests.{by_test, and_left, and_right}
use Rattle.octets.proofs.Every.{every_append, every_weaker}
use Rattle.header.specs.Header.{FieldText}
use Rattle.faults.specs.Faults.{Fault, no_valid, kinds, faults_at}
use Rattle.faults.specs.Found.{before, rising}
use Rattle.faults.proofs.Rising.{before_block, before_place, all_before, rising_both, faults_here, rising_place}
use Rattle.faults.proofs.Once.{rising_rest, rising_once}
use Rattle.lookover.specs.Looking.{side_number, flaws_of, valid_in, faults_from, valid_behind, faults_in, missing, faults_of}
use Rattle.lookover.specs.declared.Side.{Side}
use Rattle.lookover.specs.declared.Side.TheVariants.{Outer, Payload}
use Rattle.findings.specs.Wrong.{fault}
use Rattle.findings.specs.Findings.{InOrder, NothingTwice}

-- a fault of this block, behind this place
abbrev later : ℕ → ℕ → Fault → Bool
later block place g = eqb g.block block && ltb place g.place

abbrev here : ℕ → ℕ → Fault → Bool
here block place f = eqb f.block block && eqb f.place place

here_later : (block place low : ℕ) → low < place → (f : Fault) → here block place f ≡ true → later block low f ≡ true
here_later block place low l f e =
    rw (
      and_left (eqb f.block block) (eqb f.place place) e,
      lt-ltb low f.place (omega (arith, eqb-true f.place place (and_right (eqb f.block block) _ e))),
    )

module _ (side : Side) (sender : List ℕ) (recipients : List (List ℕ)) where
  from_later : (seen : Bool) (place low : ℕ) (fs : List FieldText) → low < place
      → every (later (side_number side) low) (faults_from side sender recipients seen place fs) ≡ true
  unfolding faults_from every
  from_later seen place low [] l = refl
  from_later seen place low (f ∷ fs) l =
      every_append (later (side_number side) low) (faults_at (side_number side) place (kinds (flaws_of side sender recipients seen f)))
      (faults_from side sender recipients (seen || valid_in side sender f) (place + 1) fs)
      ∙ rw (
        every_weaker (here (side_number side) place) (later (side_number side) low) (here_later (side_number side) place low l)
            (faults_at (side_number side) place (kinds (flaws_of side sender recipients seen f)))
            (faults_here (side_number side) place (kinds (flaws_of side sender recipients seen f))),
        from_later (seen || valid_in side sender f) (place + 1) low fs (omega arith),
      )

  rising_from : (seen : Bool) (place : ℕ) (fs : List FieldText) → rising (faults_from side sender recipients seen place fs) ≡ true
  unfolding faults_from rising
  rising_from seen place [] = refl
  rising_from seen place (f ∷ fs) =
      rising_place (side_number side) place (flaws_of side sender recipients seen f)
      (faults_from side sender recipients (seen || valid_in side sender f) (place + 1) fs)
      (rising_from (seen || valid_in side sender f) (place + 1) fs)
      (from_later (seen || valid_in side sender f) (place + 1) place fs (omega arith))

block_before : (f g : Fault) → later 0 0 f ≡ true → later 1 0 g ≡ true → before f g ≡ true
block_before f g d e =
    before_block f g
    (omega (arith, eqb-true f.block 0 (and_left _ (ltb 0 f.place) d), eqb-true g.block 1 (and_left _ (ltb 0 g.place) e)))

-- the fault of the mail stands at place 0 of the outer block, and each of a field behind it
mail_before : (f g : Fault) → here 0 0 f ≡ true → ltb 0 g.place ≡ true → before f g ≡ true
mail_before f g d e =
    let b : f.block ≡ 0 = eqb-true f.block 0 (and_left _ (eqb f.place 0) d) in
    let p : f.place ≡ 0 = eqb-true f.place 0 (and_right (eqb f.block 0) _ d) in
    by_test (eqb g.block 0)
    (λ q. before_place f g (b ∙ sym (eqb-true g.block 0 q)) (omega (arith, ltb-true 0 g.place e)))
    (λ q. let n : g.block ≡ 0 → ⊥ = eqb-false g.block 0 q in before_block f g (omega arith))

module _ (sender : List ℕ) (recipients : List (List ℕ)) (outer payload : List FieldText) where
  abbrev blocks : List Fault
  blocks = faults_from Outer sender recipients false 1 outer ++ faults_from Payload sender recipients false 1 payload

  rising_blocks : rising blocks ≡ true
  rising_blocks =
      rising_both (faults_from Outer sender recipients false 1 outer) (faults_from Payload sender recipients false 1 payload)
      (rising_from Outer sender recipients false 1 outer) (rising_from Payload sender recipients false 1 payload)
      (all_before (later 0 0) (later 1 0) (faults_from Outer sender recipients false 1 outer) (faults_from Payload sender recipients false 1 payload)
      (from_later Outer sender recipients false 1 0 outer (omega arith)) (from_later Payload sender recipients false 1 0 payload (omega arith)) block_before)

  behind_mail : every (λ (g : Fault). ltb 0 g.place) blocks ≡ true
  behind_mail =
      every_append (λ (g : Fault). ltb 0 g.place) (faults_from Outer sender recipients false 1 outer) (faults_from Payload sender recipients false 1 payload)
      ∙ rw (
        every_weaker (later 0 0) (λ (g : Fault). ltb 0 g.place) (λ g e. and_right (eqb g.block 0) _ e) (faults_from Outer sender recipients false 1 outer)
            (from_later Outer sender recipients false 1 0 outer (omega arith)),
        every_weaker (later 1 0) (λ (g : Fault). ltb 0 g.place) (λ g e. and_right (eqb g.block 1) _ e) (faults_from Payload sender recipients false 1 payload)
            (from_later Payload sender recipients false 1 0 payload (omega arith)),
      )

  rising_mail : (b : Bool) → rising (missing b ++ blocks) ≡ true
  unfolding missing rising every
  rising_mail true = rising_blocks
  rising_mail false =
      rising_both (fault 0 0 no_valid ∷ []) blocks refl rising_blocks
      (all_before (here 0 0) (λ (g : Fault). ltb 0 g.place) (fault 0 0 no_valid ∷ []) blocks refl behind_mail mail_before)

pub in_order : InOrder
unfolding faults_of faults_in
in_order sender recipients outer payload = rising_mail sender recipients outer payload (valid_behind Outer sender outer)

rising_later : (front l : List Fault) → rising (front ++ l) ≡ true → rising l ≡ true
rising_later [] l e = e
rising_later (f ∷ front) l e = rising_later front l (rising_rest f (front ++ l) e)

pub nothing_twice : NothingTwice
nothing_twice sender recipients outer payload front x rest e =
    rising_once x rest (rising_later front (x ∷ rest) (rw (← e) (in_order sender recipients outer payload)))
