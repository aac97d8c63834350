-- Rows 6 and 7 (R6, R7): whether the message is a report, and whether its payload is searched.
--     judge_skipped .. judge_searched     the payload
--     judge_report, judge_on              the message
--     the ruleset                         judging, for `judge_payload`
-- Assumes nothing.
use Prim.Native.Nat.{ℕ}
use mathlib.Core.Path.{◌≡◌, refl, sym, ap, ◌∙◌}
use mathlib.Core.Bool.{Bool, true, false, not}
use mathlib.Core.List.{List, [], ◌∷◌}
use native.Mathlib.Omega.{arith}
use borrow.Author.Rules.{rules}
use borrow.Author.Tests.{eqb-true}
use lib.Dec.{eqb}
use lib.ListN.{length}
use Rattle.octets.specs.Options.{is_some, or_else}
use Rattle.settings.specs.Settings.{taken}
use Rattle.settings.specs.declared.Gossip.{Gossip}
use Rattle.header.specs.Header.{fields_of, readable}
use Rattle.header.proofs.Fields.{fields_empty}
use Rattle.fields.specs.Fields.{fields_in}
use Rattle.message.specs.Message.{payload_in}
use Rattle.message.specs.Answers.{JudgedAs}
use Rattle.message.specs.declared.Judged.{Judged}
use Rattle.message.specs.declared.Judged.TheVariants.{Report, Unreadable, Passed, Searched}

-- an empty block is readable, and has no fields
empty_readable : (s : List ℕ) → length s ≡ 0 → readable s ≡ true
unfolding is_some
empty_readable [] e = rw fields_empty
empty_readable (x ∷ s) e = absurd (omega arith)

empty_fields : (s : List ℕ) → length s ≡ 0 → fields_in s ≡ []
unfolding fields_in or_else
empty_fields [] e = rw fields_empty
empty_fields (x ∷ s) e = absurd (omega arith)

module _ (payload : List ℕ) (g : Gossip) (u : Bool) (v : u ≡ taken g) where
  pub judge_skipped : u ≡ false → JudgedAs false payload g Passed
  unfolding JudgedAs payload_in
  judge_skipped w =
      let skips : taken g ≡ false = sym v ∙ w in
      record { no_report = refl; no_row = rw skips; fields = rw (payload_in, skips) }

  module _ (w : u ≡ true) where
    takes : taken g ≡ true
    takes = sym v ∙ w

    pub judge_empty : (b : Bool) → b ≡ eqb (length payload) 0 → b ≡ true → JudgedAs false payload g Passed
    unfolding JudgedAs payload_in
    judge_empty b f t =
        let e = eqb-true (length payload) 0 (sym f ∙ t) in
        record { no_report = refl; no_row = rw (takes, empty_readable payload e); fields = rw (payload_in, takes) (empty_fields payload e) }

    module _ (c : Bool) (e : c ≡ is_some (fields_of payload)) where
      pub judge_unreadable : c ≡ false → JudgedAs false payload g Unreadable
      unfolding JudgedAs
      judge_unreadable z = record { no_report = refl; holds = rw takes (ap not (sym e ∙ z)) }

      pub judge_searched : c ≡ true → JudgedAs false payload g Searched
      unfolding JudgedAs payload_in
      judge_searched z =
          record {
            takes = takes;
            passes = record { no_report = refl; no_row = rw takes (ap not (sym e ∙ z)); fields = rw (payload_in, takes) };
            readably = sym e ∙ z;
          }

pub ruleset judging = (judge_skipped, judge_empty, judge_unreadable, judge_searched, rules)

module _ (reported : Bool) (payload : List ℕ) (g : Gossip) (b : Bool) (e : b ≡ reported) where
  pub judge_report : b ≡ true → JudgedAs reported payload g Report
  unfolding JudgedAs
  judge_report y = sym e ∙ y

  pub judge_on : b ≡ false → (r : Judged) → JudgedAs false payload g r → JudgedAs reported payload g r
  judge_on y r h = rw (sym e ∙ y) h
