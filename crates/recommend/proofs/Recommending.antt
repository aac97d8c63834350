-- Recommending: what the code finds out, and what it answers by it.
--     list_none .. list_empty           the list (R10), as the code counts its addresses
--     admits_not, admits_both           what `admit` answers, with the tags of the table
--     admitted_sound .. admitted_list   where no row holds the table is sound, and the list is readable and has 1 to 100 addresses
--     table_taken                       and open with its tags
--     refused_part .. part_given        the answer of `target_part`, by what `admit` answers
--     table_open .. list_counted_up     that of `recommend_quick`, by the table and by what the walk over the list found
--     part_end .. part_is_key           the part lies within the table, and its octets are the entry's key
--     done_advised .. index_lowest      what comes with the answer of `recommend`
--     the rulesets                      counting, for `is_recipient_list`; admitting, for `admit`; recommending, for `recommend_quick`; parting, for
--                                       `target_part`; handing, for `target_key`
-- Assumes nothing.
use Prim.Native.Nat.{ℕ, ◌+◌, ◌-◌, ◌^◌, ◌<◌, ◌≤◌, zero-le}
use mathlib.Core.Path.{◌≡◌, refl, sym, ap, ◌∙◌}
use mathlib.Core.Bool.{Bool, true, false, ◌&&◌}
use mathlib.Core.List.{List, [], ◌∷◌}
use Rattle.std.specs.Prelude.{Option, Some, None, Result, Ok, Err}
use native.Mathlib.Omega.{arith}
use borrow.Author.Rules.{rules}
use borrow.Author.Tests.{not-false, le-leb, lt-leb}
use lib.Dec.{leb}
use lib.ListN.{length, take, drop}
use mir.Syntax.{w64}
use mir.Val.{Fits}
use Rattle.octets.specs.Options.{or_else, is_some}
use Rattle.octets.proofs.Tests.{by_test}
use Rattle.refusals.specs.Rows.{Row, ◌unless◌, answered_by, answer_of, some_holds}
use Rattle.refusals.specs.declared.Refusal.{Refusal}
use Rattle.refusals.specs.declared.Refusal.TheVariants.{BrokenSlot, Recipients}
use Rattle.refusals.proofs.Rows.{by_refusal, none_here, none_front, none_behind, front_only, refused_is, done_is, answer_refused, answer_done, unless_refuses, unless_passes, front_refuses, front_passes, no_row, rows}
use Rattle.addresslist.specs.List.{addresses}
use Rattle.addresslist.specs.Answers.{counted_of}
use Rattle.addresslist.proofs.Readable.{counted_some, counted_none}
use Rattle.slots.specs.declared.Spelling.TheVariants.{Canonical}
use Rattle.table.specs.Table.{checked}
use Rattle.table.specs.Slotwise.{Broken}
use Rattle.table.specs.Tagged.{Open}
use Rattle.table.specs.declared.Checked.TheVariants.{Sound}
use Rattle.inspect.specs.Inspecting.{table_rows, Opens}
use Rattle.inspect.proofs.Tables.{rows_sound, lowest_broken}
use Rattle.advice.specs.Advice.{overall, first_disable, advised}
use Rattle.advice.specs.Places.{no_part, target_at, octets_at, Within}
use Rattle.advice.specs.declared.Advice.{Advice}
use Rattle.advice.specs.declared.Part.{Part}
use Rattle.advice.proofs.Keys.{place_within, place_octets}
use Rattle.recommend.specs.Recommending.{recipient_list, recommending_rows, refused_recommending, Admits, survey_of, recommended_of, looked_up_of, target_part_of, target_key_of}
use Rattle.recommend.specs.declared.Surveyed.{Surveyed}

-- 1 to 100 addresses
list_of : (o : Option (List (List ℕ))) (list : List (List ℕ)) (n : ℕ) → o ≡ Some list → n ≡ length list → (leb 1 n && leb n 100) ≡ recipient_list o
unfolding recipient_list
list_of o list n e q = rw (e, q)

module _ (o : Option (List (List ℕ))) (k : Option ℕ) (e : k ≡ counted_of o) where
  pub list_none : k ≡ None → false ≡ recipient_list o
  unfolding recipient_list
  list_none q = rw (counted_none o (sym q ∙ e))

  module _ (n : ℕ) (q : k ≡ Some n) where
    list_counted : (leb 1 n && leb n 100) ≡ recipient_list o
    list_counted = let c = counted_some o n (sym q ∙ e) in list_of o c.0 n c.1.0 c.1.1

    pub list_some : 1 ≤ n → leb n 100 ≡ recipient_list o
    list_some l = rw (le-leb 1 n l) at list_counted

    pub list_empty : n < 1 → leb 1 n ≡ recipient_list o
    list_empty l = rw (lt-leb 1 n l) (rw (lt-leb 1 n l) at list_counted)

pub ruleset counting = (list_none, list_some, list_empty, rules)

-- what `admit` answers: k is the answer on the table
module _ (t tags s : List ℕ) where
  pub admits_not : (r : Refusal) → Err r ≡ answer_of (refused_recommending t s) → Admits t tags s (Err r)
  admits_not r e = record { answer = e; opens = λ z. let n : ◌≡◌ {A = ℕ} 0 1 = cc in absurd (omega arith) }

  pub admits_both : (k : Result (Unit {0}) Refusal) → k ≡ Ok tt → Opens t tags k → (Ok tt) ≡ answer_of (refused_recommending t s) → Admits t tags s (Ok tt)
  admits_both k q h e = record { answer = e; opens = λ _. h.opens q }

pub ruleset admitting = (admits_not, admits_both, rows)

list_readable : (o : Option (List (List ℕ))) → recipient_list o ≡ true → is_some o ≡ true
unfolding recipient_list is_some
list_readable None e = e
list_readable (Some list) e = refl

-- no row holds
module _ (t s : List ℕ) (e : refused_recommending t s ≡ None) where
  abbrev last : List Row
  last = (Recipients unless recipient_list (addresses s)) ∷ []

  pub admitted_sound : checked t ≡ Sound
  unfolding refused_recommending recommending_rows
  admitted_sound = rows_sound Canonical t (none_front (table_rows t) last e)

  pub admitted_recipients : recipient_list (addresses s) ≡ true
  unfolding refused_recommending recommending_rows
  admitted_recipients = not-false (recipient_list (addresses s)) (none_here Recipients _ [] (none_behind (table_rows t) last e))

  pub admitted_list : is_some (addresses s) ≡ true
  admitted_list = list_readable (addresses s) admitted_recipients

-- by what `admit` answers
pub table_taken : (t tags s : List ℕ) (k : Result (Unit {0}) Refusal) → k ≡ Ok tt → Admits t tags s k → Open t tags
table_taken t tags s k q h = h.opens q

module _ (t s : List ℕ) (k : Result (Unit {0}) Refusal) (e : k ≡ answer_of (refused_recommending t s)) where
  module _ (r : Refusal) (q : k ≡ Err r) where
    out : refused_recommending t s ≡ Some r
    out = answer_refused (refused_recommending t s) r (sym e ∙ q)

    pub refused_part : (place : ℕ) → no_part ≡ target_part_of t s place
    unfolding target_part_of
    refused_part place = sym (refused_is (λ (x : Refusal). no_part) _ (refused_recommending t s) r out)

  module _ (q : k ≡ Ok tt) where
    in_order : refused_recommending t s ≡ None
    in_order = answer_done (refused_recommending t s) (sym e ∙ q)

    pub list_given : is_some (addresses s) ≡ true
    list_given = admitted_list t s in_order

    pub part_given : (place : ℕ) (p : Part) → p ≡ target_at t (or_else [] (addresses s)) place → p ≡ target_part_of t s place
    unfolding target_part_of
    part_given place p h = h ∙ sym (done_is (λ (x : Refusal). no_part) _ (refused_recommending t s) in_order)

pub ruleset parting = (refused_part, table_taken, list_given, part_given, rules)

-- `recommend_quick`: k is the answer on the table, and z what the walk over the list found
module _ (t s : List ℕ) (m reply : Bool) where
  abbrev all : List Advice
  all = advised t m reply (or_else [] (addresses s))

  module _ (z : Option Surveyed) (e : z ≡ survey_of t m reply (addresses s)) where
    unfit_list : z ≡ None → recipient_list (addresses s) ≡ false
    unfolding survey_of
    unfit_list q =
        by_test (recipient_list (addresses s))
        (λ y. let w : ◌≡◌ {A = Option Surveyed} None (Some (record { advice = overall all; looked_up = first_disable all })) = sym q ∙ e ∙ rw (survey_of, y) in cc)
        (λ n. n)

    fit_list : (f : Surveyed) → z ≡ Some f → (recipient_list (addresses s) ≡ true) × (f ≡ record { advice = overall all; looked_up = first_disable all })
    unfolding survey_of
    fit_list f q =
        by_test (recipient_list (addresses s))
        (λ y. let w : Some f ≡ Some (record { advice = overall all; looked_up = first_disable all }) = sym q ∙ e ∙ rw (survey_of, y) in (y, cc))
        (λ y. let w : Some f ≡ None = sym q ∙ e ∙ rw (survey_of, y) in absurd (let n : ◌≡◌ {A = ℕ} 0 1 = cc in omega arith))

  module _ (tags : List ℕ) (k : Result (Unit {0}) Refusal) (h : Opens t tags k) where
    module _ {A : Type 0} (f : Refusal → A) (d : A) where
      abbrev answered : A
      answered = answered_by (refused_recommending t s) f d

      at_table : (r : Refusal) → k ≡ Err r → f r ≡ answered
      unfolding refused_recommending recommending_rows
      at_table r q = front_refuses f d (table_rows t) _ k h.answer (f r) r q refl

      at_list : k ≡ Ok tt → recipient_list (addresses s) ≡ false → f Recipients ≡ answered
      unfolding refused_recommending recommending_rows
      at_list q e = front_passes f d (table_rows t) _ k h.answer (f Recipients) q (unless_refuses f d Recipients [] (f Recipients) _ e refl)

      at_end : k ≡ Ok tt → recipient_list (addresses s) ≡ true → d ≡ answered
      unfolding refused_recommending recommending_rows
      at_end q e = front_passes f d (table_rows t) _ k h.answer d q (unless_passes f d Recipients [] d _ e (no_row f d d refl))

    pub table_open : k ≡ Ok tt → Open t tags
    table_open q = h.opens q

    module _ (r : Refusal) (q : k ≡ Err r) where
      pub table_refused : (x : Result Advice Refusal) → x ≡ Err r → x ≡ recommended_of t s m reply
      unfolding recommended_of
      table_refused x w = w ∙ at_table Err (Ok (overall all)) r q

      pub table_uncounted : (n : ℕ) → n ≡ 0 → n ≡ looked_up_of t s m reply
      unfolding looked_up_of
      table_uncounted n w = w ∙ at_table (λ (x : Refusal). 0) (first_disable all) r q

    module _ (q : k ≡ Ok tt) (z : Option Surveyed) (e : z ≡ survey_of t m reply (addresses s)) where
      module _ (u : z ≡ None) where
        pub list_refused : (x : Result Advice Refusal) → x ≡ Err Recipients → x ≡ recommended_of t s m reply
        unfolding recommended_of
        list_refused x w = w ∙ at_list Err (Ok (overall all)) q (unfit_list z e u)

        pub list_uncounted : (n : ℕ) → n ≡ 0 → n ≡ looked_up_of t s m reply
        unfolding looked_up_of
        list_uncounted n w = w ∙ at_list (λ (x : Refusal). 0) (first_disable all) q (unfit_list z e u)

      module _ (f : Surveyed) (u : z ≡ Some f) where
        pub list_advised : Ok f.advice ≡ recommended_of t s m reply
        unfolding recommended_of
        list_advised = let w = fit_list z e f u in ap (λ (x : Surveyed). Ok x.advice) w.1 ∙ at_end Err (Ok (overall all)) q w.0

        pub list_counted_up : f.looked_up ≡ looked_up_of t s m reply
        unfolding looked_up_of
        list_counted_up = let w = fit_list z e f u in ap (λ (x : Surveyed). x.looked_up) w.1 ∙ at_end (λ (x : Refusal). 0) (first_disable all) q w.0

pub ruleset recommending = (table_open, table_refused, table_uncounted, list_refused, list_uncounted, list_advised, list_counted_up, rules)

-- the part, and the key that it is
module _ (t s : List ℕ) (place : ℕ) where
  part_none : (r : Refusal) → refused_recommending t s ≡ Some r → target_part_of t s place ≡ no_part
  unfolding target_part_of
  part_none r e = refused_is (λ (x : Refusal). no_part) _ (refused_recommending t s) r e

  part_some : refused_recommending t s ≡ None → target_part_of t s place ≡ target_at t (or_else [] (addresses s)) place
  unfolding target_part_of
  part_some e = done_is (λ (x : Refusal). no_part) _ (refused_recommending t s) e

  pub part_within : Within t (target_part_of t s place)
  part_within =
      by_refusal (refused_recommending t s)
      (λ r e. rw (part_none r e) zero-le)
      (λ e. rw (part_some e) (place_within t (admitted_sound t s e) (or_else [] (addresses s)) place))

  pub part_key : octets_at t (target_part_of t s place) ≡ target_key_of t s place
  unfolding target_key_of octets_at answered_by
  part_key =
      by_refusal (refused_recommending t s)
      (λ r e. rw (part_none r e, target_key_of, e))
      (λ e. rw (part_some e, target_key_of, e) (place_octets t (admitted_sound t s e) (or_else [] (addresses s)) place))

  module _ (p : Part) (h : p ≡ target_part_of t s place) where
    pub part_end : p.start + p.length ≤ length t
    part_end = rw h part_within

    pub part_fits : length t < 2 ^ 64 → Fits w64 (p.start + p.length)
    part_fits l = record { fits = omega (arith, part_end) }

    pub part_octets : take (p.start + p.length - p.start) (drop p.start t) ≡ octets_at t (target_part_of t s place)
    unfolding octets_at
    part_octets =
        let n : p.start + p.length - p.start ≡ p.length = omega arith in
        rw (n, h)

    pub part_is_key : take (p.start + p.length - p.start) (drop p.start t) ≡ target_key_of t s place
    part_is_key = part_octets ∙ part_key

pub ruleset handing = (part_end, part_fits, part_octets, part_is_key, rules)

-- what comes with each answer
module _ (t s : List ℕ) (m reply : Bool) where
  abbrev advice : Advice
  advice = overall (advised t m reply (or_else [] (addresses s)))

  by_answer : (o : Option Refusal) (a : Result Advice Refusal) → answered_by o Err (Ok advice) ≡ a → {P : Type 0}
      → ((r : Refusal) → o ≡ Some r → a ≡ Err r → P) → (o ≡ None → a ≡ Ok advice → P) → P
  unfolding answered_by
  by_answer (Some r) a e refused done = refused r refl (sym e)
  by_answer None a e refused done = done refl (sym e)

  pub done_advised : (a : Advice) → recommended_of t s m reply ≡ Ok a → a ≡ advice
  unfolding recommended_of
  done_advised a e = by_answer (refused_recommending t s) (Ok a) e (λ r q z. cc) (λ q z. cc)

  pub done_admitted : (a : Advice) → recommended_of t s m reply ≡ Ok a → refused_recommending t s ≡ None
  unfolding recommended_of
  done_admitted a e = by_answer (refused_recommending t s) (Ok a) e (λ r q z. let n : ◌≡◌ {A = ℕ} 0 1 = cc in absurd (omega arith)) (λ q z. q)

  pub index_lowest : (i : ℕ) → recommended_of t s m reply ≡ Err (BrokenSlot i) → Broken t i
  unfolding recommended_of refused_recommending recommending_rows some_holds
  index_lowest i e =
      by_answer (refused_recommending t s) (Err (BrokenSlot i)) e
      (λ r q z.
      let same : BrokenSlot i ≡ r = cc in
      lowest_broken Canonical t i (front_only (table_rows t) ((Recipients unless recipient_list (addresses s)) ∷ []) (BrokenSlot i) refl (q ∙ ap Some (sym same))))
      (λ q z. let n : ◌≡◌ {A = ℕ} 0 1 = cc in absurd (omega arith))
