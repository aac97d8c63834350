-- Passes over both blocks: what they count, and what they write.
--     missing_numbers            the fault of a mail without a valid field, in numbers
--     first_looks .. passed      `pass`: each block may be looked over, and what both calls leave
--     counted_near               `list_faults`: what was counted is not far
--     room_short, short_left     there is no room
--     none_listed, none_left     there are no faults
--     all_listed, all_left       all of them are written
--     the rulesets               passing, listing
-- Assumes nothing.
use Prim.Native.Nat.{ℕ, ◌+◌, ◌*◌, ◌/◌, ◌<◌, ◌≤◌}
use mathlib.Core.Path.{◌≡◌, refl, sym, ap, ◌∙◌}
use mathlib.Core.Bool.{Bool, true, false, not}
use mathlib.Core.List.{List, [], ◌∷◌, ◌++◌}
use Rattle.std.specs.Prelude.{None, Ok, Err}
use native.Mathlib.Omega.{arith}
use borrow.Author.Rules.{rules}
use borrow.Author.Tests.{le-leb, lt-leb}
use lib.ListN.{length, length-append}
use Rattle.octets.specs.Written.{onto}
use Rattle.refusals.specs.Rows.{first_of, answered_by}
use Rattle.refusals.specs.declared.Refusal.TheVariants.{OutputLength}
use Rattle.roll.specs.Roll.{unrolled}
use Rattle.fields.specs.Fields.{fields_in}
use Rattle.faults.specs.Faults.{Fault, numbers_of}
use Rattle.faults.specs.Laying.{laid_at, numbers_if, room}
use Rattle.faults.proofs.Laying.{laid_none, laid_both, laid_long, laid_onto}
use Rattle.faults.proofs.Counting.{numbers_both, numbers_long}
use Rattle.lookover.specs.Looking.{missing, faults_in, faults_of}
use Rattle.lookover.specs.Answers.{Looks, LookedAs}
use Rattle.lookover.specs.declared.Looked.{Looked}
use Rattle.lookover.specs.declared.Side.TheVariants.{Outer, Payload}
use Rattle.lookover.proofs.Few.{block_few}
use Rattle.lint.specs.Linting.{list_rows}
use Rattle.lint.specs.Stages.{faults_by, faults_with, listed_of, left_by_listing, Readied, PassedAs}
use Rattle.lint.specs.declared.Mail.{Mail}

-- O3: what is written of the missing field are its numbers
pub missing_numbers : (valid : Bool) → numbers_if (not valid) 0 0 1 ≡ numbers_of (missing valid)
unfolding numbers_if missing numbers_of
missing_numbers true = refl
missing_numbers false = refl

missing_most : (valid : Bool) → length (numbers_of (missing valid)) ≤ 3
unfolding missing numbers_of
missing_most true = omega arith
missing_most false = omega arith

-- a list of no length is empty
no_length : (l : List Fault) → length l ≡ 0 → l ≡ []
no_length [] e = refl
no_length (f ∷ l) e = absurd (omega arith)

-- numbers behind those that were written
laid_then : (d e : List ℕ) (at n : ℕ) (v w : List ℕ) → e ≡ laid_at d at v → n ≡ at + length v → laid_at e n w ≡ laid_at d at (v ++ w)
laid_then d e at n v w p q = rw (p, q) (laid_both d at v w)

module _ (m : Mail) where
  module _ (valid : Bool) (front : ℕ) (f : front ≡ 0 + length (numbers_if (not valid) 0 0 1)) where
    front_is : front ≡ length (numbers_of (missing valid))
    front_is = omega (arith, f, ap (λ (l : List ℕ). length l) (missing_numbers valid))

    pub first_looks : (text : List ℕ) → Readied m text → Looks m.outer.now m.sender.now m.recipients.now m.tags.now m.places.now text front
    first_looks text h =
        record {
          readably = h.outer_readable;
          canonical = h.canonical;
          index = h.index;
          room = h.outer_fits;
          near = omega (arith, front_is, missing_most valid);
        }

    abbrev own : List Fault
    own = faults_in Outer m.sender.now (unrolled m.recipients.now) (fields_in m.outer.now)

    abbrev carried : List Fault
    carried = faults_in Payload m.sender.now (unrolled m.recipients.now) (fields_in m.payload.now)

    module _ (list₁ : List ℕ) (first : Looked) (list₂ : List ℕ) (k : LookedAs Outer m.sender.now (unrolled m.recipients.now) m.outer.now list₁ front list₂ first) where
      pub second_looks : (text₀ text : List ℕ) → Readied m text₀ → length text ≡ length text₀
          → Looks m.payload.now m.sender.now m.recipients.now m.tags.now m.places.now text first.end
      second_looks text₀ text h e =
          record {
            readably = h.payload_readable;
            canonical = h.canonical;
            index = h.index;
            room = omega (arith, h.payload_fits, e);
            near =
                omega (
                  arith,
                  k.ended,
                  front_is,
                  missing_most valid,
                  numbers_long own,
                  block_few Outer m.sender.now (unrolled m.recipients.now) m.outer.now h.outer_readable,
                );
          }

      pub passed : (list : List ℕ) → list₁ ≡ laid_at list 0 (numbers_if (not valid) 0 0 1)
          → (second : Looked) (list₃ : List ℕ) → LookedAs Payload m.sender.now (unrolled m.recipients.now) m.payload.now list₂ first.end list₃ second
          → PassedAs m valid list list₃ (record { end = second.end; valid = first.valid })
      unfolding faults_by
      passed list l second list₃ s =
          let absent : List ℕ = numbers_of (missing valid) in
          let all : numbers_of (missing valid ++ (own ++ carried)) ≡ absent ++ (numbers_of own ++ numbers_of carried) =
          numbers_both (missing valid) (own ++ carried) ∙ ap (λ (t : List ℕ). absent ++ t) (numbers_both own carried) in
          record {
            ended = s.ended ∙ rw all (simp length-append (omega (arith, k.ended, front_is)));
            laid =
                s.laid
                ∙ laid_then list₁ list₂ front first.end (numbers_of own) (numbers_of carried) k.laid k.ended
                ∙ laid_then list list₁ 0 front absent (numbers_of own ++ numbers_of carried) (l ∙ ap (laid_at list 0) (missing_numbers valid)) (omega (arith, front_is))
                ∙ ap (laid_at list 0) (sym all);
            validly = k.validly;
          }

pub ruleset passing = (first_looks, second_looks, passed, laid_long, rules)

-- `list_faults`: a pass over a list without room counts all faults but that of a mail without a valid field
module _ (m : Mail) where
  abbrev mail : List Fault
  mail = faults_with m

  abbrev both : List Fault
  both =
      faults_in Outer m.sender.now (unrolled m.recipients.now) (fields_in m.outer.now)
      ++ faults_in Payload m.sender.now (unrolled m.recipients.now) (fields_in m.payload.now)

  module _ (nowhere out : List ℕ) (c : Looked) (p : PassedAs m true nowhere out c) where
    counted_is : c.end ≡ 3 * length both
    unfolding faults_by missing
    counted_is = p.ended ∙ numbers_long both

    pub counted_near : (text : List ℕ) → Readied m text → c.end ≤ room
    counted_near text h =
        omega (
          arith,
          counted_is,
          length-append (faults_in Outer m.sender.now (unrolled m.recipients.now) (fields_in m.outer.now)) (faults_in Payload m.sender.now (unrolled m.recipients.now) (fields_in m.payload.now)),
          block_few Outer m.sender.now (unrolled m.recipients.now) m.outer.now h.outer_readable,
          block_few Payload m.sender.now (unrolled m.recipients.now) m.payload.now h.payload_readable,
        )

    -- all faults are those that a pass writes which knows of the missing field
    mail_is : mail ≡ faults_by c.valid m
    unfolding faults_with faults_of faults_by
    mail_is = rw p.validly

    module _ (n : ℕ) (e : n ≡ length (numbers_of (missing c.valid)) + c.end) where
      needed_is : n ≡ 3 * length mail
      unfolding faults_by
      needed_is =
          omega (
            arith,
            counted_is,
            numbers_long (missing c.valid),
            ap (λ (l : List Fault). length l) mail_is,
            length-append (missing c.valid) both,
          )

      pub room_short : (list : List ℕ) → length list < n → Err OutputLength ≡ listed_of mail (length list)
      unfolding listed_of list_rows first_of answered_by
      room_short list l = rw (lt-leb (3 * length mail) (length list) (omega (arith, needed_is)))

      pub short_left : (list : List ℕ) → length list < n → list ≡ left_by_listing mail list
      unfolding left_by_listing list_rows first_of answered_by
      short_left list l = rw (lt-leb (3 * length mail) (length list) (omega (arith, needed_is)))

      module _ (list : List ℕ) (l : n ≤ length list) where
        roomy : first_of (list_rows mail (length list)) ≡ None
        unfolding list_rows first_of
        roomy = rw (le-leb (3 * length mail) (length list) (omega (arith, needed_is)))

        listed : (k : ℕ) → k ≡ length mail → Ok k ≡ listed_of mail (length list)
        unfolding listed_of answered_by
        listed k q = rw (roomy, q)

        left : (out : List ℕ) → out ≡ onto (numbers_of mail) list → out ≡ left_by_listing mail list
        unfolding left_by_listing answered_by
        left out q = rw roomy q

        module _ (z : n ≡ 0) where
          empty : mail ≡ []
          empty = no_length mail (omega (arith, needed_is))

          pub none_listed : Ok 0 ≡ listed_of mail (length list)
          none_listed = listed 0 (omega (arith, needed_is))

          pub none_left : list ≡ left_by_listing mail list
          unfolding onto numbers_of
          none_left = left list (rw empty)

        module _ (w : Looked) (out₁ : List ℕ) (q : PassedAs m c.valid list out₁ w) where
          pub all_listed : Ok (w.end / 3) ≡ listed_of mail (length list)
          all_listed =
              listed (w.end / 3)
              (omega (arith, q.ended, numbers_long mail, ap (λ (fs : List Fault). length (numbers_of fs)) mail_is))

          pub all_left : out₁ ≡ left_by_listing mail list
          all_left = left out₁ (q.laid ∙ ap (λ (fs : List Fault). laid_at list 0 (numbers_of fs)) (sym mail_is) ∙ laid_onto list (numbers_of mail) (omega (arith, needed_is, numbers_long mail)))

pub ruleset listing = (counted_near, room_short, short_left, none_listed, none_left, all_listed, all_left, rules)
