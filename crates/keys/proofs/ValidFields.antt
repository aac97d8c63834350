-- The first valid Autocrypt field: the walk over the Autocrypt fields.
--     try_begin .. try_found       the loop's steps
--     valid_at, valid_none         what a caller asks of the answer
-- Assumes nothing.
use Prim.Native.Nat.{ℕ, ◌-◌}
use mathlib.Core.Path.{◌≡◌}
use mathlib.Core.List.{List, []}
use Rattle.std.specs.Prelude.{Option, Some, None}
use native.Mathlib.Nat.{sub-zero}
use native.Mathlib.Omega.{arith}
use borrow.Author.Rules.{rules}
use lib.ListN.{length, take, drop}
use Rattle.keyfield.specs.Field.{valid_for, valid_fields}
use Rattle.fields.specs.declared.Kind.TheVariants.{Autocrypt}
use Rattle.keyowner.specs.Answers.{OwnAt, OwnAs}
use Rattle.keyowner.specs.declared.OwnKey.{OwnKey}
use Rattle.keyowner.proofs.OwnField.{own_at, own_nothing}
use Rattle.keys.specs.Answers.{Takes, TakenAs, valid_from, Seeks, ValidAt, ValidAs}
use Rattle.keys.specs.declared.Taken.{Taken}
use Rattle.keys.specs.declared.Taken.TheVariants.{Value, NoValue}
use Rattle.keys.specs.declared.Valid.{Valid}
use Rattle.keys.proofs.Walking.{Past, past_begin, past_takes, past_end, past_next, past_found, taken_within, taken_readable, taken_less}

module _ (limit : ℕ) (sender s : List ℕ) (at : ℕ) where
  module _ (last : ℕ) (text key : List ℕ) (k : Seeks limit s at last sender text key) where
    pub try_begin : Past (valid_for limit sender) Autocrypt s at at
    try_begin = past_begin (valid_for limit sender) Autocrypt s at k.takes.clear

    pub try_takes : (place : ℕ) (t : List ℕ) → Past (valid_for limit sender) Autocrypt s at place → length t ≡ length text → Takes Autocrypt s place last t
    try_takes place t h l = past_takes (valid_for limit sender) Autocrypt s at place h last t k.takes.no_more (omega (arith, k.takes.room))

  module _ (place : ℕ) (text : List ℕ) (r : Taken) (h : Past (valid_for limit sender) Autocrypt s at place) (p : TakenAs Autocrypt s place text r) where
    pub try_end : r ≡ NoValue → (key : List ℕ) → ValidAs limit sender s at key None
    unfolding ValidAs valid_from valid_fields
    try_end q key = past_end (valid_for limit sender) Autocrypt s at place h text r p q

    module _ (n e : ℕ) (q : r ≡ Value n e) (key : List ℕ) (o : Option OwnKey) (a : OwnAs limit sender (valid_for limit sender (take (n - 0) (drop 0 text))) key o) where
      answered : OwnAs limit sender (valid_for limit sender (take n text)) key o
      answered = rw sub-zero at a

      pub try_next : o ≡ None → Past (valid_for limit sender) Autocrypt s at e
      try_next y =
          past_next (valid_for limit sender) Autocrypt s at place h text r p n e q
          (own_nothing limit sender (valid_for limit sender (take n text)) key o answered y)

      pub try_found : (w : OwnKey) → o ≡ Some w → ValidAs limit sender s at key (Some (record { own = w; end = e }))
      unfolding ValidAs valid_from valid_fields
      try_found w y =
          let f : OwnAt limit sender (valid_for limit sender (take n text)) key w = own_at limit sender _ key o answered w y in
          record {
            first =
                past_found (valid_for limit sender) Autocrypt s at place h text r p n e q
                (record { address = sender; is_mutual = w.«mutual»; key = take w.length key })
                f.is;
            opens = f.opens;
            readable = taken_readable Autocrypt s place text r p n e q;
          }

pub ruleset trying = (try_begin, try_takes, try_end, try_next, try_found, taken_within, taken_less, rules)

-- as a caller asks it of an answer r
module _ (limit : ℕ) (sender s : List ℕ) (at : ℕ) (key : List ℕ) (r : Option Valid) (p : ValidAs limit sender s at key r) where
  pub valid_at : (v : Valid) → r ≡ Some v → ValidAt limit sender s at key v
  unfolding ValidAs
  valid_at v q = rw q at p

  pub valid_none : r ≡ None → valid_from limit sender s at ≡ []
  unfolding ValidAs
  valid_none q = rw q at p
