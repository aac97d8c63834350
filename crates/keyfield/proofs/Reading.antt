-- A whole field, from what its value says and from its key.
--     key_order, key_upto                    where the key data stands
--     read_broken, read_keyless, read_valid  the answers by what is said, and by the key's
-- Assumes nothing.
use Prim.Native.Nat.{ℕ, ◌-◌, ◌≤◌}
use mathlib.Core.Path.{◌≡◌, ◌∙◌}
use mathlib.Core.List.{List}
use Rattle.std.specs.Prelude.{Option, Some, None}
use borrow.Author.Rules.{rules}
use lib.ListN.{length, take, drop}
use Rattle.attributes.specs.Answers.{part}
use Rattle.keyfield.specs.Field.{key_of, with_key, field_by, field_of}
use Rattle.keyfield.specs.Answers.{said_at, WholeWithin, Scans, KeyAt, KeyAs, ReadAs}
use Rattle.keyfield.specs.declared.Scanned.{Scanned}
use Rattle.keyfield.specs.declared.Read.{Read}

module _ (limit : ℕ) (s : List ℕ) (g : Option Scanned) (t : Scans s g) where
  pub read_broken : g ≡ None → (key : List ℕ) (r : Option Read) → r ≡ None → ReadAs limit s key r
  unfolding ReadAs field_of field_by said_at
  read_broken b key r e = let k : said_at s None ≡ _ = rw b at t.is in rw (e, ← k)

  module _ (f : Scanned) (w : g ≡ Some f) (key : List ℕ) (k : Option ℕ)
      (a : KeyAs limit (take (f.key_data.to - f.key_data.from) (drop f.key_data.from s)) key k) where
    field_is :
        field_of limit s
        ≡ with_key (part s f.address.from f.address.to) f.«mutual» (key_of limit (part s f.key_data.from f.key_data.to))
    unfolding field_of field_by said_at
    field_is = let h : said_at s (Some f) ≡ _ = rw w at t.is in rw (← h)

    pub read_keyless : k ≡ None → (r : Option Read) → r ≡ None → ReadAs limit s key r
    unfolding ReadAs KeyAs with_key part
    read_keyless q r z =
        let e : key_of limit (take (f.key_data.to - f.key_data.from) (drop f.key_data.from s)) ≡ None = rw q at a in
        rw z (field_is ∙ rw e)

    pub read_valid : (n : ℕ) → k ≡ Some n → ReadAs limit s key (Some (record { address = f.address; «mutual» = f.«mutual»; key = n }))
    unfolding ReadAs KeyAs WholeWithin with_key part
    read_valid n q =
        let h : KeyAt limit (take (f.key_data.to - f.key_data.from) (drop f.key_data.from s)) key n = rw q at a in
        let there : WholeWithin s (Some f) = rw w at t.within in
        record { is = field_is ∙ rw h.is; stands = there.0; opens = h.opens }

-- where the key data stands
module _ (s : List ℕ) (g : Option Scanned) (t : Scans s g) (f : Scanned) (w : g ≡ Some f) where
  there : WholeWithin s (Some f)
  there = rw w at t.within

  pub key_order : f.key_data.from ≤ f.key_data.to
  unfolding WholeWithin
  key_order = there.1.order

  pub key_upto : f.key_data.to ≤ length s
  unfolding WholeWithin
  key_upto = there.1.upto

pub ruleset reading = (read_broken, read_keyless, read_valid, key_order, key_upto, rules)
