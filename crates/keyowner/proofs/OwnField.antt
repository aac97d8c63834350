-- One Autocrypt field: by what the field says, and whether it names the sender.
--     own_spoiled, own_other, own_key      the answer
--     own_at, own_nothing                  what a caller asks of it
-- Assumes nothing.
use Prim.Native.Nat.{ℕ, ◌-◌}
use mathlib.Core.Path.{◌≡◌, refl, sym, ◌∙◌}
use mathlib.Core.Bool.{Bool, true, false}
use mathlib.Core.List.{List}
use Rattle.std.specs.Prelude.{Option, Some, None}
use borrow.Author.Rules.{rules}
use lib.ListN.{take, drop}
use Rattle.octets.specs.Octets.{same_octets}
use Rattle.octets.proofs.Comparing.{same_true}
use Rattle.address.specs.Address.{canonical}
use Rattle.keyfield.specs.Field.{Field, valid_for}
use Rattle.keyfield.specs.Answers.{ReadAt, ReadAs}
use Rattle.keyfield.specs.declared.Read.{Read}
use Rattle.keyfield.proofs.Told.{told_from, told_upto, told_field, told_spoiled}
use Rattle.keyfield.proofs.Counted.{naming_sender, naming_other, naming_spoiled}
use Rattle.keyowner.specs.Answers.{OwnAt, OwnAs}
use Rattle.keyowner.specs.declared.OwnKey.{OwnKey}

module _ (limit : ℕ) (sender s key : List ℕ) (r : Option Read) where
  pub own_spoiled : (o : Option OwnKey) → o ≡ None → r ≡ None → ReadAs limit s key r → OwnAs limit sender (valid_for limit sender s) key o
  unfolding OwnAs
  own_spoiled o e q a = rw e (naming_spoiled limit sender s (told_spoiled limit s key r a q))

  -- by the test first
  module _ (b : Bool) (f : Read) where
    abbrev named : List ℕ
    named = canonical (take (f.address.to - f.address.from) (drop f.address.from s))

    pub own_other :
        b ≡ false → b ≡ same_octets (canonical (take (f.address.to - f.address.from) (drop f.address.from s))) sender
        → r ≡ Some f → ReadAs limit s key r → OwnAs limit sender (valid_for limit sender s) key None
    unfolding OwnAs
    own_other z u q a =
        naming_other limit sender s (record { address = named; is_mutual = f.«mutual»; key = take f.key key })
        (told_field limit s key r a f q).is
        (sym u ∙ z)

    pub own_key :
        b ≡ true → b ≡ same_octets (canonical (take (f.address.to - f.address.from) (drop f.address.from s))) sender
        → r ≡ Some f → ReadAs limit s key r
        → OwnAs limit sender (valid_for limit sender s) key (Some (record { «mutual» = f.«mutual»; length = f.key }))
    unfolding OwnAs
    own_key z u q a =
        let read : ReadAt limit s key f = told_field limit s key r a f q in
        let same : named ≡ sender = same_true named sender (sym u ∙ z) in
        let g : Field = record { address = sender; is_mutual = f.«mutual»; key = take f.key key } in
        record { is = naming_sender limit sender s g (rw same at read.is) refl; opens = read.opens }

pub ruleset owning = (own_spoiled, own_other, own_key, told_from, told_upto, rules)

-- as a caller asks it of an answer r
module _ (limit : ℕ) (sender : List ℕ) (o : Option Field) (key : List ℕ) (r : Option OwnKey) (p : OwnAs limit sender o key r) where
  pub own_at : (k : OwnKey) → r ≡ Some k → OwnAt limit sender o key k
  unfolding OwnAs
  own_at k q = rw q at p

  pub own_nothing : r ≡ None → o ≡ None
  unfolding OwnAs
  own_nothing q = rw q at p
