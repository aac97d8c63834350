-- One gossip field: by what the field says, its canonical address, and whether the roll of recipients holds it.
--     by_none, by_listed, by_other                 what is accepted, by the field
--     accept_within, accept_canonical              where the address stands, and that it is canonical
--     accept_spoiled, accept_no_room, accept_not, accept_listed     the answer
--     accepted_at, accepted_nothing                what a caller asks of it
-- Assumes nothing.
use Prim.Native.Nat.{ℕ, ◌-◌, ◌≤◌}
use mathlib.Core.Path.{◌≡◌, refl, sym, ap, ◌∙◌}
use mathlib.Core.Bool.{Bool, true, false}
use mathlib.Core.List.{List}
use Rattle.std.specs.Prelude.{Option, Some, None}
use native.Mathlib.Omega.{arith}
use native.Mathlib.Nat.{sub-zero}
use borrow.Author.Rules.{rules}
use lib.ListN.{length, take, drop}
use Rattle.octets.specs.Written.{onto}
use Rattle.header.proofs.Unfolding.{value_within, value_there}
use Rattle.address.specs.Address.{plain, canonical, is_canonical}
use Rattle.address.specs.Answers.{written_of, onto_if_fits}
use Rattle.address.proofs.Room.{written_length, written_no_room, onto_fits}
use Rattle.address.proofs.Spelling.{canonical_most, plain_is_canonical}
use Rattle.addresslist.specs.List.{among}
use Rattle.slots.specs.Slot.{address_room}
use Rattle.attributes.specs.Answers.{part}
use Rattle.keyfield.specs.Field.{Field}
use Rattle.keyfield.specs.Answers.{ReadAt, ReadAs}
use Rattle.keyfield.specs.declared.Read.{Read}
use Rattle.keyfield.proofs.Told.{told_from, told_upto, told_field, told_spoiled}
use Rattle.update.specs.Message.{Gossiped}
use Rattle.keyowner.specs.Owners.{accepted_by, accepted_for}
use Rattle.keyowner.specs.Answers.{AcceptedAt, AcceptedAs}
use Rattle.keyowner.specs.declared.Accepted.{Accepted}

module _ (recipients : List (List ℕ)) where
  pub by_none : accepted_by recipients None ≡ None
  unfolding accepted_by
  by_none = refl

  module _ (f : Field) where
    pub by_listed : among f.address recipients ≡ true → accepted_by recipients (Some f) ≡ Some (record { address = f.address; key = f.key })
    unfolding accepted_by
    by_listed e = rw (accepted_by, e)

    pub by_other : among f.address recipients ≡ false → accepted_by recipients (Some f) ≡ None
    unfolding accepted_by
    by_other e = rw (accepted_by, e)

-- The address of a valid field, in canonical form, in lent memory.
pub record Named (limit : ℕ) (s address key : List ℕ) (f : Read) (n : ℕ) : Type 0 where
  pub field : ReadAt limit s key f
  pub there : take n address ≡ canonical (take (f.address.to - f.address.from) (drop f.address.from s))
  pub within : n ≤ length address

module _ (limit : ℕ) (s key : List ℕ) (r : Option Read) (a : ReadAs limit s key r) where
  pub accept_spoiled :
      (recipients : List (List ℕ)) (address : List ℕ) (o : Option Accepted) → o ≡ None → r ≡ None
      → AcceptedAs limit (accepted_for limit recipients s) address key o
  unfolding AcceptedAs accepted_for
  accept_spoiled recipients address o e q =
      rw e (ap (accepted_by recipients) (told_spoiled limit s key r a q) ∙ by_none recipients)

  module _ (f : Read) (q : r ≡ Some f) where
    abbrev named : List ℕ
    named = canonical (take (f.address.to - f.address.from) (drop f.address.from s))

    pub accept_plain : plain (take (f.address.to - f.address.from) (drop f.address.from s)) ≡ true
    unfolding part
    accept_plain = (told_field limit s key r a f q).stands.plainly

    fits : (room : ℕ) → address_room ≤ room → length named ≤ room
    fits room h = omega (arith, canonical_most (take (f.address.to - f.address.from) (drop f.address.from s)) accept_plain)

    module _ (room : List ℕ) (h : address_room ≤ length room) (w : Option ℕ) (u : w ≡ written_of (canonical (take (f.address.to - f.address.from) (drop f.address.from s))) (length room)) where
      -- there is room
      pub accept_no_room : (recipients : List (List ℕ)) (address : List ℕ) → w ≡ None → AcceptedAs limit (accepted_for limit recipients s) address key None
      accept_no_room recipients address y = absurd (omega (arith, written_no_room named (length room) (sym y ∙ u), fits (length room) h))

      module _ (n : ℕ) (y : w ≡ Some n) (address : List ℕ) (z : address ≡ onto_if_fits (canonical (take (f.address.to - f.address.from) (drop f.address.from s))) room) where
        long : n ≡ length named
        long = (written_length named (length room) n (sym y ∙ u)).0

        written : address ≡ onto named room
        written = z ∙ onto_fits named room (fits (length room) h)

        pub accept_within : n ≤ length address
        accept_within = value_within named room address n long written

        pub accept_named : Named limit s address key f n
        accept_named =
            record {
              field = told_field limit s key r a f q;
              there = value_there named room address n long written;
              within = accept_within;
            }

        -- as it is looked for among the recipients
        pub accept_canonical : is_canonical (take (n - 0) (drop 0 address)) ≡ true
        accept_canonical = rw (sub-zero, accept_named.there) (plain_is_canonical (take (f.address.to - f.address.from) (drop f.address.from s)) accept_plain)

-- by the test first, then by the places of the address
module _ (limit : ℕ) (recipients : List (List ℕ)) (s address key : List ℕ) (n : ℕ) (b : Bool) where
  module _ (f : Read) (o : Named limit s address key f n) (e : b ≡ among (take (n - 0) (drop 0 address)) recipients) where
    abbrev field : Field
    field = record { address = canonical (take (f.address.to - f.address.from) (drop f.address.from s)); is_mutual = f.«mutual»; key = take f.key key }

    tested : b ≡ among field.address recipients
    tested = e ∙ ap (λ (x : List ℕ). among x recipients) (rw sub-zero o.there)

    by_field : accepted_for limit recipients s ≡ accepted_by recipients (Some field)
    unfolding accepted_for
    by_field = ap (accepted_by recipients) o.field.is

  pub accept_not :
      b ≡ false → b ≡ among (take (n - 0) (drop 0 address)) recipients
      → (r : Option Read) (f : Read) → r ≡ Some f → Named limit s address key f n
      → AcceptedAs limit (accepted_for limit recipients s) address key None
  unfolding AcceptedAs
  accept_not t e r f q o = by_field f o e ∙ by_other recipients (field f o e) (sym (tested f o e) ∙ t)

  pub accept_listed :
      b ≡ true → b ≡ among (take (n - 0) (drop 0 address)) recipients
      → (r : Option Read) (f : Read) → r ≡ Some f → Named limit s address key f n
      → AcceptedAs limit (accepted_for limit recipients s) address key (Some (record { address = n; key = f.key }))
  unfolding AcceptedAs part
  accept_listed t e r f q o =
      record {
        is =
            by_field f o e
            ∙ by_listed recipients (field f o e) (sym (tested f o e) ∙ t)
            ∙ ap Some (λ i. record { address = sym o.there i; key = take f.key key });
        canonical = rw o.there (plain_is_canonical (take (f.address.to - f.address.from) (drop f.address.from s)) o.field.stands.plainly);
        address_within = o.within;
        opens = o.field.opens;
      }

pub ruleset accepting =
    (accept_spoiled, accept_plain, accept_no_room, accept_within, accept_named, accept_canonical, accept_not, accept_listed, told_from, told_upto, rules)

-- as a caller asks it of an answer r
module _ (limit : ℕ) (o : Option Gossiped) (address key : List ℕ) (r : Option Accepted) (p : AcceptedAs limit o address key r) where
  pub accepted_at : (g : Accepted) → r ≡ Some g → AcceptedAt limit o address key g
  unfolding AcceptedAs
  accepted_at g q = rw q at p

  pub accepted_nothing : r ≡ None → o ≡ None
  unfolding AcceptedAs
  accepted_nothing q = rw q at p
