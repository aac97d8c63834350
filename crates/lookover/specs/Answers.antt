-- From the definitions of Looking.antt to what the code asks for, answers and leaves in lent memory (SCOPE, O2 to O9).
--     JudgedAs           the answer on an Autocrypt value
--     Judges, FieldAs    a field asked about, and the answer on it
--     Looks, LookedAs    a block asked about, and the answer on it
use Rattle.std.specs.Prelude.{ℕ, ◌+◌, ◌≤◌, ◌≡◌, Bool, true, List, length}
use Rattle.header.specs.Header.{readable, unfolded}
use Rattle.address.specs.Address.{is_canonical}
use Rattle.roll.specs.Index.{Indexed}
use Rattle.fields.specs.Fields.{fields_in}
use Rattle.faults.specs.Faults.{numbers_of}
use Rattle.faults.specs.Laying.{laid_at}
use Rattle.lookover.specs.Looking.{is_valid, own_flaws, flaws_of, valid_in, faults_in, valid_behind}
use Rattle.lookover.specs.declared.Side.{Side}
use Rattle.lookover.specs.declared.Judged.{Judged}
use Rattle.lookover.specs.declared.Looked.{Looked}

pub record JudgedAs (sender : List ℕ) (seen : Bool) (v : List ℕ) (r : Judged) : Type 0 where
  pub flawed : r.flaws ≡ own_flaws sender seen v
  pub validly : r.valid ≡ is_valid sender v

-- The sender's address is canonical, the roll of the recipients has its index, and the text has room for the value.
pub record Judges (raw sender recipients tags places text : List ℕ) : Type 0 where
  pub canonical : is_canonical sender ≡ true
  pub index : Indexed recipients tags places
  pub room : length raw ≤ length text

pub record FieldAs (side : Side) (sender : List ℕ) (recipients : List (List ℕ)) (seen : Bool) (name raw : List ℕ) (r : Judged) : Type 0 where
  pub flawed : r.flaws ≡ flaws_of side sender recipients seen (record { name = name; value = unfolded raw })
  pub validly : r.valid ≡ valid_in side sender (record { name = name; value = unfolded raw })

-- The block is readable, the text has room for its values, and the list is written from a place on that is not far.
pub record Looks (block sender recipients tags places text : List ℕ) (at : ℕ) : Type 0 where
  pub readably : readable block ≡ true
  pub canonical : is_canonical sender ≡ true
  pub index : Indexed recipients tags places
  pub room : length block ≤ length text
  pub near : at ≤ 2147483648

-- The faults of the block are counted, and written as far as the list goes.
pub record LookedAs (side : Side) (sender : List ℕ) (recipients : List (List ℕ)) (block list : List ℕ) (at : ℕ) (out : List ℕ) (r : Looked) : Type 0 where
  pub ended : r.end ≡ at + length (numbers_of (faults_in side sender recipients (fields_in block)))
  pub laid : out ≡ laid_at list at (numbers_of (faults_in side sender recipients (fields_in block)))
  pub validly : r.valid ≡ valid_behind side sender (fields_in block)
