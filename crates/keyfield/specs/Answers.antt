-- From the rules of page F to what the code answers and leaves in lent memory. An answer gives places of the value; what they show stands between
-- them.
--     whole_of             what is answered where the key data stands
--     said_at, Scans       what the whole value says, as an answer shows it
--     Opens                a key opens lent memory
--     KeyAs                the answer on a key alone
--     ReadAt, ReadAs       the answer on a field
use Rattle.std.specs.Prelude.{ℕ, ◌-◌, ◌≤◌, ◌≡◌, List, length, take, drop, Bool}
use Rattle.std.specs.Prelude.{Option, Some, None}
use Rattle.address.specs.Address.{canonical}
use Rattle.attributes.specs.Answers.{part, Within}
use Rattle.attributes.specs.Steps.{PlainAt}
use Rattle.attributes.specs.declared.Bounds.{Bounds}
use Rattle.keyfield.specs.Field.{Said, mutual_by, said_of, key_of, field_of}
use Rattle.keyfield.specs.declared.Scanned.{Scanned}
use Rattle.keyfield.specs.declared.Read.{Read}

-- what is answered where the key data stands, behind the address and the preference that came before it
unfoldable pub whole_of : Option Bounds → Option Bool → Bounds → Option Scanned
whole_of None preference v = None
whole_of (Some at) preference v = Some (record { address = at; «mutual» = mutual_by preference; key_data = v })

-- what an answer shows of the value s
unfoldable pub said_at : List ℕ → Option Scanned → Option Said
said_at s None = None
said_at s (Some r) =
    Some (record {
      address = part s r.address.from r.address.to;
      is_mutual = r.«mutual»;
      text = part s r.key_data.from r.key_data.to;
    })

-- the places of an answer lie in the value, and those of the address are around a plain one
unfoldable pub WholeWithin : List ℕ → Option Scanned → Type 0
WholeWithin s None = Unit
WholeWithin s (Some r) = PlainAt s r.address.from r.address.to × Within s r.key_data.from r.key_data.to

-- an answer shows what the value says
pub record Scans (s : List ℕ) (r : Option Scanned) : Type 0 where
  pub is : said_at s r ≡ said_of s
  pub within : WholeWithin s r

-- The first n octets of the lent memory are a key that the limit allows.
pub record Opens (limit : ℕ) (key : List ℕ) (n : ℕ) : Type 0 where
  pub some_octet : 1 ≤ n
  pub most : n ≤ limit
  pub within : n ≤ length key

-- Key data stands for the key that opens the lent memory.
pub record KeyAt (limit : ℕ) (text key : List ℕ) (n : ℕ) : Type 0 where
  pub is : key_of limit text ≡ Some (take n key)
  pub opens : Opens limit key n

-- the answer on key data: a key of so many octets, or that there is none
unfoldable pub KeyAs : ℕ → List ℕ → List ℕ → Option ℕ → Type 0
KeyAs limit text key (Some n) = KeyAt limit text key n
KeyAs limit text key None = key_of limit text ≡ None

-- The field is valid in form: its address stands in its place, and its key opens the lent memory.
pub record ReadAt (limit : ℕ) (s key : List ℕ) (r : Read) : Type 0 where
  pub is :
      field_of limit s
      ≡ Some (record {
        address = canonical (take (r.address.to - r.address.from) (drop r.address.from s));
        is_mutual = r.«mutual»;
        key = take r.key key;
      })
  pub stands : PlainAt s r.address.from r.address.to
  pub opens : Opens limit key r.key

-- the answer on a field: what it says, or that it is spoiled
unfoldable pub ReadAs : ℕ → List ℕ → List ℕ → Option Read → Type 0
ReadAs limit s key (Some r) = ReadAt limit s key r
ReadAs limit s key None = field_of limit s ≡ None
