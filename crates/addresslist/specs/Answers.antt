-- From the definitions of List.antt to what the code answers: places in the list stand for the octets between them.
--     found_in, Inside     a token that was found, and that it lies in the list
--     beginning, left      the first cursor, and what the list still gives from a cursor on
--     Gives, Hands         what is handed out from a cursor
--     counted_of           how many addresses there are
--     only_in, Within      the one address of a list that has no other, and that it lies in the list
use Rattle.std.specs.Prelude.{ℕ, ◌-◌, ◌<◌, ◌≤◌, ◌≡◌, true, false, List, [], length, take, drop}
use Rattle.std.specs.Prelude.{Option, Some, None}
use Rattle.octets.specs.Options.{in_front}
use Rattle.address.specs.Address.{plain}
use Rattle.addresslist.specs.List.{Token, address, other, end, unreadable, listed}
use Rattle.grammar.specs.declared.Stage.TheVariants.{Place}
use Rattle.addresslist.specs.declared.token.TokenAt.{TokenAt}
use Rattle.addresslist.specs.declared.token.TokenAt.TheVariants.{Address as AddressAt, Other as OtherAt, End as Over, Unreadable as Unfound}
use Rattle.addresslist.specs.declared.ListCursor.{ListCursor}
use Rattle.addresslist.specs.declared.NextAddress.{NextAddress}
use Rattle.addresslist.specs.declared.NextAddress.TheVariants.{Address, End, Unreadable}
use Rattle.addresslist.specs.declared.OnlyAddress.{OnlyAddress}

-- the octets from one place of s up to another
abbrev pub between : List ℕ → ℕ → ℕ → List ℕ
between s from to = take (to - from) (drop from s)

unfoldable pub found_in : List ℕ → TokenAt → Token
found_in s (AddressAt from to) = address (between s from to) (drop to s)
found_in s (OtherAt sort to) = other sort (drop to s)
found_in s Over = end
found_in s Unfound = unreadable

-- a token that is looked for from the place `at` on lies behind it, and in the list
abbrev pub Inside : List ℕ → ℕ → TokenAt → Type 0
Inside s at (AddressAt from to) = (at ≤ from) × (from < to) × (to ≤ length s)
Inside s at (OtherAt sort to) = (at < to) × (to ≤ length s)
Inside s at Over = Unit
Inside s at Unfound = Unit

-- the cursor before the first token
abbrev pub beginning : ListCursor
beginning = record { at = 0; stage = Place; inside = false }

-- what the list s still gives from a cursor on; none where it is unreadable
unfoldable pub left : List ℕ → ListCursor → Option (List (List ℕ))
left s c = listed c.stage c.inside (drop c.at s)

-- A plain address of s is handed out: it is in front of what s gives from the next cursor on.
pub record Gives (s : List ℕ) (c : ListCursor) (from to : ℕ) (next : ListCursor) : Type 0 where
  pub gives : left s c ≡ in_front (between s from to) (left s next)
  pub whole : plain (between s from to) ≡ true
  pub behind : c.at ≤ from
  pub long : from < to
  pub upto : to ≤ length s
  pub goes_on : next.at ≡ to

abbrev pub Hands : List ℕ → ListCursor → NextAddress → Type 0
Hands s c (Address from to next) = Gives s c from to next
Hands s c End = left s c ≡ Some []
Hands s c Unreadable = left s c ≡ None

-- L17: equal addresses count as often as they stand
unfoldable pub counted_of : Option (List (List ℕ)) → Option ℕ
counted_of None = None
counted_of (Some list) = Some (length list)

-- the one address of a list that has no other, by its places
unfoldable pub only_in : List ℕ → Option OnlyAddress → Option (List ℕ)
only_in s (Some one) = Some (between s one.from one.to)
only_in s None = None

abbrev pub Within : List ℕ → Option OnlyAddress → Type 0
Within s (Some one) = (one.from < one.to) × (one.to ≤ length s)
Within s None = Unit
