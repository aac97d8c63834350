-- The answers of the code, as the definitions of Words.antt have them.
--     token_in             what a place in the text s stands for: the octets from there on
--     Inside               a token lies in the text s
use Rattle.std.specs.Prelude.{ℕ, ◌-◌, ◌≤◌, List, length, take, drop}
use Rattle.std.specs.Prelude.{Option, Some, None}
use Rattle.datewords.specs.Words.{Token, token, end, unreadable}
use Rattle.datewords.specs.declared.token.WordAt.{WordAt}
use Rattle.datewords.specs.declared.token.WordAt.TheVariants.{Between, End, Unreadable}

unfoldable pub token_in : List ℕ → WordAt → Token
token_in s (Between from to) = token (take (to - from) (drop from s)) (drop to s)
token_in s End = end
token_in s Unreadable = unreadable

abbrev pub Inside : List ℕ → WordAt → Type 0
Inside s (Between from to) = (from ≤ to) × (to ≤ length s)
Inside s End = Unit
Inside s Unreadable = Unit
