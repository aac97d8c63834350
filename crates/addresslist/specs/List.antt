-- SCOPE, L8 to L18: lists of addresses. A list is read from its front, a token at a time, and the grammar (crate `grammar`) says
-- which token may stand where.
--     opening_of, run_token .. first_token    tokens
--     listed, addresses                       the addresses of a list, none where it is unreadable
--     among                                   an address is one of some
use Rattle.std.specs.Prelude.{ℕ, zero, suc, Bool, true, false, cond, ◌||◌, List, [], ◌∷◌, eqb, length, take, drop}
use Rattle.std.specs.Prelude.{Option, Some, None}
use Rattle.octets.specs.Octets.{octet, same_octets}
use Rattle.octets.specs.Finding.{holds}
use Rattle.octets.specs.Options.{in_front}
use Rattle.runs.specs.Runs.{run}
use Rattle.tokens.specs.Tokens.{skipped, after_quote}
use Rattle.address.specs.Address.{address_octet, plain, canonical}
use Rattle.grammar.specs.Grammar.{after_address, after, may_end}
use Rattle.grammar.specs.declared.Sort.{Sort}
use Rattle.grammar.specs.declared.Sort.TheVariants.{Word, Less, Greater, Comma, Colon, Semicolon}
use Rattle.addresslist.specs.declared.token.Start.{Start}
use Rattle.addresslist.specs.declared.token.Start.TheVariants.{Run, Quote, Sign, Nothing}
use Rattle.grammar.specs.declared.Stage.{Stage}
use Rattle.grammar.specs.declared.Stage.TheVariants.{Place}

-- L9, L10: what an octet opens that is of no run: a quoted string, or a sign, which is a token by itself. L5, L15: an octet that
-- opens nothing, as a control octet, a bracket or a backslash, makes the list unreadable.
abbrev pub mark_of : ℕ → Start
mark_of x =
    cond (eqb x (octet "\"")) Quote
    (cond (eqb x (octet ",")) (Sign Comma)
    (cond (eqb x (octet "<")) (Sign Less)
    (cond (eqb x (octet ">")) (Sign Greater)
    (cond (eqb x (octet ":")) (Sign Colon)
    (cond (eqb x (octet ";")) (Sign Semicolon) Nothing)))))

-- L12: what a token is shows in its first octet; atom octets, dots and `@` open a run
unfoldable pub opening_of : ℕ → Start
opening_of x = cond (address_octet x) Run (mark_of x)

-- an address, or another token, and the octets behind it; or the end; or what cannot be read
pub data Token : Type 0 where
  address : List ℕ → List ℕ → Token
  other : Sort → List ℕ → Token
  end : Token
  unreadable : Token

-- L12: a run is one token. With an `@` the whole of it is a plain address; else the list is unreadable (L16), so that no blank and
-- no comment stands inside an address (L11). Without an `@` it is words of a phrase (L10).
unfoldable pub run_token : List ℕ → Token
run_token s =
    let n = run address_octet s in
    elim (plain (take n s)) [
      | true ↦ address (take n s) (drop n s)
      | false ↦ elim (holds (octet "@") (take n s)) [ true ↦ unreadable | false ↦ other Word (drop n s) ]
    ]

-- L10: a quoted string is a word; its opening quote is the first octet of s
unfoldable pub quoted_token : List ℕ → Token
quoted_token s = elim (after_quote false (drop 1 s)) [ None ↦ unreadable | Some rest ↦ other Word rest ]

-- the token that a text opens with
unfoldable pub token_at : List ℕ → Token
token_at [] = end
token_at (x ∷ s) =
    elim (opening_of x) [
      | Run ↦ run_token (x ∷ s)
      | Quote ↦ quoted_token (x ∷ s)
      | Sign sort ↦ other sort s
      | Nothing ↦ unreadable
    ]

-- L11: blanks and comments may stand in front of a token
unfoldable pub first_token : List ℕ → Token
first_token s = elim (skipped s) [ None ↦ unreadable | Some rest ↦ token_at rest ]

-- L9, L17: the addresses that the octets s give from a place of the grammar on, in their order, of fewer than n tokens
unfoldable pub listed_by : ℕ → Stage → Bool → List ℕ → Option (List (List ℕ))
listed_by zero stage inside s = None
listed_by (suc n) stage inside s =
    elim (first_token s) [
      | address a rest ↦ elim (after_address stage inside) [
        | Some (next, inner) ↦ in_front a (listed_by n next inner rest)
        | None ↦ None
      ]
      | other sort rest ↦ elim (after stage inside sort) [ Some (next, inner) ↦ listed_by n next inner rest | None ↦ None ]
      | end ↦ elim (may_end stage inside) [ true ↦ Some [] | false ↦ None ]
      | unreadable ↦ None
    ]

-- L17: the addresses of all tokens of s, however many. Each token has an octet at least, so that there are no more tokens than
-- octets.
unfoldable pub listed : Stage → Bool → List ℕ → Option (List (List ℕ))
listed stage inside s = listed_by (suc (length s)) stage inside s

-- L17: the addresses of a list, in order and as they are spelled; none where it is unreadable. L9: a list place must stand in it.
-- L18: so no octets, and blanks and comments alone, are unreadable.
unfoldable pub addresses : List ℕ → Option (List (List ℕ))
addresses s = listed Place false s

-- L8: addresses are the same when their canonical forms are
unfoldable pub among : List ℕ → List (List ℕ) → Bool
among a [] = false
among a (b ∷ rest) = same_octets (canonical b) (canonical a) || among a rest
