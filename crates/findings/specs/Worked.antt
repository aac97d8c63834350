-- SCOPE, O10: its examples, in its order. Each is answered by computing the definitions.
--     Mail, mails    the blocks, and the numbers that O10 has for them
--     Hold           the definitions list these
use Rattle.std.specs.Prelude.{ℕ, ◌≡◌, List, [], ◌∷◌, ◌++◌}
use Prim.Native.String.{String}
use Rattle.octets.specs.Octets.{ascii}
use Rattle.faults.specs.Faults.{numbers_of}
use Rattle.lint.specs.Linting.{mail_faults}

pub record Mail : Type 0 where
  pub outer : List ℕ
  pub payload : List ℕ
  pub numbers : List ℕ

-- From and To stand first, so that a field given is the third of the outer block
abbrev front : List ℕ
front = ascii "From: a@b\r\nTo: c@d\r\n"

-- O10: a field in the outer block
abbrev pub outside : String → List ℕ → Mail
outside field numbers = record { outer = front ++ ascii field; payload = []; numbers = numbers }

-- O10: a field in the payload
abbrev pub inside : String → List ℕ → Mail
inside field numbers = record { outer = front; payload = ascii field; numbers = numbers }

-- O10: three numbers for each fault
unfoldable pub mails : List Mail
mails =
    outside "Autocrypt: x=1\r\n" (0 ∷ 0 ∷ 1 ∷ 0 ∷ 3 ∷ 3 ∷ 0 ∷ 3 ∷ 4 ∷ 0 ∷ 3 ∷ 5 ∷ [])
    ∷ outside "Autocrypt: x=1\r\nAutocrypt: addr=a@b; keydata=Zg==\r\n" (0 ∷ 3 ∷ 3 ∷ 0 ∷ 3 ∷ 4 ∷ 0 ∷ 3 ∷ 5 ∷ [])
    ∷ outside "Autocrypt: addr=a@b; keydata=Zg==;\r\n" (0 ∷ 0 ∷ 1 ∷ 0 ∷ 3 ∷ 5 ∷ [])
    ∷ outside "Autocrypt: addr=a@b; keydata=Zg==\r\n" []
    ∷ outside "Autocrypt-Gossip:\r\n" (0 ∷ 0 ∷ 1 ∷ 0 ∷ 3 ∷ 5 ∷ 0 ∷ 3 ∷ 6 ∷ 0 ∷ 3 ∷ 7 ∷ [])
    ∷ inside "Autocrypt-Gossip:\r\n" (0 ∷ 0 ∷ 1 ∷ 1 ∷ 1 ∷ 5 ∷ 1 ∷ 1 ∷ 7 ∷ [])
    ∷ inside "Autocrypt-Gossip: addr=C@D; keydata=Zg==\r\n" (0 ∷ 0 ∷ 1 ∷ [])
    ∷ []

-- each mail has the numbers that are told
pub data Hold : List Mail → Type 0 where
  none_left : Hold []
  ◌and◌ : {m : Mail} {rest : List Mail} → numbers_of (mail_faults m.outer m.payload) ≡ m.numbers → Hold rest → Hold (m ∷ rest)

infixr 20 ◌and◌
