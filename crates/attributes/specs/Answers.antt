-- From the definitions of Attribute.antt to what the code answers. An answer gives places of the value; what they show stands
-- between them.
--     part                 what stands between two places
--     Within               two places, in order
--     FirstAt              the first place of an octet
--     TrimmedFrom .. Trimmed    places between which stands what another two have between them, trimmed in front, behind, on both sides
--     attribute_at         the attribute that an answer shows
--     ValueWithin, Tells   the places of its value lie in the text; an answer shows this attribute
use Rattle.std.specs.Prelude.{ℕ, ◌+◌, ◌-◌, ◌≤◌, ◌≡◌, List, length, take, drop}
use Rattle.pieces.specs.Pieces.{before}
use Rattle.attributes.specs.Attribute.{Attribute, addr, prefer_encrypt, keydata, ignored, spoiling, trimmed_front, trimmed_back, trimmed}
use Rattle.attributes.specs.declared.Bounds.{Bounds}
use Rattle.attributes.specs.declared.Attribute.{Attribute as Told}
use Rattle.attributes.specs.declared.Attribute.TheVariants.{Addr, PreferEncrypt, Keydata, Ignored, Spoiling}

-- what stands from the place `from` up to the place `to`
unfoldable pub part : List ℕ → ℕ → ℕ → List ℕ
part s from to = take (to - from) (drop from s)

-- places of s, in order
pub record Within (s : List ℕ) (from to : ℕ) : Type 0 where
  pub order : from ≤ to
  pub upto : to ≤ length s

-- r is the first place of x between two others, or `to` where there is none
pub record FirstAt (s : List ℕ) (from to x r : ℕ) : Type 0 where
  pub is : r ≡ from + length (before x (part s from to))
  pub upto : r ≤ to

-- F2: from r on stands what stood from `from` on, without the blanks in front
pub record TrimmedFrom (s : List ℕ) (from to r : ℕ) : Type 0 where
  pub is : part s r to ≡ trimmed_front (part s from to)
  pub low : from ≤ r
  pub high : r ≤ to

-- F2: up to r stands what stood up to `to`, without the blanks behind
pub record TrimmedTo (s : List ℕ) (from to r : ℕ) : Type 0 where
  pub is : part s from r ≡ trimmed_back (part s from to)
  pub low : from ≤ r
  pub high : r ≤ to

-- F2: between the answer's places stands what stood between the others, without the blanks at both ends
pub record Trimmed (s : List ℕ) (from to : ℕ) (r : Bounds) : Type 0 where
  pub low : from ≤ r.from
  pub order : r.from ≤ r.to
  pub high : r.to ≤ to
  pub is : part s r.from r.to ≡ trimmed (part s from to)

unfoldable pub attribute_at : List ℕ → Told → Attribute
attribute_at s (Addr v) = addr (part s v.from v.to)
attribute_at s (PreferEncrypt v) = prefer_encrypt (part s v.from v.to)
attribute_at s (Keydata v) = keydata (part s v.from v.to)
attribute_at s Ignored = ignored
attribute_at s Spoiling = spoiling

unfoldable pub ValueWithin : List ℕ → Told → Type 0
ValueWithin s (Addr v) = Within s v.from v.to
ValueWithin s (PreferEncrypt v) = Within s v.from v.to
ValueWithin s (Keydata v) = Within s v.from v.to
ValueWithin s Ignored = Unit
ValueWithin s Spoiling = Unit

-- an answer shows this attribute
pub record Tells (s : List ℕ) (r : Told) (a : Attribute) : Type 0 where
  pub is : attribute_at s r ≡ a
  pub within : ValueWithin s r
