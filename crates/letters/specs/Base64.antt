-- SCOPE, F9: Base64 by RFC 4648, section 4. A text is a list of characters' codes.
--     letter           the character of a value
--     sign_of          what a character stands for
--     group_of         what four characters stand for
--     decode           the octets of a padded text with zero unused bits, or none
--     octets_in        the octets, where there are some
--     encode           the padded text of octets
use Rattle.std.specs.Prelude.{ℕ, ◌+◌, ◌-◌, ◌*◌, ◌/◌, ◌%◌, Bool, cond, ◌&&◌, List, [], ◌∷◌, ◌++◌, leb, ltb, eqb}
use Rattle.std.specs.Prelude.{Option, Some, None}
use Rattle.octets.specs.Octets.{octet}
use Rattle.letters.specs.declared.Sign.{Sign}
use Rattle.letters.specs.declared.Sign.TheVariants.{Value, Pad, Other}
use Rattle.letters.specs.declared.Group.{Group}
use Rattle.letters.specs.declared.Group.TheVariants.{Three, Two, One, Broken}

-- F9: the alphabet, `A` to `Z`, `a` to `z`, `0` to `9`, `+` and `/` for the values 0 to 63
unfoldable pub letter : ℕ → ℕ
letter v =
    cond (ltb v 26) (octet "A" + v)
    (cond (ltb v 52) (octet "a" + (v - 26))
    (cond (ltb v 62) (octet "0" + (v - 52))
    (cond (eqb v 62) (octet "+")
    (octet "/"))))

-- F9: the pad
abbrev pub pad : ℕ
pad = octet "="

-- from the first to the last, both included
abbrev pub between : ℕ → ℕ → ℕ → Bool
between first last x = leb first x && leb x last

-- F9: the alphabet read backwards. The pad has no value. F10: no other character stands for anything.
unfoldable pub sign_of : ℕ → Sign
sign_of x =
    cond (between (octet "A") (octet "Z") x) (Value (x - octet "A"))
    (cond (between (octet "a") (octet "z") x) (Value (x - octet "a" + 26))
    (cond (between (octet "0") (octet "9") x) (Value (x - octet "0" + 52))
    (cond (eqb x (octet "+")) (Value 62)
    (cond (eqb x (octet "/")) (Value 63)
    (cond (eqb x pad) Pad
    Other)))))

-- F9: two values and two signs more. Four values are 24 bits, three octets. Three and a pad are two octets and two unused bits, two
-- and two pads are one octet and four unused bits; the unused bits are zero. Anything else is broken.
unfoldable pub closed : ℕ → ℕ → Sign → Sign → Group
closed p q (Value r) (Value s) = Three (p * 4 + q / 16) (q % 16 * 16 + r / 4) (r % 4 * 64 + s)
closed p q (Value r) Pad = cond (eqb (r % 4) 0) (Two (p * 4 + q / 16) (q % 16 * 16 + r / 4)) Broken
closed p q (Value r) Other = Broken
closed p q Pad (Value s) = Broken
closed p q Pad Pad = cond (eqb (q % 16) 0) (One (p * 4 + q / 16)) Broken
closed p q Pad Other = Broken
closed p q Other s = Broken

-- F9: four signs, of which the first two have to be values
unfoldable pub grouped : Sign → Sign → Sign → Sign → Group
grouped (Value p) (Value q) r s = closed p q r s
grouped (Value p) Pad r s = Broken
grouped (Value p) Other r s = Broken
grouped Pad q r s = Broken
grouped Other q r s = Broken

-- F9: four characters, by what each stands for
abbrev pub group_of : ℕ → ℕ → ℕ → ℕ → Group
group_of a b c d = grouped (sign_of a) (sign_of b) (sign_of c) (sign_of d)

-- w in front of what the rest of the text gives
unfoldable pub before : List ℕ → Option (List ℕ) → Option (List ℕ)
before w None = None
before w (Some v) = Some (w ++ v)

-- w, where the text ends here
unfoldable pub at_end : List ℕ → List ℕ → Option (List ℕ)
at_end w [] = Some w
at_end w (x ∷ rest) = None

-- F9: a group, the characters behind it and what those give; only the last group has pads
unfoldable pub follow : Group → List ℕ → Option (List ℕ) → Option (List ℕ)
follow (Three x y z) rest octets = before (x ∷ y ∷ z ∷ []) octets
follow (Two x y) rest octets = at_end (x ∷ y ∷ []) rest
follow (One x) rest octets = at_end (x ∷ []) rest
follow Broken rest octets = None

-- F9: a text, its blanks taken out, comes in whole groups of four characters
unfoldable pub decode : List ℕ → Option (List ℕ)
decode [] = Some []
decode (a ∷ []) = None
decode (a ∷ b ∷ []) = None
decode (a ∷ b ∷ c ∷ []) = None
decode (a ∷ b ∷ c ∷ d ∷ rest) = follow (group_of a b c d) rest (decode rest)

unfoldable pub octets_in : Option (List ℕ) → List ℕ
octets_in None = []
octets_in (Some w) = w

-- F9, W4: 24 bits make four letters; 8 or 16 bits at the end are filled up with zero bits, and the group with pads
unfoldable pub encode : List ℕ → List ℕ
encode [] = []
encode (a ∷ []) = letter (a / 4) ∷ letter (a % 4 * 16) ∷ pad ∷ pad ∷ []
encode (a ∷ b ∷ []) = letter (a / 4) ∷ letter (a % 4 * 16 + b / 16) ∷ letter (b % 16 * 4) ∷ pad ∷ []
encode (a ∷ b ∷ c ∷ rest) =
    letter (a / 4) ∷ letter (a % 4 * 16 + b / 16) ∷ letter (b % 16 * 4 + c / 64) ∷ letter (c % 64) ∷ encode rest
