-- What is compared before addresses are: a number of 32 bits, made of the address. No caller sees it, so no rule of SCOPE is about
-- it.
--     first_tag, with_octet, tag_after    it begins as 5381, and for each octet it is taken 33 times and the octet added, within 32 bits
--     tag_of                              the tag of an address
--     in_first                            is a number one of the first n of a list?
use Rattle.std.specs.Prelude.{ℕ, zero, suc, ◌+◌, ◌*◌, ◌%◌, ◌^◌, Bool, false, ◌||◌, List, [], ◌∷◌, ◌==◌, slice_index}

-- the tag of no octets
abbrev pub first_tag : ℕ
first_tag = 5381

-- one octet more; what does not fit into 32 bits is lost
abbrev pub with_octet : ℕ → ℕ → ℕ
with_octet tag x = (tag * 33 + x) % 2 ^ 32

-- the octets s behind those whose tag is given
unfoldable pub tag_after : ℕ → List ℕ → ℕ
tag_after tag [] = tag
tag_after tag (x ∷ s) = tag_after (with_octet tag x) s

unfoldable pub tag_of : List ℕ → ℕ
tag_of s = tag_after first_tag s

unfoldable pub in_first : ℕ → List ℕ → ℕ → Bool
in_first x tags zero = false
in_first x tags (suc n) = in_first x tags n || slice_index tags n == x
