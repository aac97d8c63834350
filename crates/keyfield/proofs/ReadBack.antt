-- C6: what a written value reads as. (`;` is 59.)
--     key_trimmed                      trimming key data does not change its key
--     value_of                         the value that is written for an address, a preference and the text of a key
--     read_back, read_back_key         it is the field of that address in canonical form, that preference, and the key that the text stands for
-- Assumes nothing.
use Prim.Native.Nat.{ℕ}
use mathlib.Core.Path.{◌≡◌, refl, sym, ap, ◌∙◌}
use mathlib.Core.Bool.{Bool, true, false, cond, not, false≢true}
use mathlib.Core.List.{List, [], ◌∷◌, ◌++◌}
use Rattle.std.specs.Prelude.{Option, Some, None}
use native.Mathlib.Omega.{arith}
use borrow.Author.Tests.{ne_eqb}
use lib.Dec.{eqb}
use Rattle.octets.specs.Octets.{ascii, same_octets, blank}
use Rattle.octets.specs.Tests.{every}
use Rattle.octets.proofs.Every.{every_weaker}
use Rattle.runs.specs.Runs.{belongs}
use Rattle.address.specs.Address.{plain, canonical, address_octet}
use Rattle.address.proofs.Sides.{plain_octets, low_apart}
use Rattle.attributes.specs.Attribute.{trimmed, attribute_of}
use Rattle.attributes.specs.Step.{on, last, with_address, with_preference, step}
use Rattle.attributes.proofs.Joined.{other, piece_cut, piece_alone, trimmed_same, without_trimmed, address_joined, preference_joined, key_joined}
use Rattle.keyfield.specs.Field.{said_with, if_last, said_from, said_of, key_of, with_key, field_by, field_of}

pub key_trimmed : (limit : ℕ) (v : List ℕ) → key_of limit (trimmed v) ≡ key_of limit v
unfolding key_of
key_trimmed limit v = rw (without_trimmed v)

-- what is written: ` addr=ADDRESS`, ` prefer-encrypt=mutual` where it is mutual, and ` keydata=TEXT`, joined by `;`
abbrev pub value_of : List ℕ → Bool → List ℕ → List ℕ
value_of a m text = ascii " addr=" ++ a ++ (cond m (ascii "; prefer-encrypt=mutual") [] ++ (ascii "; keydata=" ++ text))

-- what stands in no address
apart : (c : ℕ) → address_octet c ≡ false → (x : ℕ) → address_octet x ≡ true → eqb x c ≡ false
apart c f x e = ne_eqb x c (λ q. false≢true (sym f ∙ ap address_octet (sym q) ∙ e))

-- a piece that the reading goes on behind, and the last one
module _ (address : Option (List ℕ)) (m : Option Bool) (p : List ℕ) where
  from_on : (a : Option (List ℕ)) (b : Option Bool) (rest : List (List ℕ)) → step address m (attribute_of p) ≡ on a b
      → said_from address m (p ∷ rest) ≡ said_from a b rest
  unfolding said_from
  from_on a b rest e = rw (said_from, e)

  from_last : (v : List ℕ) → step address m (attribute_of p) ≡ last v → said_from address m (p ∷ []) ≡ said_with address m v
  unfolding said_from if_last
  from_last v e = rw (said_from, e)

module _ (a text : List ℕ) (p : plain a ≡ true) (t : every (other 59) text ≡ true) where
  -- an address has neither blanks nor `;`
  free : (test : ℕ → Bool) → ((x : ℕ) → address_octet x ≡ true → test x ≡ true) → every test a ≡ true
  free test weaker = every_weaker address_octet test weaker a (plain_octets a p)

  address_trimmed : trimmed a ≡ a
  unfolding blank
  address_trimmed =
      trimmed_same a
      (free (λ x. not (blank x)) (λ x e. rw (apart 32 (low_apart 32 (omega arith)) x e, apart 9 (low_apart 9 (omega arith)) x e)))

  address_piece : every (other 59) (ascii " addr=" ++ a) ≡ true
  unfolding every belongs
  address_piece = free (other 59) (λ x e. rw (apart 59 refl x e))

  key_piece : every (other 59) (ascii " keydata=" ++ text) ≡ true
  unfolding every
  key_piece = t

  address_step : step None None (attribute_of (ascii " addr=" ++ a)) ≡ on (Some a) None
  unfolding step with_address
  address_step = rw (address_joined a address_trimmed, p)

  preference_step : step (Some a) None (attribute_of (ascii " prefer-encrypt=mutual")) ≡ on (Some a) (Some true)
  unfolding same_octets step with_preference
  preference_step = rw preference_joined

  key_step : (m : Option Bool) → step (Some a) m (attribute_of (ascii " keydata=" ++ text)) ≡ last (trimmed text)
  unfolding step
  key_step m = rw (key_joined text)

  -- the pieces, and what they say
  written_said : (m : Bool) → said_of (value_of a m text) ≡ Some (record { address = a; is_mutual = m; text = trimmed text })
  unfolding said_of said_with every
  written_said true =
      rw (
        piece_cut 59 (ascii " addr=" ++ a) address_piece (ascii " prefer-encrypt=mutual; keydata=" ++ text),
        piece_cut 59 (ascii " prefer-encrypt=mutual") refl (ascii " keydata=" ++ text),
        piece_alone 59 (ascii " keydata=" ++ text) key_piece,
        from_on None None (ascii " addr=" ++ a) (Some a) None (ascii " prefer-encrypt=mutual" ∷ (ascii " keydata=" ++ text) ∷ []) address_step,
        from_on (Some a) None (ascii " prefer-encrypt=mutual") (Some a) (Some true) ((ascii " keydata=" ++ text) ∷ []) preference_step,
        from_last (Some a) (Some true) (ascii " keydata=" ++ text) (trimmed text) (key_step (Some true)),
      )
  written_said false =
      rw (
        piece_cut 59 (ascii " addr=" ++ a) address_piece (ascii " keydata=" ++ text),
        piece_alone 59 (ascii " keydata=" ++ text) key_piece,
        from_on None None (ascii " addr=" ++ a) (Some a) None ((ascii " keydata=" ++ text) ∷ []) address_step,
        from_last (Some a) None (ascii " keydata=" ++ text) (trimmed text) (key_step None),
      )

  pub read_back : (limit : ℕ) (m : Bool) → field_of limit (value_of a m text) ≡ with_key a m (key_of limit text)
  unfolding field_of field_by
  read_back limit m = rw (written_said m, key_trimmed limit text)

  pub read_back_key :
      (limit : ℕ) (m : Bool) (k : List ℕ) → key_of limit text ≡ Some k
      → field_of limit (value_of a m text) ≡ Some (record { address = canonical a; is_mutual = m; key = k })
  unfolding with_key
  read_back_key limit m k e = read_back limit m ∙ rw e
