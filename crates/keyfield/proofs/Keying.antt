-- The key that key data stands for, by what decoding into room for the limit answered.
--     room_is                      that room
--     key_empty, key_refused       there is none
--     key_found                    there is one, which opens the lent memory
-- Assumes nothing.
use Prim.Native.Nat.{ℕ, ◌-◌, ◌≤◌}
use mathlib.Core.Path.{◌≡◌, refl, sym, ap, ◌∙◌}
use mathlib.Core.Bool.{and-false}
use mathlib.Core.List.{List, ◌++◌, append_assoc}
use Rattle.std.specs.Prelude.{Option, Some, None}
use native.Mathlib.Omega.{arith}
use native.Mathlib.Nat.{sub-zero}
use borrow.Author.Rules.{rules}
use borrow.Author.Tests.{lt-leb}
use lib.ListN.{length, take, drop, length-append}
use lib.Seq.{length-take-le, take_at}
use Rattle.octets.specs.Written.{onto}
use Rattle.octets.specs.Octets.{without_blanks}
use Rattle.letters.specs.Base64.{decode, octets_in}
use Rattle.keydata.specs.Answers.{decoded_of, Decodes}
use Rattle.keydata.specs.Steps.{NoneFit}
use Rattle.keydata.proofs.Answered.{octets_answered, refused_answered, octets_held}
use Rattle.keyfield.specs.Field.{limited, key_of}
use Rattle.keyfield.specs.Answers.{KeyAs}
use Rattle.keyfield.proofs.Fields.{key_made}

-- the octets of a text that stands for some
abbrev octets : List ℕ → List ℕ
octets text = octets_in (decode (without_blanks text))

limited_none : (limit : ℕ) (o : Option (List ℕ)) → NoneFit o limit → limited limit o ≡ None
unfolding limited
limited_none limit None h = refl
limited_none limit (Some k) h = rw (lt-leb (length k) limit (h.over k refl), and-false)

module _ (text : List ℕ) (limit : ℕ) (d : List ℕ) (l : limit ≤ length d) where
  abbrev room : List ℕ
  room = take (limit - 0) (drop 0 d)

  room_is : length room ≡ limit
  room_is = rw sub-zero (length-take-le limit d l)

  module _ (g : Option ℕ) (e : g ≡ decoded_of (decode (without_blanks text)) (length (take (limit - 0) (drop 0 d)))) where
    told : g ≡ decoded_of (decode (without_blanks text)) limit
    told = e ∙ ap (decoded_of (decode (without_blanks text))) room_is

    pub key_refused : g ≡ None → (key : List ℕ) → KeyAs limit text key None
    unfolding KeyAs key_of
    key_refused k key = limited_none limit _ (refused_answered (decode (without_blanks text)) limit (sym k ∙ told))

    module _ (n : ℕ) (k : g ≡ Some n) where
      answered : (decode (without_blanks text) ≡ Some (octets text)) × (length (octets text) ≡ n) × (n ≤ limit)
      answered = octets_answered (decode (without_blanks text)) limit n (sym k ∙ told)

      pub key_empty : n ≡ 0 → (key : List ℕ) → KeyAs limit text key None
      unfolding KeyAs key_of limited
      key_empty z key = rw (answered.0, answered.1, z)

      module _ (some_octet : n ≡ 0 → ⊥) (out : List ℕ) (p : Decodes (decode (without_blanks text)) (take (limit - 0) (drop 0 d)) out g) where
        key_is : key_of limit text ≡ Some (octets text)
        key_is =
            key_made limit text (octets text)
            (record { decoded = answered.0; least = omega (arith, answered.1); most = omega (arith, answered.1, answered.2) })

        -- the octets are written over the beginning of the room, and behind it nothing is
        opens : (rest : List ℕ) → take n (out ++ rest) ≡ octets text
        unfolding onto
        opens rest =
            rw (octets_held _ room out g n p k, append_assoc (octets text) (drop (length (octets text)) room) rest)
            (take_at (octets text) (drop (length (octets text)) room ++ rest) n answered.1)

        long : (rest : List ℕ) → n ≤ length (out ++ rest)
        unfolding onto
        long rest = rw (octets_held _ room out g n p k) (simp length-append (omega (arith, answered.1)))

        pub key_found : KeyAs limit text (take 0 d ++ (out ++ drop (limit - 0) (drop 0 d))) (Some n)
        unfolding KeyAs
        key_found =
            record {
              is = rw (opens (drop (limit - 0) (drop 0 d))) key_is;
              opens = record { some_octet = omega arith; most = answered.2; within = long (drop (limit - 0) (drop 0 d)) };
            }

pub ruleset keying = (key_refused, key_empty, key_found, rules)
