-- A piece that is a name, "=" (61) and a value; pieces before a separator, and alone.
--     other                            any octet but one
--     piece_cut, piece_alone           a piece before a separator, and a piece alone
--     trimmed_same                     a text without blanks stays what it is when trimmed
--     without_trimmed                  trimming takes out only what goes with all blanks
--     address_joined, preference_joined, key_joined     what a written piece says
-- Assumes nothing.
use Prim.Native.Nat.{ℕ}
use mathlib.Core.Path.{◌≡◌, refl, sym, ap, ◌∙◌}
use mathlib.Core.Bool.{Bool, true, false, not}
use mathlib.Core.List.{List, [], ◌∷◌, ◌++◌, append-nil, reverse, reverse-cons, reverse-reverse}
use native.Mathlib.Omega.{arith}
use borrow.Author.Tests.{eq-eqb, not-true}
use lib.Dec.{eqb}
use lib.ListN.{length-append}
use Rattle.octets.specs.Octets.{ascii, same_octets, blank, without_blanks}
use Rattle.octets.specs.Tests.{every, without}
use Rattle.octets.specs.Finding.{holds}
use Rattle.octets.proofs.Finding.{by}
use Rattle.octets.proofs.Tests.{and_left}
use Rattle.octets.proofs.Without.{without_passing, without_other}
use Rattle.pieces.specs.Pieces.{pieces, before, behind}
use Rattle.pieces.proofs.Pieces.{others, before_into, behind_into, pieces_into, pieces_whole}
use Rattle.attributes.specs.Attribute.{trimmed_front, trimmed_back, trimmed, name_of, addr, prefer_encrypt, keydata, attribute, attribute_of}
use Rattle.attributes.specs.declared.Name.TheVariants.{Keydata}
use Rattle.attributes.proofs.Cutting.{holds_some}
use Rattle.attributes.proofs.Trimming.{front_blank, front_other, every_reverse}

abbrev pub other : ℕ → ℕ → Bool
other d x = not (eqb x d)

other_self : (d : ℕ) → other d d ≡ false
other_self d = rw (eq-eqb d d refl)

-- pieces
module _ (d : ℕ) (p : List ℕ) (e : every (other d) p ≡ true) where
  pub piece_cut : (rest : List ℕ) → pieces d (p ++ (d ∷ rest)) ≡ p ∷ pieces d rest
  unfolding before others
  piece_cut rest = pieces_into (other d) d (other_self d) p (d ∷ rest) e ∙ rw (before, others, eq-eqb d d refl, append-nil)

  pub piece_alone : pieces d p ≡ p ∷ []
  piece_alone = pieces_whole (other d) d (other_self d) p e

module _ (n v : List ℕ) (e : every (other 61) n ≡ true) where
  joined_before : before 61 (n ++ (61 ∷ v)) ≡ n
  unfolding before
  joined_before = before_into (other 61) 61 (other_self 61) n (61 ∷ v) e ∙ append-nil n

  joined_behind : behind 61 (n ++ (61 ∷ v)) ≡ v
  unfolding behind
  joined_behind = behind_into (other 61) 61 (other_self 61) n (61 ∷ v) e

  joined_holds : holds 61 (n ++ (61 ∷ v)) ≡ true
  joined_holds = holds_some 61 (by 61 (n ++ (61 ∷ v))) (rw joined_before (simp length-append (omega arith)))

  attribute_joined : attribute_of (n ++ (61 ∷ v)) ≡ attribute (name_of (trimmed n)) (trimmed v)
  unfolding attribute_of
  attribute_joined = rw (attribute_of, joined_holds, joined_before, joined_behind)

-- trimming
unblank : ℕ → Bool
unblank x = not (blank x)

front_same : (s : List ℕ) → every unblank s ≡ true → trimmed_front s ≡ s
unfolding every trimmed_front unblank
front_same [] e = refl
front_same (x ∷ s) e = front_other x s (not-true (blank x) (and_left (unblank x) (every unblank s) e))

pub trimmed_same : (s : List ℕ) → every (λ x. not (blank x)) s ≡ true → trimmed s ≡ s
unfolding trimmed trimmed_back unblank
trimmed_same s e =
    rw (front_same s e, front_same (reverse s) (every_reverse unblank s e)) (reverse-reverse s)

-- trimming, where all blanks go out anyway
without_front : (s : List ℕ) → without_blanks (trimmed_front s) ≡ without_blanks s
unfolding trimmed_front
without_front [] = refl
without_front (x ∷ s) = go (without_front s) (blank x) refl
  where
    go : without_blanks (trimmed_front s) ≡ without_blanks s → (b : Bool) → blank x ≡ b → without_blanks (trimmed_front (x ∷ s)) ≡ without_blanks (x ∷ s)
    go h true e = rw (front_blank x s e, h) (sym (without_passing blank x s e))
    go h false e = rw (front_other x s e)

without_append : (s t : List ℕ) → without_blanks (s ++ t) ≡ without_blanks s ++ without_blanks t
unfolding without
without_append [] t = refl
without_append (x ∷ s) t = go (without_append s t) (blank x) refl
  where
    go : without_blanks (s ++ t) ≡ without_blanks s ++ without_blanks t → (b : Bool) → blank x ≡ b
        → without_blanks (x ∷ (s ++ t)) ≡ without_blanks (x ∷ s) ++ without_blanks t
    go h true e = rw (without_passing blank x (s ++ t) e, without_passing blank x s e) h
    go h false e = rw (without_other blank x (s ++ t) e, without_other blank x s e, h)

without_reverse : (s : List ℕ) → without_blanks (reverse s) ≡ reverse (without_blanks s)
unfolding without
without_reverse [] = refl
without_reverse (x ∷ s) = go (without_reverse s) (blank x) refl
  where
    go : without_blanks (reverse s) ≡ reverse (without_blanks s) → (b : Bool) → blank x ≡ b → without_blanks (reverse (x ∷ s)) ≡ reverse (without_blanks (x ∷ s))
    go h true e = rw (reverse-cons x s, without_append (reverse s) (x ∷ []), without_passing blank x [] e, without_passing blank x s e, h) (append-nil (reverse (without_blanks s)))
    go h false e = rw (reverse-cons x s, without_append (reverse s) (x ∷ []), without_other blank x [] e, without_other blank x s e, h) (sym (reverse-cons x (without_blanks s)))

pub without_trimmed : (s : List ℕ) → without_blanks (trimmed s) ≡ without_blanks s
unfolding trimmed trimmed_back
without_trimmed s =
    without_reverse (trimmed_front (reverse (trimmed_front s)))
    ∙ ap reverse (without_front (reverse (trimmed_front s)) ∙ without_reverse (trimmed_front s))
    ∙ reverse-reverse (without_blanks (trimmed_front s))
    ∙ without_front s

-- what is written: " addr=ADDRESS", " prefer-encrypt=mutual", " keydata=TEXT"
pub address_joined : (a : List ℕ) → trimmed a ≡ a → attribute_of (ascii " addr=" ++ a) ≡ addr a
unfolding name_of trimmed trimmed_back trimmed_front blank same_octets attribute every
address_joined a e = attribute_joined (ascii " addr") a refl ∙ ap addr e

pub preference_joined : attribute_of (ascii " prefer-encrypt=mutual") ≡ prefer_encrypt (ascii "mutual")
unfolding name_of trimmed trimmed_back trimmed_front blank same_octets attribute every
preference_joined = attribute_joined (ascii " prefer-encrypt") (ascii "mutual") refl

key_name : name_of (trimmed (ascii " keydata")) ≡ Keydata
unfolding name_of trimmed trimmed_back trimmed_front blank same_octets
key_name = refl

pub key_joined : (text : List ℕ) → attribute_of (ascii " keydata=" ++ text) ≡ keydata (trimmed text)
unfolding attribute every
key_joined text = attribute_joined (ascii " keydata") text refl ∙ rw key_name
