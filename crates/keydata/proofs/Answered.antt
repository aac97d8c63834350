-- What callers ask of the answers.
--     octets_answered, refused_answered    what each answer says of the text
--     octets_held          what the memory holds where octets were answered
-- Assumes nothing.
use Prim.Native.Nat.{ℕ, ◌≤◌}
use mathlib.Core.Path.{◌≡◌, refl}
use mathlib.Core.Bool.{Bool, true, false, cond}
use mathlib.Core.List.{List}
use Rattle.std.specs.Prelude.{Option, Some, None}
use native.Mathlib.Omega.{arith}
use borrow.Author.Tests.{leb-true, leb-false}
use lib.Dec.{leb}
use lib.ListN.{length}
use Rattle.octets.specs.Written.{onto}
use Rattle.letters.specs.Base64.{octets_in}
use Rattle.keydata.specs.Answers.{decoded_of, Decodes}
use Rattle.keydata.specs.Steps.{NoneFit}

-- the answers
pub octets_answered : (o : Option (List ℕ)) (room n : ℕ) → Some n ≡ decoded_of o room
    → (o ≡ Some (octets_in o)) × (length (octets_in o) ≡ n) × (n ≤ room)
unfolding decoded_of octets_in
octets_answered None room n e = let z : ◌≡◌ {A = ℕ} 0 1 = cc in absurd (omega arith)
octets_answered (Some w) room n e = go (leb (length w) room) refl e
  where
    go : (b : Bool) → leb (length w) room ≡ b → Some n ≡ cond b (Some (length w)) None
        → (Some w ≡ Some w) × (length w ≡ n) × (n ≤ room)
    go true t q = let r : length w ≡ n = cc in (refl, r, omega (arith, leb-true (length w) room t))
    go false t q = let z : ◌≡◌ {A = ℕ} 0 1 = cc in absurd (omega arith)

pub refused_answered : (o : Option (List ℕ)) (room : ℕ) → None ≡ decoded_of o room → NoneFit o room
unfolding decoded_of
refused_answered None room e = record { over = λ w q. cc }
refused_answered (Some w) room e = go (leb (length w) room) refl e
  where
    go : (b : Bool) → leb (length w) room ≡ b → None ≡ cond b (Some (length w)) None → NoneFit (Some w) room
    go true t q = let z : ◌≡◌ {A = ℕ} 0 1 = cc in absurd (omega arith)
    go false t q = record { over = λ v r. let e : w ≡ v = cc in rw e at (leb-false (length w) room t) }

-- the memory after them
pub octets_held : (o : Option (List ℕ)) (d out : List ℕ) (r : Option ℕ) (n : ℕ) → Decodes o d out r → r ≡ Some n → out ≡ onto (octets_in o) d
unfolding Decodes
octets_held o d out r n h e = rw e at h
