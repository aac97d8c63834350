-- What is written reads back (C6).
--     decode_encode    the text of octets decodes to them
-- Assumes nothing.
use Prim.Native.Nat.{ℕ, suc, ◌+◌, ◌*◌, ◌/◌, ◌%◌, ◌<◌}
use mathlib.Core.Path.{◌≡◌, refl}
use mathlib.Core.List.{List, [], ◌∷◌}
use Rattle.std.specs.Prelude.{Some}
use native.Mathlib.Omega.{arith}
use Rattle.octets.specs.Octets.{AllOctets}
use Rattle.letters.specs.Base64.{letter, sign_of, closed, grouped, group_of, before, at_end, follow, decode, encode}
use Rattle.letters.proofs.Alphabet.{sign_of_letter}
use Rattle.letters.specs.declared.Group.TheVariants.{Three, Two, One}

-- the characters of three, two and one octets stand for them
group_three : (a b c : ℕ) → a < 256 → b < 256 → c < 256
    → group_of (letter (a / 4)) (letter (a % 4 * 16 + b / 16)) (letter (b % 16 * 4 + c / 64)) (letter (c % 64)) ≡ Three a b c
unfolding grouped closed
group_three a b c h k l =
    let x : a / 4 * 4 + (a % 4 * 16 + b / 16) / 16 ≡ a = omega arith in
    let y : (a % 4 * 16 + b / 16) % 16 * 16 + (b % 16 * 4 + c / 64) / 4 ≡ b = omega arith in
    let z : (b % 16 * 4 + c / 64) % 4 * 64 + c % 64 ≡ c = omega arith in
    rw (sign_of_letter (a / 4) (omega arith), sign_of_letter (a % 4 * 16 + b / 16) (omega arith), sign_of_letter (b % 16 * 4 + c / 64) (omega arith), sign_of_letter (c % 64) (omega arith))
    (rw (x, y, z))

group_two : (a b : ℕ) → a < 256 → b < 256 → group_of (letter (a / 4)) (letter (a % 4 * 16 + b / 16)) (letter (b % 16 * 4)) 61 ≡ Two a b
unfolding grouped closed sign_of
group_two a b h k =
    let x : a / 4 * 4 + (a % 4 * 16 + b / 16) / 16 ≡ a = omega arith in
    let y : (a % 4 * 16 + b / 16) % 16 * 16 + b % 16 * 4 / 4 ≡ b = omega arith in
    let z : b % 16 * 4 % 4 ≡ 0 = omega arith in
    rw (sign_of_letter (a / 4) (omega arith), sign_of_letter (a % 4 * 16 + b / 16) (omega arith), sign_of_letter (b % 16 * 4) (omega arith))
    (rw (x, y, z))

group_one : (a : ℕ) → a < 256 → group_of (letter (a / 4)) (letter (a % 4 * 16)) 61 61 ≡ One a
unfolding grouped closed sign_of
group_one a h =
    let x : a / 4 * 4 + a % 4 * 16 / 16 ≡ a = omega arith in
    let z : a % 4 * 16 % 16 ≡ 0 = omega arith in
    rw (sign_of_letter (a / 4) (omega arith), sign_of_letter (a % 4 * 16) (omega arith)) (rw (x, z))

pub decode_encode : (s : List ℕ) → AllOctets s → decode (encode s) ≡ Some s
unfolding decode encode follow before at_end
decode_encode [] h = refl
decode_encode (a ∷ []) h = rw (group_one a (h 0))
decode_encode (a ∷ b ∷ []) h = rw (group_two a b (h 0) (h 1))
decode_encode (a ∷ b ∷ c ∷ s) h =
    rw (group_three a b c (h 0) (h 1) (h 2), decode_encode s (λ i. h (suc (suc (suc i)))))
