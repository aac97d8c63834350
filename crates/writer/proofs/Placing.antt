-- A field written part by part: three parts one behind the other make each half, and two halves the field.
--     room_first .. three_put        three parts from a place on: there is room for each, and together they are one text put there
--     room_name .. opening_put       name and address
--     room_preference .. attributes_put    what stands behind them
--     room_opening .. field_put      both
--     the rulesets                   opening_up, attributing, joining, for `put_opening`, `put_attributes` and `put_field`
-- Assumes nothing.
use Prim.Native.Nat.{ℕ, ◌+◌, ◌≤◌}
use mathlib.Core.Path.{◌≡◌}
use mathlib.Core.Bool.{Bool}
use mathlib.Core.List.{List, ◌++◌}
use native.Mathlib.Omega.{arith}
use native.Mathlib.Nat.{zero-add}
use borrow.Author.Rules.{rules}
use lib.ListN.{length, length-append}
use Rattle.octets.specs.Written.{put_at, onto}
use Rattle.octets.proofs.Putting.{put_both, room_second}
use Rattle.letters.specs.Base64.{encode}
use Rattle.keylines.specs.Lines.{lines}
use Rattle.writer.specs.Writing.{addr_text, key_text, preference, field_text}
use Rattle.writer.specs.Steps.{opening, attributes}
use Rattle.writer.proofs.Parts.{field_halves}

-- three parts, from the place `at` on
module _ (u v w d : List ℕ) (at : ℕ) (h : at + length (u ++ (v ++ w)) ≤ length d) where
  room_first : at + length u ≤ length d
  room_first = omega (arith, simp length-append at h)

  module _ (o₁ : ℕ) (p₁ : o₁ ≡ at + length u) (d₁ : List ℕ) (q₁ : d₁ ≡ put_at d at u) where
    room_rest : o₁ + length (v ++ w) ≤ length d₁
    room_rest = rw (p₁, q₁) (room_second d at u (v ++ w) h)

    room_next : o₁ + length v ≤ length d₁
    room_next = omega (arith, simp length-append at room_rest)

    module _ (o₂ : ℕ) (p₂ : o₂ ≡ o₁ + length v) (d₂ : List ℕ) (q₂ : d₂ ≡ put_at d₁ o₁ v) where
      room_last : o₂ + length w ≤ length d₂
      room_last = rw (p₂, q₂) (room_second d₁ o₁ v w room_rest)

      place_last : (o₃ : ℕ) → o₃ ≡ o₂ + length w → o₃ ≡ at + length (u ++ (v ++ w))
      place_last o₃ p₃ = simp length-append (omega arith)

      three_put : (d₃ : List ℕ) → d₃ ≡ put_at d₂ o₂ w → d₃ ≡ put_at d at (u ++ (v ++ w))
      three_put d₃ q₃ = rw (q₃, p₂, q₂, put_both d₁ o₁ v w room_rest, p₁, q₁) (put_both d at u (v ++ w) h)

module _ (name address d : List ℕ) (h : length (opening name address) ≤ length d) where
  opens : 0 + length (name ++ (addr_text ++ address)) ≤ length d
  unfolding opening
  opens = rw zero-add h

  pub room_name : 0 + length name ≤ length d
  room_name = room_first name addr_text address d 0 opens

  module _ (o₁ : ℕ) (p₁ : o₁ ≡ 0 + length name) (d₁ : List ℕ) (q₁ : d₁ ≡ put_at d 0 name) where
    pub room_addr : o₁ + length addr_text ≤ length d₁
    room_addr = room_next name addr_text address d 0 opens o₁ p₁ d₁ q₁

    module _ (o₂ : ℕ) (p₂ : o₂ ≡ o₁ + length addr_text) (d₂ : List ℕ) (q₂ : d₂ ≡ put_at d₁ o₁ addr_text) where
      pub room_address : o₂ + length address ≤ length d₂
      room_address = room_last name addr_text address d 0 opens o₁ p₁ d₁ q₁ o₂ p₂ d₂ q₂

      pub opening_place : (o₃ : ℕ) → o₃ ≡ o₂ + length address → o₃ ≡ 0 + length (opening name address)
      unfolding opening
      opening_place = place_last name addr_text address d 0 opens o₁ p₁ d₁ q₁ o₂ p₂ d₂ q₂

      pub opening_put : (d₃ : List ℕ) → d₃ ≡ put_at d₂ o₂ address → d₃ ≡ put_at d 0 (opening name address)
      unfolding opening
      opening_put = three_put name addr_text address d 0 opens o₁ p₁ d₁ q₁ o₂ p₂ d₂ q₂

pub ruleset opening_up = (room_name, room_addr, room_address, opening_place, opening_put, rules)

module _ (m : Bool) (key d : List ℕ) (at : ℕ) (h : at + length (attributes m key) ≤ length d) where
  goes_on : at + length (preference m ++ (key_text ++ lines (encode key))) ≤ length d
  unfolding attributes
  goes_on = h

  pub room_preference : at + length (preference m) ≤ length d
  room_preference = room_first (preference m) key_text (lines (encode key)) d at goes_on

  module _ (o₁ : ℕ) (p₁ : o₁ ≡ at + length (preference m)) (d₁ : List ℕ) (q₁ : d₁ ≡ put_at d at (preference m)) where
    pub room_keydata : o₁ + length key_text ≤ length d₁
    room_keydata = room_next (preference m) key_text (lines (encode key)) d at goes_on o₁ p₁ d₁ q₁

    module _ (o₂ : ℕ) (p₂ : o₂ ≡ o₁ + length key_text) (d₂ : List ℕ) (q₂ : d₂ ≡ put_at d₁ o₁ key_text) where
      pub room_lines : o₂ + length (lines (encode key)) ≤ length d₂
      room_lines = room_last (preference m) key_text (lines (encode key)) d at goes_on o₁ p₁ d₁ q₁ o₂ p₂ d₂ q₂

      pub attributes_put : (d₃ : List ℕ) → d₃ ≡ put_at d₂ o₂ (lines (encode key)) → d₃ ≡ put_at d at (attributes m key)
      unfolding attributes
      attributes_put = three_put (preference m) key_text (lines (encode key)) d at goes_on o₁ p₁ d₁ q₁ o₂ p₂ d₂ q₂

pub ruleset attributing = (room_preference, room_keydata, room_lines, attributes_put, rules)

module _ (name address key d : List ℕ) (m : Bool) (h : length (field_text name address m key) ≤ length d) where
  halves : 0 + length (opening name address ++ attributes m key) ≤ length d
  halves = rw (zero-add, ← field_halves name address key m) h

  pub room_opening : length (opening name address) ≤ length d
  room_opening = omega (arith, simp length-append at halves)

  module _ (o : ℕ) (p : o ≡ 0 + length (opening name address)) (d₁ : List ℕ) (q : d₁ ≡ put_at d 0 (opening name address)) where
    pub room_attributes : o + length (attributes m key) ≤ length d₁
    room_attributes = rw (p, q) (room_second d 0 (opening name address) (attributes m key) halves)

    pub field_put : (d₂ : List ℕ) → d₂ ≡ put_at d₁ o (attributes m key) → d₂ ≡ onto (field_text name address m key) d
    unfolding onto put_at
    field_put d₂ r =
        rw (r, p, q, put_both d 0 (opening name address) (attributes m key) halves, field_halves name address key m, zero-add)

pub ruleset joining = (room_opening, room_attributes, field_put, rules)
