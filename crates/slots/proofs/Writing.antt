-- What the writers of a slot's parts leave.
--     front_long        mark and head have 40 octets
--     length_padded     how long an area is
--     head_lent         the head written, in a part that was lent on
--     padded_put        an area written
--     begun             an entry begun
-- Assumes nothing.
use Prim.Native.Nat.{ℕ, suc, ◌+◌, ◌-◌, ◌≤◌}
use mathlib.Core.Path.{◌≡◌, refl, sym, ap, ◌∙◌}
use mathlib.Core.List.{List, [], ◌++◌, append_assoc}
use native.Mathlib.Nat.{add-zero, sub-zero}
use native.Mathlib.Omega.{arith}
use borrow.Author.Rules.{rules}
use lib.ListN.{length, take, drop, replicate, length-append, length-replicate, length-take, length-drop, replicate-append-replicate}
use Rattle.octets.specs.Written.{put_at}
use Rattle.octets.specs.Options.{is_some, or_else}
use Rattle.heads.specs.declared.Head.{Head}
use Rattle.heads.specs.Head.{empty_head, head_octets}
use Rattle.heads.specs.Entry.{head_for, newcomer}
use Rattle.heads.proofs.Parts.{put_first, put_length, put_more, put_within, put_behind, part_back, drop_zeros}
use Rattle.heads.proofs.Writing.{length_head}
use Rattle.slots.specs.Slot.{slot_length, mark, address_room}
use Rattle.slots.specs.Entry.{padded, areas, slot_of}

pub front_long : (n : Head) → length (mark ++ head_octets n) ≡ 40
front_long n = ap (λ (k : ℕ). suc (suc k)) (length_head n)

pub head_lent : (n : Head) (s w : List ℕ) → length s ≡ slot_length → w ≡ put_at (take 40 s) 2 (head_octets n) → w ++ drop 40 s ≡ put_at s 2 (head_octets n)
head_lent n s w l e = rw e (put_within s (head_octets n) 40 2 (omega (arith, length_head n)))

pub length_padded : (room : ℕ) (t : List ℕ) → length t ≤ room → length (padded room t) ≡ room
unfolding padded
length_padded room t h = simp (length-append, length-replicate) (omega arith)

-- an area: its text, then a part that is filled with zeros
pub padded_put : (d t o w : List ℕ) (at room : ℕ) → (at + room ≤ length d) × (length t ≤ room) → o ≡ put_at d at t
    → w ≡ replicate (length (take (at + room - (at + length t)) (drop (at + length t) o))) 0
    → take (at + length t) o ++ (w ++ drop (at + room - (at + length t)) (drop (at + length t) o)) ≡ put_at d at (padded room t)
unfolding padded
padded_put d t o w at room h eo ew =
    let k : at + room - (at + length t) ≡ room - length t = omega (arith, h.0, h.1) in
    let l : length o ≡ length d = ap length eo ∙ put_length d t at (omega (arith, h.0, h.1)) in
    let m : length (take (room - length t) (drop (at + length t) o)) ≡ room - length t = simp (length-take, length-drop) (omega (arith, h.0, h.1)) in
    let z : w ≡ replicate (room - length t) 0 = ew ∙ rw (k, m) in
    rw (k, z)
    (part_back o (replicate (room - length t) 0) (at + length t) (room - length t) (length-replicate (room - length t) 0)
    ∙ rw eo (put_more d t (replicate (room - length t) 0) at (length t) refl (omega (arith, h.0, h.1))))

-- an area that is empty
pub padded_none : (room : ℕ) → padded room [] ≡ replicate room 0
unfolding padded
padded_none room = simp sub-zero

-- a front and a text, written over zeros
over_zeros : (h a : List ℕ) (p r k g m : ℕ) → length h ≡ p → length a ≤ r → m ≡ p + (r + (k + g))
    → put_at (put_at (replicate m 0) 0 h) p a ≡ h ++ (padded r a ++ (replicate k 0 ++ replicate g 0))
unfolding padded
over_zeros h a p r k g m eh la em =
    let zeros : put_at (replicate m 0) 0 h ≡ h ++ replicate (m - p) 0 = rw (put_first, eh, drop_zeros) in
    let behind : put_at (h ++ replicate (m - p) 0) (p + 0) a ≡ h ++ put_at (replicate (m - p) 0) 0 a = put_behind h (replicate (m - p) 0) a p 0 eh in
    let text : put_at (replicate (m - p) 0) 0 a ≡ a ++ replicate (m - p - length a) 0 = rw (put_first, drop_zeros) in
    let count : m - p - length a ≡ (r - length a) + (k + g) = omega arith in
    rw zeros
    (rw add-zero at behind
    ∙ rw (text, count, ← replicate-append-replicate {A = ℕ} (r - length a) (k + g) 0, ← replicate-append-replicate {A = ℕ} k g 0)
    (ap (λ (l : List ℕ). h ++ l) (sym (append_assoc a (replicate (r - length a) 0) (replicate k 0 ++ replicate g 0)))))

pub begun : (d a o₁ o₂ o₃ o₄ : List ℕ) (n : Head) → (length d ≡ slot_length) × (length a ≤ address_room)
    → o₁ ≡ replicate (length d) 0 → o₂ ≡ put_at o₁ 0 mark → n ≡ empty_head (length a) → o₃ ≡ put_at o₂ 2 (head_octets n) → o₄ ≡ put_at o₃ 40 a
    → o₄ ≡ slot_of (newcomer a)
unfolding slot_of areas head_for newcomer is_some or_else
begun d a o₁ o₂ o₃ o₄ n h e₁ e₂ en e₃ e₄ =
    let z : List ℕ = replicate (length d) 0 in
    let m : Head = empty_head (length a) in
    let k : length z ≡ length d = length-replicate (length d) 0 in
    let front : put_at (put_at z 0 mark) 2 (head_octets m) ≡ put_at z 0 (mark ++ head_octets m) = put_more z mark (head_octets m) 0 2 refl (omega (arith, h.0)) in
    e₄
    ∙ rw (e₃, e₂, e₁, en, padded_none, front)
    (over_zeros (mark ++ head_octets m) a 40 256 2048 2048 (length d) (front_long m) h.1 h.0)

pub ruleset putting = (head_lent, padded_put, begun, rules)
