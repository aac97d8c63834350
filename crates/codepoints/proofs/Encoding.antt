-- Code points written one after the other (L20).
--     lay_one .. lay_four          a code point of so many octets
--     short_one .. short_four      there is no room for it
--     room_left                    there is room for each of its octets
--     write_begin .. write_end     a loop that writes one a turn: what is left are the octets of what is left
--     the rulesets                 laying and writing
-- Assumes nothing.
use Rattle.std.specs.Prelude.{Option, Some, None}
use Prim.Native.Nat.{ℕ, ◌+◌, ◌-◌, ◌/◌, ◌%◌, ◌<◌, ◌≤◌}
use mathlib.Core.Path.{◌≡◌, refl, sym, ◌∙◌}
use mathlib.Core.List.{List, [], ◌∷◌, ◌++◌, append-nil}
use native.Mathlib.Omega.{arith}
use borrow.Author.Rules.{rules}
use borrow.Author.Tests.{lt-ltb, le-ltb}
use lib.ListN.{length, get_or, drop, set}
use Rattle.octets.specs.Written.{put_at}
use Rattle.octets.specs.Puts.{Written, TooLong, Puts}
use Rattle.octets.proofs.Lists.{drop_one, drop_done}
use Rattle.octets.proofs.Putting.{over_one, over_two, over_three, over_four}
use Rattle.octets.proofs.Puts.{wrote_none, wrote_long, wrote_then, full_then, wrote_before, full_before}
use Rattle.utf8.specs.Utf8.{encoded_one, encoded}
use Rattle.codepoints.proofs.Bounds.{scalars_below}

module _ (d : List ℕ) (at p : ℕ) (h : at ≤ length d) where
  laid : (w e : List ℕ) (to : ℕ) → encoded_one p ≡ w → e ≡ put_at d at w → to ≡ at + length w → to ≤ length d → Written d at e to (encoded_one p) []
  laid w e to q t c l = record { octets = w; splits = q ∙ sym (append-nil w); writes = t; counts = c; room = l }

  short : (w : List ℕ) → encoded_one p ≡ w → length d - at < length w → TooLong d at d (encoded_one p)
  short w q l = record { long = rw q (omega arith); same = refl }

  module _ (a : p < 0x80) where
    one : encoded_one p ≡ p ∷ []
    unfolding encoded_one
    one = rw (lt-ltb p 0x80 a)

    pub short_one : length d - at < 1 → TooLong d at d (encoded_one p)
    short_one l = short _ one l

    pub lay_one : 1 ≤ length d - at → Written d at (set d at p) (at + 1) (encoded_one p) []
    lay_one l = laid _ _ (at + 1) one (over_one d at p (omega arith)) refl (omega arith)

  module _ (a : 0x80 ≤ p) (b : p < 0x800) where
    two : encoded_one p ≡ (0xC0 + p / 64) ∷ (0x80 + p % 64) ∷ []
    unfolding encoded_one
    two = rw (le-ltb p 0x80 a, lt-ltb p 0x800 b)

    pub short_two : length d - at < 2 → TooLong d at d (encoded_one p)
    short_two l = short _ two l

    pub lay_two : 2 ≤ length d - at → Written d at (set (set d at (0xC0 + p / 64)) (at + 1) (0x80 + p % 64)) (at + 2) (encoded_one p) []
    lay_two l = laid _ _ (at + 2) two (over_two d at _ _ (omega arith)) refl (omega arith)

  module _ (a : 0x800 ≤ p) (b : p < 0x10000) where
    three : encoded_one p ≡ (0xE0 + p / 4096) ∷ (0x80 + p / 64 % 64) ∷ (0x80 + p % 64) ∷ []
    unfolding encoded_one
    three = rw (le-ltb p 0x80 (omega arith), le-ltb p 0x800 a, lt-ltb p 0x10000 b)

    pub short_three : length d - at < 3 → TooLong d at d (encoded_one p)
    short_three l = short _ three l

    pub lay_three : 3 ≤ length d - at
        → Written d at (set (set (set d at (0xE0 + p / 4096)) (at + 1) (0x80 + p / 64 % 64)) (at + 2) (0x80 + p % 64)) (at + 3) (encoded_one p) []
    lay_three l = laid _ _ (at + 3) three (over_three d at _ _ _ (omega arith)) refl (omega arith)

  module _ (a : 0x10000 ≤ p) where
    four : encoded_one p ≡ (0xF0 + p / 262144) ∷ (0x80 + p / 4096 % 64) ∷ (0x80 + p / 64 % 64) ∷ (0x80 + p % 64) ∷ []
    unfolding encoded_one
    four = rw (le-ltb p 0x80 (omega arith), le-ltb p 0x800 (omega arith), le-ltb p 0x10000 a)

    pub short_four : length d - at < 4 → TooLong d at d (encoded_one p)
    short_four l = short _ four l

    pub lay_four : 4 ≤ length d - at
        → Written d at (set (set (set (set d at (0xF0 + p / 262144)) (at + 1) (0x80 + p / 4096 % 64)) (at + 2) (0x80 + p / 64 % 64)) (at + 3) (0x80 + p % 64)) (at + 4) (encoded_one p) []
    lay_four l = laid _ _ (at + 4) four (over_four d at _ _ _ _ (omega arith)) refl (omega arith)

-- each of n places has room where n are left
pub room_left : (d : List ℕ) (at n j : ℕ) → n ≤ length d - at → j < n → at + j < length d
room_left d at n j h l = omega arith

pub ruleset laying = (room_left, short_one, lay_one, short_two, lay_two, short_three, lay_three, short_four, lay_four, rules)

pub write_begin : (d ps : List ℕ) (at : ℕ) → at ≤ length d → Written d at d at (encoded ps) (encoded (drop 0 ps))
write_begin d ps at h = wrote_none d at (encoded ps) h

module _ (d out ps : List ℕ) (at to i : ℕ) (h : Written d at out to (encoded ps) (encoded (drop i ps))) where
  pub write_kept : length out ≡ length d
  write_kept = wrote_long d at out to _ _ h

  pub write_inside : to ≤ length out
  write_inside = omega (arith, write_kept, h.room)

  module _ (l : i < length ps) (r : Option ℕ) (f : List ℕ) where
    here : Written d at out to (encoded ps) (encoded_one (get_or ps i 0) ++ encoded (drop (i + 1) ps))
    unfolding encoded
    here = rw (drop_one ps i l) at h

    pub write_next : (m : ℕ) → r ≡ Some m → Puts out f to (encoded_one (get_or ps i 0)) r → Written d at f m (encoded ps) (encoded (drop (i + 1) ps))
    write_next m a k =
        let w : Written out to f m (encoded_one (get_or ps i 0)) [] = rw a at k in
        wrote_then d at out to _ _ here f m _ (wrote_before out to f m _ (encoded (drop (i + 1) ps)) w)

    pub write_full : r ≡ None → Puts out f to (encoded_one (get_or ps i 0)) r → TooLong d at f (encoded ps)
    write_full a k =
        let w : TooLong out to f (encoded_one (get_or ps i 0)) = rw a at k in
        full_then d at out to _ _ here f (full_before out to f _ _ w)

    pub write_long : r ≡ None → Puts out f to (encoded_one (get_or ps i 0)) r → length f ≡ length d
    write_long a k = (write_full a k).same

  pub write_end : length ps ≤ i → Written d at out to (encoded ps) []
  unfolding encoded
  write_end l = rw (drop_done ps i l) at h

pub ruleset writing = (scalars_below, write_begin, write_kept, write_inside, write_next, write_full, write_long, write_end, rules)
