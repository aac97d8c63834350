-- A list that is written from a place on while it is made.
--     wrote_none, wrote_one, wrote_then    nothing, one octet more, one run behind another
--     wrote_long                           the memory keeps its length
--     full_one, full_then                  there is no room for what is left
--     wrote_single                         one octet, and what follows it
--     wrote_before, full_before            a list that is written in front of another
--     wrote_counts                         where all of it is written, its length tells the place
--     put_told                             a text that there is, and what writing it answers
--     told_long, told_front                a text that was written: the memory keeps its length, and opens with it
--     text_long                            it keeps its length in any case
--     untold_none, untold_long             a text that was not: there is none, or it is too long
-- Assumes nothing.
use Prim.Native.Nat.{ℕ, ◌+◌, ◌-◌, ◌<◌, ◌≤◌}
use mathlib.Core.Path.{◌≡◌, refl, sym, ap, ◌∙◌}
use mathlib.Core.List.{List, [], ◌∷◌, ◌++◌, append_assoc, append-nil}
use Rattle.std.specs.Prelude.{Option, Some, None}
use native.Mathlib.Nat.{zero-add, sub-zero}
use native.Mathlib.Omega.{arith}
use lib.ListN.{length, take, drop, set, length-append}
use lib.Seq.{take_at}
use Rattle.octets.specs.Written.{put_at}
use Rattle.octets.specs.Puts.{Written, TooLong, Puts, Told, Untold, PutsText}
use Rattle.octets.proofs.Putting.{over_none, over_one, put_long, put_both}

pub wrote_none : (d : List ℕ) (at : ℕ) (w : List ℕ) → at ≤ length d → Written d at d at w w
wrote_none d at w h = record { octets = []; splits = refl; writes = over_none d at; counts = omega arith; room = h }

module _ (d : List ℕ) (at : ℕ) (e : List ℕ) (i : ℕ) (w rest : List ℕ) (h : Written d at e i w rest) where
  pub wrote_long : length e ≡ length d
  wrote_long = ap length h.writes ∙ put_long d at h.octets (omega (arith, h.counts, h.room))

  pub wrote_then : (f : List ℕ) (j : ℕ) (rest₁ : List ℕ) → Written e i f j rest rest₁ → Written d at f j w rest₁
  wrote_then f j rest₁ k =
      let m : at + (length h.octets + length k.octets) ≤ length d = omega (arith, h.counts, k.counts, k.room, wrote_long) in
      record {
        octets = h.octets ++ k.octets;
        splits = h.splits ∙ rw k.splits (sym (append_assoc h.octets k.octets rest₁));
        writes = k.writes ∙ rw (h.writes, h.counts) (put_both d at h.octets k.octets (simp length-append m));
        counts = simp length-append (omega (arith, h.counts, k.counts));
        room = omega (arith, k.room, wrote_long);
      }

  pub full_then : (f : List ℕ) → TooLong e i f rest → TooLong d at f w
  full_then f k =
      record {
        long = rw h.splits (simp length-append (omega (arith, h.counts, k.long, wrote_long)));
        same = k.same ∙ wrote_long;
      }

pub wrote_single : (d : List ℕ) (at x : ℕ) (rest : List ℕ) → at < length d → Written d at (set d at x) (at + 1) (x ∷ rest) rest
wrote_single d at x rest l =
    record { octets = x ∷ []; splits = refl; writes = over_one d at x (omega arith); counts = refl; room = omega arith }

module _ (d : List ℕ) (at : ℕ) (e : List ℕ) (i x : ℕ) (w rest : List ℕ) (h : Written d at e i w (x ∷ rest)) where
  pub wrote_one : i < length e → Written d at (set e i x) (i + 1) w rest
  wrote_one l = wrote_then d at e i w (x ∷ rest) h (set e i x) (i + 1) rest (wrote_single e i x rest l)

  pub full_one : length e ≤ i → TooLong d at e w
  full_one l = full_then d at e i w (x ∷ rest) h e (record { long = omega arith; same = refl })

-- a list that is written, in front of another
pub wrote_before : (d : List ℕ) (at : ℕ) (e : List ℕ) (i : ℕ) (w rest : List ℕ) → Written d at e i w [] → Written d at e i (w ++ rest) rest
wrote_before d at e i w rest h =
    record { octets = h.octets; splits = ap (λ (z : List ℕ). z ++ rest) (h.splits ∙ append-nil h.octets); writes = h.writes; counts = h.counts; room = h.room }

pub full_before : (d : List ℕ) (at : ℕ) (e : List ℕ) (w rest : List ℕ) → TooLong d at e w → TooLong d at e (w ++ rest)
full_before d at e w rest h = record { long = simp length-append (omega (arith, h.long)); same = h.same }

-- and where all of it is written, its length tells the place
pub wrote_counts : (d : List ℕ) (at : ℕ) (e : List ℕ) (i : ℕ) (w : List ℕ) → Written d at e i w [] → i ≡ at + length w
wrote_counts d at e i w h = rw (h.splits, append-nil) h.counts

pub told_long : (d : List ℕ) (at : ℕ) (e : List ℕ) (m : ℕ) (o : Option (List ℕ)) → Told d at e m o → length e ≡ length d
told_long d at e m o h = ap length h.writes ∙ put_long d at h.text (omega (arith, h.counts, h.room))

pub told_front : (d e : List ℕ) (m : ℕ) (o : Option (List ℕ)) (h : Told d 0 e m o) → take (m - 0) e ≡ h.text
unfolding put_at
told_front d e m o h =
    rw (sub-zero, h.writes) (take_at h.text (drop (0 + length h.text) d) m (sym (h.counts ∙ zero-add _)))

module _ (d : List ℕ) (at : ℕ) (e : List ℕ) (o : Option (List ℕ)) where
  pub untold_none : o ≡ None → length e ≡ length d → Untold d at e o
  untold_none n l = record { long = λ w p. absurd (let z : ◌≡◌ {A = ℕ} 0 1 = cc in omega arith); same = l }

  pub untold_long : (w : List ℕ) → o ≡ Some w → length d < at + length w → length e ≡ length d → Untold d at e o
  untold_long w q l k = record { long = λ v p. let u : v ≡ w = cc in rw u l; same = k }

pub text_long : (d e : List ℕ) (at : ℕ) (o : Option (List ℕ)) (r : Option ℕ) → PutsText d e at o r → length e ≡ length d
text_long d e at o (Some m) h = told_long d at e m o h
text_long d e at o None h = h.same

pub put_told : (d e : List ℕ) (at : ℕ) (o : Option (List ℕ)) (w : List ℕ) → o ≡ Some w → (r : Option ℕ) → Puts d e at w r → PutsText d e at o r
put_told d e at o w q (Some m) h =
    let u : w ≡ h.octets = h.splits ∙ append-nil h.octets in
    record { text = w; is = q; writes = rw u h.writes; counts = rw u h.counts; room = h.room }
put_told d e at o w q None h = untold_long d at e o w q h.long h.same
