-- Writing the octets of a text while it is read, and what is then answered.
--     run_blanks, run_then      what is read and written: blanks, and one run behind another
--     three_run .. over_wrote   the octets that the text goes on with, or that there are too many
--     the rulesets              grouping for `write_groups`, filling for `write`
-- Assumes nothing.
use Prim.Native.Nat.{ℕ, ◌+◌, ◌^◌, ◌<◌, ◌≤◌}
use mathlib.Core.Path.{◌≡◌, refl, sym, ap, ◌∙◌}
use mathlib.Core.List.{List, [], ◌∷◌, ◌++◌, append_assoc}
use Rattle.std.specs.Prelude.{Option, Some, None}
use native.Mathlib.Nat.{zero-add}
use native.Mathlib.Omega.{arith}
use borrow.Author.Rules.{rules}
use borrow.Author.Tests.{le-leb, lt-leb}
use lib.ListN.{length, get_or, drop, length-append}
use Rattle.octets.specs.Written.{put_at, onto}
use Rattle.octets.specs.Octets.{without_blanks}
use Rattle.runs.specs.Runs.{run_length}
use Rattle.runs.specs.declared.Class.TheVariants.{Blank}
use Rattle.groups.proofs.Blanks.{NextPlace, next_place}
use Rattle.octets.proofs.Putting.{put_both, over_none}
use Rattle.letters.specs.Base64.{before, decode}
use Rattle.groups.specs.Steps.{NextGroup, WholeGroup}
use Rattle.keydata.specs.Steps.{Run, Wrote, up_to}
use Rattle.keydata.specs.Answers.{decoded_of}
use Rattle.groups.proofs.Nexts.{nearer_whole, read_whole, read_three, read_two, read_one, read_end, read_broken}
use Rattle.groups.specs.declared.Next.{Next}
use Rattle.groups.specs.declared.Next.TheVariants.{Three, Two, One, End, Broken}

before_none : (o : Option (List ℕ)) → o ≡ before [] o
unfolding before
before_none None = refl
before_none (Some w) = refl

before_all : (u v : List ℕ) (o : Option (List ℕ)) → before u (before v o) ≡ before (u ++ v) o
unfolding before
before_all u v None = refl
before_all u v (Some w) = ap Some (sym (append_assoc u v w))

-- blanks are read
pub run_blanks : (s : List ℕ) (at : ℕ) (d : List ℕ) (to i : ℕ) → at ≤ length s → i ≡ at + run_length Blank (drop at s) → Run s at d to d i to
run_blanks s at d to i l e =
    let h : NextPlace s at i = next_place s at i e in
    record {
      octets = [];
      reads = ap decode h.same ∙ before_none _;
      counts = omega arith;
      same = refl;
      writes = λ k. over_none d to;
      few = omega (arith, h.behind);
      upto = h.upto l;
    }

pub run_none : (s d : List ℕ) → Run s 0 d 0 d 0 0
run_none s d =
    record { octets = []; reads = before_none _; counts = refl; same = refl; writes = λ k. over_none d 0; few = omega arith; upto = omega arith }

-- octets that the text goes on with, and the memory that has them, if they have room
run_octets : (s : List ℕ) (at : ℕ) (d : List ℕ) (to : ℕ) (v : List ℕ) (n : ℕ)
    → decode (without_blanks (drop at s)) ≡ before v (decode (without_blanks (drop n s))) → at + length v ≤ n → n ≤ length s
    → (out : List ℕ) → length out ≡ length d → (to + length v ≤ length d → out ≡ put_at d to v) → Run s at d to out n (to + length v)
run_octets s at d to v n e l k out q w = record { octets = v; reads = e; counts = refl; same = q; writes = w; few = l; upto = k }

module _ (s : List ℕ) (at : ℕ) (d : List ℕ) (to : ℕ) (out : List ℕ) (i o : ℕ) (h : Run s at d to out i o) where
  -- and then a run behind it
  pub run_then : (out₁ : List ℕ) (j p : ℕ) → Run s i out o out₁ j p → Run s at d to out₁ j p
  run_then out₁ j p k =
      record {
        octets = h.octets ++ k.octets;
        reads = h.reads ∙ rw k.reads (before_all _ _ _);
        counts = simp length-append (omega (arith, h.counts, k.counts));
        same = k.same ∙ h.same;
        writes = λ l.
            let m : to + (length h.octets + length k.octets) ≤ length d = omega (arith, h.counts, k.counts) in
            k.writes (omega (arith, h.same)) ∙ rw (h.writes (omega (arith, k.counts)), h.counts) (put_both d to h.octets k.octets (simp length-append m));
        few = simp length-append (omega (arith, h.few, k.few));
        upto = k.upto;
      }

  -- the octets never outnumber what was read of the text
  pub run_few : to ≤ at → o ≤ i
  run_few l = omega (arith, h.few, h.counts)

  module _ (x y z n : ℕ) (g : NextGroup s i (Three x y z n)) (out₁ : List ℕ) where
    pub three_run : length out₁ ≡ length out → (o + 3 ≤ length out → out₁ ≡ put_at out o (x ∷ y ∷ z ∷ [])) → Run s at d to out₁ n (o + 3)
    three_run e q =
        let r = read_three s i _ g x y z n refl in
        run_then out₁ n (o + 3) (run_octets s i out o (x ∷ y ∷ z ∷ []) n r.0 (omega arith) r.2 out₁ e q)

-- `write_groups`
array_three : (w : List ℕ) → length w ≡ 3 → w ≡ get_or w 0 0 ∷ get_or w 1 0 ∷ get_or w 2 0 ∷ []
array_three (x ∷ y ∷ z ∷ []) e = refl
array_three [] e = absurd (omega arith)
array_three (x ∷ []) e = absurd (omega arith)
array_three (x ∷ y ∷ []) e = absurd (omega arith)
array_three (x ∷ y ∷ z ∷ v ∷ w) e = absurd (omega arith)

module _ (s : List ℕ) (at : ℕ) (d : List ℕ) (to : ℕ) (out : List ℕ) (i o : ℕ) (h : Run s at d to out i o) (r : Option (List ℕ)) (g : WholeGroup s i r)
    (w : List ℕ) (e : r ≡ Some w) where
  pub whole_upto : i + 4 ≤ length s
  whole_upto = (read_three s i _ (read_whole s i r g w e) _ _ _ (i + 4) refl).2

  pub whole_run : length w ≡ 3 → (out₁ : List ℕ) → length out₁ ≡ length out → (o + length w ≤ length out → out₁ ≡ put_at out o w)
      → Run s at d to out₁ (i + 4) (o + 3)
  whole_run c out₁ q p =
      three_run s at d to out i o h (get_or w 0 0) (get_or w 1 0) (get_or w 2 0) (i + 4) (read_whole s i r g w e) out₁ q
      (λ l. p (omega (arith, l)) ∙ rw (← array_three w c))

  -- no room: they are only counted
  pub whole_counted : length out < o + 3 → Run s at d to out (i + 4) (o + 3)
  whole_counted l =
      three_run s at d to out i o h (get_or w 0 0) (get_or w 1 0) (get_or w 2 0) (i + 4) (read_whole s i r g w e) out refl (λ m. absurd (omega arith))

pub ruleset grouping = (nearer_whole, run_blanks, run_few, whole_upto, whole_run, rules)

-- `write`
front_put : (d w : List ℕ) → put_at d 0 w ≡ onto w d
unfolding put_at onto
front_put d w = rw zero-add

-- octets that were refused for their number alone
counted_over : (most : ℕ) (w : List ℕ) → most < length w → None ≡ decoded_of (Some w) most
unfolding decoded_of
counted_over most w l = rw (lt-leb (length w) most l)

module _ (s d out : List ℕ) (i o : ℕ) (h : Run s 0 d 0 out i o) (most : ℕ) where
  -- the text ends in the octets v
  last_wrote : (v : List ℕ) → decode (without_blanks (drop i s)) ≡ Some v → o + length v < 2 ^ 64 → (out₁ : List ℕ)
      → (o + length v ≤ length out → out₁ ≡ put_at out o v) → (r : Option ℕ) → r ≡ up_to most (o + length v)
      → Wrote (decode (without_blanks s)) d out₁ most r
  unfolding before decoded_of up_to
  last_wrote v e k out₁ q r p =
      let a : decode (without_blanks s) ≡ Some (h.octets ++ v) = h.reads ∙ rw e in
      let n : length (h.octets ++ v) ≡ o + length v = simp length-append (omega (arith, h.counts)) in
      record {
        counts = rw (a, n) p;
        all = λ z. rw (a, n) (p ∙ rw (le-leb (o + length v) most (omega (arith, z))));
        writes = λ w b m l.
            let c : h.octets ++ v ≡ w = cc in
            let m : length (h.octets ++ v) ≤ length d = rw c l in
            let t : put_at out o v ≡ put_at d 0 (h.octets ++ v) = rw (h.writes (omega (arith, n)), h.counts) (put_both d 0 h.octets v (omega arith)) in
            q (omega (arith, n, h.same)) ∙ t ∙ rw c (front_put d w);
      }

  -- more octets than are asked for
  pub over_wrote : most < o → o < 2 ^ 64 → Wrote (decode (without_blanks s)) d out most None
  unfolding before decoded_of
  over_wrote l k = over (decode (without_blanks (drop i s))) refl
    where
      over : (b : Option (List ℕ)) → decode (without_blanks (drop i s)) ≡ b → Wrote (decode (without_blanks s)) d out most None
      over None e =
          let a : decode (without_blanks s) ≡ None = h.reads ∙ rw e in
          record { counts = rw a; all = λ z. rw a; writes = λ w b m l. cc }
      over (Some v) e =
          let a : decode (without_blanks s) ≡ Some (h.octets ++ v) = h.reads ∙ rw e in
          let n : most < length (h.octets ++ v) = simp length-append (omega (arith, h.counts, l)) in
          record {
            counts = rw a (counted_over most (h.octets ++ v) n);
            all = λ z. absurd (omega (arith, z, l, k));
            writes = λ w b m j.
                let c : h.octets ++ v ≡ w = cc in
                let k : length (h.octets ++ v) ≤ most = rw c m in
                absurd (omega (arith, n, k));
          }

  module _ (g : Next) (t : NextGroup s i g) where
    pub two_wrote : (x y : ℕ) → g ≡ Two x y → o + 2 < 2 ^ 64 → (out₁ : List ℕ) → (o + 2 ≤ length out → out₁ ≡ put_at out o (x ∷ y ∷ []))
        → (r : Option ℕ) → r ≡ up_to most (o + 2) → Wrote (decode (without_blanks s)) d out₁ most r
    two_wrote x y e = last_wrote (x ∷ y ∷ []) (read_two s i g t x y e)

    pub one_wrote : (x : ℕ) → g ≡ One x → o + 1 < 2 ^ 64 → (out₁ : List ℕ) → (o + 1 ≤ length out → out₁ ≡ put_at out o (x ∷ []))
        → (r : Option ℕ) → r ≡ up_to most (o + 1) → Wrote (decode (without_blanks s)) d out₁ most r
    one_wrote x e = last_wrote (x ∷ []) (read_one s i g t x e)

    pub end_wrote : g ≡ End → o + 0 < 2 ^ 64 → (out₁ : List ℕ) → (o + 0 ≤ length out → out₁ ≡ put_at out o [])
        → (r : Option ℕ) → r ≡ up_to most (o + 0) → Wrote (decode (without_blanks s)) d out₁ most r
    end_wrote e = last_wrote [] (read_end s i g t e)

    pub none_wrote : g ≡ Broken → Wrote (decode (without_blanks s)) d out most None
    unfolding before decoded_of
    none_wrote e =
        let a : decode (without_blanks s) ≡ None = h.reads ∙ rw (read_broken s i g t e) in
        record { counts = rw a; all = λ z. rw a; writes = λ w b m l. cc }

pub ruleset filling = (run_none, run_then, run_few, three_run, two_wrote, one_wrote, end_wrote, none_wrote, over_wrote, rules)
