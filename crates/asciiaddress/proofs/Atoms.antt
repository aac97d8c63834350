-- The local part: what a loop knows that reads it atom by atom.
--     atoms                       an atom is a run of its octets that is not empty; a dot (46) and "@" (64) are no such octets
--     Atoms s i                   whether atoms stand before the "@" comes to whether they do from i on
--     atoms_begin .. atoms_end    the loop's steps
-- Assumes nothing.
use Rattle.std.specs.Prelude.{Some, None}
use Prim.Native.Nat.{ℕ, ◌+◌, ◌-◌, ◌<◌, ◌≤◌}
use mathlib.Core.Path.{◌≡◌, refl, ap, ◌∙◌}
use mathlib.Core.Bool.{Bool, true, false, and-false}
use mathlib.Core.List.{List, [], ◌∷◌, ◌++◌, append-nil}
use native.Mathlib.Omega.{arith}
use borrow.Author.Rules.{rules}
use borrow.Author.Tests.{ne_eqb, le-leb, lt-leb, lt-ltb, le-ltb}
use lib.Dec.{leb, eqb}
use lib.ListN.{length, get_or, take, drop, length-append}
use Rattle.octets.proofs.Lists.{drop_one}
use Rattle.octets.specs.Tests.{every}
use Rattle.octets.proofs.Tests.{by_test}
use Rattle.runs.specs.Runs.{belongs, run_length, run}
use Rattle.runs.specs.declared.Class.TheVariants.{Atom}
use Rattle.runs.proofs.Running.{Ran, ran, run_zero}
use Rattle.pieces.specs.Pieces.{pieces, before}
use Rattle.asciiaddress.specs.Ascii.{atom, local_part}
use Rattle.asciiaddress.specs.Answers.{local_of}
use Rattle.pieces.proofs.Pieces.{before_into}
use Rattle.pieces.proofs.Joined.{Cut, all_end, all_on, all_bad, all_shapeless}

abbrev filled : List ℕ → Bool
filled p = leb 1 (length p)

pub atoms : Cut (belongs Atom) 46 atom filled
unfolding atom belongs
atoms = record { out = refl; is = λ p. refl }

no_at : belongs Atom 64 ≡ false
unfolding belongs
no_at = refl

-- a text that opens with no octet of a run opens with none where it is cut off
run_before : (q : ℕ → Bool) (d : ℕ) (u : List ℕ) → run q u ≡ 0 → run q (before d u) ≡ 0
unfolding run before
run_before q d [] z = refl
run_before q d (x ∷ u) z = by_test (eqb x d) (λ e. rw (before, e)) (λ e. rw (before, e, run, run_zero q x u z))

pub record Atoms (s : List ℕ) (i : ℕ) : Type 0 where
  pub upto : i ≤ length s
  pub long : length (before 64 s) ≡ i + length (before 64 (drop i s))
  pub so_far : every atom (pieces 46 (before 64 s)) ≡ every atom (pieces 46 (before 64 (drop i s)))

pub atoms_begin : (s : List ℕ) → Atoms s 0
atoms_begin s = record { upto = omega arith; long = omega arith; so_far = refl }

module _ (s : List ℕ) (i : ℕ) (h : Atoms s i) where
  -- two ways to have no local part
  no_atoms : every atom (pieces 46 (before 64 (drop i s))) ≡ false → None ≡ local_of s
  unfolding local_of local_part
  no_atoms f = rw (h.so_far, f, and-false, and-false)

  no_end : length s ≤ length (before 64 s) → None ≡ local_of s
  unfolding local_of
  no_end l = rw (le-ltb (length (before 64 s)) (length s) l)

  pub atoms_end : length s ≤ i → None ≡ local_of s
  atoms_end l = no_end (omega (arith, h.long))

  module _ (e : ℕ) (l : i < length s) (r : e ≡ i + run_length Atom (drop i s)) where
    here : Ran (belongs Atom) s i e
    here = ran (belongs Atom) s i e (omega arith) r

    abbrev piece : List ℕ
    piece = take (e - i) (drop i s)

    split : before 64 (drop i s) ≡ piece ++ before 64 (drop e s)
    split = ap (before 64) here.split ∙ before_into (belongs Atom) 64 no_at piece (drop e s) here.all

    long : length (before 64 s) ≡ e + length (before 64 (drop e s))
    long = h.long ∙ rw (split, length-append, here.counts) (omega (arith, here.from))

    pub atom_empty : e ≡ i → None ≡ local_of s
    atom_empty z =
        let n : e - i ≡ 0 = omega arith in
        no_atoms
        (rw split
        (all_shapeless atoms piece (before 64 (drop e s)) here.all (run_before (belongs Atom) 64 (drop e s) here.stop) (rw (here.counts, n))))

    pub atom_endless : length s ≤ e → None ≡ local_of s
    atom_endless k = no_end (omega (arith, long))

    module _ (k : e < length s) (f : e ≡ i → ⊥) where
      -- the piece is an atom
      full : filled piece ≡ true
      full = rw here.counts (le-leb 1 (e - i) (omega (arith, here.from)))

      module _ (x : get_or s e 0 ≡ 64) where
        ends : before 64 (drop e s) ≡ []
        unfolding before
        ends = rw (drop_one s e k, x)

        pub atom_whole : e ≤ 64 → Some e ≡ local_of s
        unfolding local_of local_part
        atom_whole m =
            let n : length (before 64 s) ≡ e = long ∙ rw ends (omega arith) in
            let w : every atom (pieces 46 (before 64 s)) ≡ true = h.so_far ∙ rw (split, ends, append-nil) (all_end atoms piece here.all ∙ full) in
            rw (n, w, lt-ltb e (length s) k, le-leb 1 e (omega arith), le-leb e 64 m)

        pub atom_long : 64 < e → None ≡ local_of s
        unfolding local_of local_part
        atom_long m =
            let n : length (before 64 s) ≡ e = long ∙ rw ends (omega arith) in
            rw (n, lt-leb e 64 m, and-false, and-false)

      module _ (x : get_or s e 0 ≡ 64 → ⊥) where
        goes : before 64 (drop e s) ≡ get_or s e 0 ∷ before 64 (drop (e + 1) s)
        unfolding before
        goes = rw (drop_one s e k, before, ne_eqb (get_or s e 0) 64 x)

        pub atom_stop : (get_or s e 0 ≡ 46 → ⊥) → None ≡ local_of s
        atom_stop n =
            no_atoms
            (rw (split, goes)
            (all_bad atoms piece (before 64 (drop (e + 1) s)) (get_or s e 0) here.all n
            (run_zero (belongs Atom) (get_or s e 0) (drop (e + 1) s) (rw (drop_one s e k) at here.stop))))

        pub atom_next : get_or s e 0 ≡ 46 → Atoms s (e + 1)
        atom_next d =
            record {
              upto = omega arith;
              long = long ∙ rw goes (omega arith);
              so_far = h.so_far ∙ rw (split, goes, d) (all_on atoms piece (before 64 (drop (e + 1) s)) here.all ∙ rw full);
            }

pub ruleset reading_atoms =
    (atoms_begin, atom_empty, atom_endless, atom_whole, atom_long, atom_stop, atom_next, atoms_end, rules)
