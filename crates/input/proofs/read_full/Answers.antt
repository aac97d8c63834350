-- `input::read_full` meets its contract: what is read into the part behind what is filled goes on with it. Assumes nothing.
use Rattle.std.proofs.Common.{◌≡◌, ◌+◌, ◌≤◌, ◌++◌, ◌∙◌, List, ℕ, Option, rules, arith, length, take, drop, sym, ap, subst, le_refl, drop_at, length-take-le}
use Rattle.std.proofs.lemmas.Slice.{take-put_mid_below}
use Rattle.std.specs.Io.KnownBytes.{Consumes}
use Rattle.std.proofs.KnownBytes.{Consumes-nil, Consumes-trans}
use lib.Seq.{take-add, take-append-le}
use borrow.Rule.Slice.PartMut.{put_mid, post_of}
use Rattle.input.proofs.read_full.Goals as goal

-- a reader gave the first `at` octets of xs, and then n of ys, which were put into xs from there on
goes_on : (a b c : Option (List ℕ)) (at k n to : ℕ) (xs ys : List ℕ) → at ≤ length xs → n ≤ length ys → to ≡ at + n
    → Consumes a b (take at xs) → Consumes b c (take n ys) → Consumes a c (take to (put_mid at k xs ys))
goes_on a b c at k n to xs ys within fits end before read =
    let both : take to (put_mid at k xs ys) ≡ take at xs ++ take n ys =
    ap (λ m. take m (put_mid at k xs ys)) end ∙ take-add at n (put_mid at k xs ys)
    ∙ ap (λ l. l ++ take n (drop at (put_mid at k xs ys))) (take-put_mid_below _ _ _ _ _ (le_refl _) within)
    ∙ ap (λ l. take at xs ++ take n l) (drop_at (take at xs) (ys ++ post_of at k xs) at (length-take-le at xs within))
    ∙ ap (λ l. take at xs ++ l) (take-append-le n ys (post_of at k xs) fits) in
    subst (Consumes a c) (sym both) (Consumes-trans a b c _ _ before read)

pub loop-done-init : goal.loop-done-init
loop-done-init g c = (search rules, search rules, Consumes-nil _)

pub returns-then-n-eq0-clause-bytes : goal.returns-then-n-eq0-clause-bytes
returns-then-n-eq0-clause-bytes g c =
    let read = c.in_ok-n.ensures in
    let at = c.loop-done.done in
    goes_on _ _ _ at _ c.in_ok-n.n at c.loop-done.space _ c.loop-done.invariant.0 read.bound.0 (omega (arith, c.if-n-eq0.true)) c.loop-done.invariant.2 read.bytes.0

pub loop-done-preserved : goal.loop-done-preserved
loop-done-preserved g c =
    let read = c.in_ok-n.ensures in
    (search rules, search rules, goes_on _ _ _ c.loop-done.done _ c.in_ok-n.n _ c.loop-done.space _ c.loop-done.invariant.0 read.bound.0 (omega arith) c.loop-done.invariant.2 read.bytes.0)

pub returns-clause-bytes : goal.returns-clause-bytes
returns-clause-bytes g c = c.loop-done.invariant.2
