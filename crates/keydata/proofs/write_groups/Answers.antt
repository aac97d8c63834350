use Rattle.std.proofs.Common.{◌≡◌, length, arith, rules}
use Rattle.groups.proofs.Nexts.{nearer_whole}
use Rattle.keydata.proofs.Filling.{run_blanks, whole_run, whole_counted}
use Rattle.keydata.proofs.write_groups.Goals as goal

pub writing-init : goal.writing-init
writing-init c = run_blanks _ _ _ _ _ c.requires.1 c.run_end-i.ensures

pub writing-smaller : goal.writing-smaller
writing-smaller c = nearer_whole _ _ _ c.whole_group.ensures _ c.in-Some.is

pub writing-preserved : goal.writing-preserved
writing-preserved c =
    let three : length c.in-Some.three ≡ 3 = search rules in
    whole_run _ _ _ _ _ _ _ c.writing.invariant _ c.whole_group.ensures _ c.in-Some.is three _ c.put.auto.out (λ _. c.put.ensures)

pub counting-preserved : goal.counting-preserved
counting-preserved c =
    record {
      run = whole_counted _ _ _ _ _ _ _ c.counting.invariant.run _ c.whole_group-in-counting.ensures _ c.in-Some-whole_group.is c.counting.invariant.full;
      full = omega (arith, c.counting.invariant.full);
    }

pub counting-smaller : goal.counting-smaller
counting-smaller c = nearer_whole _ _ _ c.whole_group-in-counting.ensures _ c.in-Some-whole_group.is
