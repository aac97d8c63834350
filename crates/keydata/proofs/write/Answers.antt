use Rattle.std.proofs.Common.{arith, rules}
use Rattle.groups.proofs.Nexts.{read_three}
use Rattle.keydata.proofs.Filling.{run_then, two_wrote, one_wrote, end_wrote, none_wrote, over_wrote}
use Rattle.keydata.proofs.write.Goals as goal

pub reading-smaller : goal.reading-smaller
reading-smaller c =
    let r = read_three _ _ _ c.next_group.ensures _ _ _ _ c.in-Three.is in
    omega (arith, r.1, r.2, c.write_groups-reached.ensures.few)

pub returns-in-Two : goal.returns-in-Two
returns-in-Two c =
    two_wrote _ _ _ _ _ (run_then _ _ _ _ _ _ _ c.reading.invariant _ _ _ c.write_groups-reached.ensures) _ _ c.next_group.ensures _ _ c.in-Two.is (search rules) _ c.write_last.ensures.out_after _ c.write_last.ensures.place

pub returns-in-One : goal.returns-in-One
returns-in-One c =
    one_wrote _ _ _ _ _ (run_then _ _ _ _ _ _ _ c.reading.invariant _ _ _ c.write_groups-reached.ensures) _ _ c.next_group.ensures _ c.in-One.is (search rules) _ c.write_last-in-One.ensures.out_after _ c.write_last-in-One.ensures.place

pub returns-in-End : goal.returns-in-End
returns-in-End c =
    end_wrote _ _ _ _ _ (run_then _ _ _ _ _ _ _ c.reading.invariant _ _ _ c.write_groups-reached.ensures) _ _ c.next_group.ensures c.in-End.is (search rules) _ c.write_last-in-End.ensures.out_after _ c.write_last-in-End.ensures.place

pub returns-in-Broken : goal.returns-in-Broken
returns-in-Broken c = none_wrote _ _ _ _ _ (run_then _ _ _ _ _ _ _ c.reading.invariant _ _ _ c.write_groups-reached.ensures) _ _ c.next_group.ensures c.in-Broken.is

pub returns : goal.returns
returns c = over_wrote _ _ _ _ _ c.reading.invariant _ (omega (arith, c.reading-test.false)) (search rules)
