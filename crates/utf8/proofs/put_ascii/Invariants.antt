use Rattle.std.proofs.Common.{nat_lt}
use Rattle.octets.specs.Octets.{lowered}
use Rattle.octets.proofs.Every.{Passed}
use Rattle.octets.proofs.Copying.{Copied}
use Rattle.utf8.proofs.put_ascii.Given as goal

abbrev pub invariant-loop-i : goal.invariant-loop-i
invariant-loop-i l =
    record {
      ascii : Passed (λ x. nat_lt x 128) l.src (nat_lt l.bits 128) l.i;
      copied : Copied (lowered l.src) l.initial.out l.out l.at l.i;
    }
