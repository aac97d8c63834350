use Rattle.std.proofs.Common.{◌≡◌, ◌-◌, length}
use Rattle.roll.specs.Roll.{unrolled}
use Rattle.fields.specs.declared.Kind.TheVariants.{AutocryptGossip}
use Rattle.keyowner.specs.Owners.{accepted_for}
use Rattle.keys.proofs.Walking.{Past}
use Rattle.keys.proofs.next_gossip.Given as goal

abbrev pub invariant-loop-length : goal.invariant-loop-length
invariant-loop-length l = (Past (accepted_for l.limit (unrolled l.recipients)) AutocryptGossip l.payload l.at l.place) × (length l.text ≡ length l.fn.text)

abbrev pub decreases-loop-length : goal.decreases-loop-length
decreases-loop-length l = length l.payload - l.place
