use Rattle.tags.proofs.Tagging.{TagUpTo}
use Rattle.tags.proofs.tag_of.Given as goal

abbrev pub invariant-loop-octet : goal.invariant-loop-octet
invariant-loop-octet l = TagUpTo l.address l.octet-index l.tag
