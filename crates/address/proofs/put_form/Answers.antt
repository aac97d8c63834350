use Rattle.labels.specs.Answers.{label_of}
use Rattle.address.proofs.Joining.{domain_by}
use Rattle.address.proofs.Making.{part_domain}
use Rattle.address.proofs.put_form.Goals as goal

pub returns : goal.returns
returns c =
    part_domain _ _ c.requires _ c.local_part.ensures _ c.in_ok-n.was _ c.put_lower.ensures _ _
    (rw domain_by at (c.put_labels.ensures label_of (λ p d i r e h. h)))
