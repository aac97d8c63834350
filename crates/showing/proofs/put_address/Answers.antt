use Rattle.std.proofs.Common.{refl, Some}
use Rattle.octets.proofs.Puts.{put_told}
use Rattle.showing.specs.Showing.{shown}
use Rattle.showing.proofs.Laying.{head_labels, labels_shown}
use Rattle.showing.proofs.put_address.Goals as goal

pub returns : goal.returns
returns c =
    head_labels _ c.requires.0 _ c.find-n.ensures _ _ _ c.put_text.ensures _ c.in_ok-to.was _ _
    (labels_shown _ _ _ _ _
    (c.put_labels.ensures (λ p. Some (shown p)) (λ p d at r e h. put_told d.now e.now at _ (shown p.now) refl r h)))
