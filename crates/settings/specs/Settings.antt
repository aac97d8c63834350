-- What a caller chooses beside the message. SCOPE, G1: the gossip setting.
--     taken    is gossip taken?
use Rattle.std.specs.Prelude.{Bool, true, false}
use Rattle.settings.specs.declared.Gossip.{Gossip}
use Rattle.settings.specs.declared.Gossip.TheVariants.{Take, Skip, Unset}

-- G1: gossip is taken where it was asked for, and only there
unfoldable pub taken : Gossip → Bool
taken Take = true
taken Skip = false
taken Unset = false
