-- The gossip setting: what it means.
--     taken_only    gossip is taken with take, and with nothing else
-- Assumes nothing.
use mathlib.Core.Path.{◌≡◌, refl}
use mathlib.Core.Logic.{◌↔◌}
use mathlib.Core.Bool.{true, false≢true}
use Rattle.settings.specs.Settings.{taken}
use Rattle.settings.specs.declared.Gossip.{Gossip}
use Rattle.settings.specs.declared.Gossip.TheVariants.{Take, Skip, Unset}

pub taken_only : (g : Gossip) → (taken g ≡ true) ↔ (g ≡ Take)
unfolding taken
taken_only g = (λ e. asked g e, λ e. rw e)
  where
    asked : (h : Gossip) → taken h ≡ true → h ≡ Take
    asked Take e = refl
    asked Skip e = absurd (false≢true e)
    asked Unset e = absurd (false≢true e)
