use Rattle.attributes.proofs.Stepping.{stepping}
use Rattle.attributes.proofs.step_at.Goals as goal

pub returns-in-Keydata : goal.returns-in-Keydata
returns-in-Keydata c = search stepping

pub returns-in-Ignored : goal.returns-in-Ignored
returns-in-Ignored c = search stepping

pub returns-in-Spoiling : goal.returns-in-Spoiling
returns-in-Spoiling c = search stepping
