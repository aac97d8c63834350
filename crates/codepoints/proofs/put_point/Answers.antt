use Rattle.codepoints.proofs.Encoding.{laying}
use Rattle.codepoints.proofs.put_point.Goals as goal

pub returns-then-room-lt2 : goal.returns-then-room-lt2
returns-then-room-lt2 c = search laying

pub returns-then-room-lt3 : goal.returns-then-room-lt3
returns-then-room-lt3 c = search laying

pub returns-then-room-lt4 : goal.returns-then-room-lt4
returns-then-room-lt4 c = search laying
