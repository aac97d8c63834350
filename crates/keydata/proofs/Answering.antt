-- What the answer of `write` comes to for its callers.
--     some_told   is the text Base64?
--     held        what the memory then holds
-- Assumes nothing.
use Prim.Native.Nat.{ℕ, ◌≤◌}
use mathlib.Core.Path.{◌≡◌, ◌∙◌}
use mathlib.Core.Bool.{Bool}
use mathlib.Core.List.{List}
use Rattle.std.specs.Prelude.{Option, Some, None, option_map}
use Rattle.std.specs.Prelude.{is_some as has}
use lib.ListN.{length}
use Rattle.octets.specs.Options.{is_some}
use Rattle.letters.specs.Base64.{octets_in}
use Rattle.keydata.specs.Answers.{Decodes}
use Rattle.keydata.specs.Steps.{Wrote}
use Rattle.keydata.proofs.Answered.{octets_answered}

pub some_told : (o : Option (List ℕ)) (r : Option ℕ) (b : Bool) → r ≡ option_map length o → b ≡ has r → b ≡ is_some o
unfolding is_some
some_told None r b e q = q ∙ rw e
some_told (Some w) r b e q = q ∙ rw e

pub held : (o : Option (List ℕ)) (d out : List ℕ) (r : Option ℕ) → Wrote o d out (length d) r → Decodes o d out r
unfolding Decodes
held o d out None h = tt
held o d out (Some n) h =
    let a = octets_answered o (length d) n h.counts in
    let l : length (octets_in o) ≤ length d = rw a.1 a.2 in
    h.writes (octets_in o) a.0 l l
