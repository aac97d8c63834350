-- What is handed out of two blocks (B14), worked out: a folded field, one without a value, and the end; a field, and a line that is
-- none.
-- Assumes nothing.
use mathlib.Core.Path.{◌≡◌, refl}
use mathlib.Core.List.{[], ◌∷◌, map}
use Rattle.octets.specs.Octets.{ascii, blank}
use Rattle.runs.specs.Runs.{belongs, run}
use Rattle.header.specs.Header.{over, of_ending, opens_field, raw_length, closes}
use Rattle.header.specs.Answers.{step_at}
use Rattle.reader.specs.Reading.{handed, handed_at, place_behind, handed_after}
use Rattle.reader.specs.declared.Handed.TheVariants.{Over, Broken, Field}

readable : map (λ k. handed_after k (ascii "To: a@b,\r\n\tc@d\nX:\n\r\nnot a field") 0) (0 ∷ 1 ∷ 2 ∷ 3 ∷ []) ≡ Field 0 2 3 15 ∷ Field 15 16 17 18 ∷ Over ∷ Over ∷ []
unfolding step_at over of_ending opens_field run raw_length belongs blank closes handed handed_at place_behind handed_after
readable = refl

unreadable : map (λ k. handed_after k (ascii "A:b\nC\nD:e") 0) (0 ∷ 1 ∷ 2 ∷ []) ≡ Field 0 1 2 4 ∷ Broken ∷ Broken ∷ []
unfolding step_at over of_ending opens_field run raw_length belongs blank closes handed handed_at place_behind handed_after
unreadable = refl
