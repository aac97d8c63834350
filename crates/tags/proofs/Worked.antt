-- Worked tags, by computing the definitions.
-- Assumes nothing.
use Rattle.std.proofs.Common.{◌≡◌, ℕ, List, [], ◌∷◌, map, refl}
use Rattle.octets.specs.Octets.{ascii}
use Rattle.tags.specs.Tags.{tag_after, tag_of}

-- a text and its tag; that of the address has wrapped
tags : List (List ℕ × ℕ)
tags = ([], 5381) ∷ (ascii "a", 177670) ∷ (ascii "alice@example.org", 2685068741) ∷ []

tags_hold : map (λ (e : List ℕ × ℕ). tag_of e.0) tags ≡ map (λ (e : List ℕ × ℕ). e.1) tags
unfolding tags tag_of tag_after
tags_hold = refl
