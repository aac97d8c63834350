-- What stands before the last delimiter.
--     front_is     what std's `rposition` finds, and where nothing is found nothing stands there
-- Assumes nothing.
use Rattle.std.proofs.Common.{◌≡◌, ◌≢◌, ℕ, suc, ◌+◌, ◌<◌, ◌≤◌, false, List, [], ◌∷◌, ◌++◌, Option, Some, None, MatchOption, unwrap_or, length, get_or, take, drop, length-drop, arith, refl, ap, sym, ◌∙◌}
use borrow.Author.Tests.{ne_eqb}
use lib.ListN.{take-append-drop}
use lib.Seq.{get_or-drop}
use Rattle.octets.specs.Finding.{holds}
use Rattle.octets.proofs.Lists.{drop_one}
use Rattle.punycode.specs.Punycode.{front}
use Rattle.punycode.proofs.RoundTrip.{front_free, front_delimited}
use Rattle.decoder.specs.Steps.{Front}

free : (x : ℕ) (s : List ℕ) → ((k : ℕ) → k < length s → get_or s k 0 ≢ x) → holds x s ≡ false
unfolding holds
free x [] h = refl
free x (y ∷ s) h = rw (ne_eqb y x (h 0 (omega arith))) (free x s (λ k l. h (suc k) (omega arith)))

pub front_is : (s : List ℕ) (r : Option ℕ)
    → MatchOption r ((k : ℕ) → k < length s → get_or s k 0 ≢ 45) (λ b. (b < length s) × (get_or s b 0 ≡ 45) × ((k : ℕ) → b + 1 ≤ k → k < length s → get_or s k 0 ≢ 45))
    → Front s (unwrap_or r 0)
front_is s None h = record { same = front_free s (free 45 s h); upto = omega arith; there = λ k. omega arith }
front_is s (Some b) (l, e, f) =
    let t : s ≡ take b s ++ (45 ∷ drop (b + 1) s) = sym (take-append-drop b s) ∙ rw (drop_one s b l, e) in
    let g : holds 45 (drop (b + 1) s) ≡ false =
    free 45 (drop (b + 1) s) (λ k m. let n : b + 1 + k < length s = omega (arith, length-drop (b + 1) s) in rw get_or-drop (f (b + 1 + k) (omega arith) n)) in
    record { same = ap front t ∙ front_delimited (take b s) (drop (b + 1) s) g; upto = omega arith; there = λ k. l }
