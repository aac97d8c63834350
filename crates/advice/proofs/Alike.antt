-- C10: recommendations depend on what the tables hold of addresses only, and not on the slots that it stands in.
--     advice_alike, target_alike  tables that hold the same of every address give the same advice for one, and the same key
--     advised_alike .. targets_alike     and the same advice, places and keys for a list
--     rest_alike    so do tables that hold the same of the recipients up to the first disable, but for the keys
-- Assumes nothing.
use Prim.Native.Nat.{ℕ}
use mathlib.Core.Path.{◌≡◌, refl, sym, ap, ◌∙◌}
use mathlib.Core.Bool.{Bool}
use mathlib.Core.List.{List, [], ◌∷◌, map}
use lib.ListN.{take}
use Rattle.address.specs.Address.{canonical}
use Rattle.table.specs.Entries.{Alike}
use Rattle.advice.specs.Advice.{advice_for, advice_in, target_of, target_in, advised, targets, overall, first_disable, entries_for}
use Rattle.advice.proofs.First.{same_front}

module _ (t u : List ℕ) (h : Alike t u) where
  pub advice_alike : (m reply : Bool) (a : List ℕ) → advice_in t m reply a ≡ advice_in u m reply a
  unfolding advice_in
  advice_alike m reply a = ap (advice_for m reply) (h (canonical a))

  pub target_alike : (a : List ℕ) → target_in t a ≡ target_in u a
  unfolding target_in
  target_alike a = ap target_of (h (canonical a))

  pub advised_alike : (m reply : Bool) (list : List (List ℕ)) → advised t m reply list ≡ advised u m reply list
  unfolding advised
  advised_alike m reply [] = refl
  advised_alike m reply (a ∷ rest) = cc (advice_alike m reply a, advised_alike m reply rest)

  pub first_alike : (m reply : Bool) (list : List (List ℕ)) → first_disable (advised t m reply list) ≡ first_disable (advised u m reply list)
  first_alike m reply list = ap first_disable (advised_alike m reply list)

  pub overall_alike : (m reply : Bool) (list : List (List ℕ)) → overall (advised t m reply list) ≡ overall (advised u m reply list)
  overall_alike m reply list = ap overall (advised_alike m reply list)

  pub targets_alike : (list : List (List ℕ)) → targets t list ≡ targets u list
  unfolding targets
  targets_alike [] = refl
  targets_alike (a ∷ rest) = cc (target_alike a, targets_alike rest)

advised_entries : (t : List ℕ) (m reply : Bool) (list : List (List ℕ)) → advised t m reply list ≡ map (advice_for m reply) (entries_for t list)
unfolding advised advice_in entries_for
advised_entries t m reply [] = refl
advised_entries t m reply (a ∷ rest) = ap (◌∷◌ (advice_in t m reply a)) (advised_entries t m reply rest)

-- C21: what the tables hold of those behind the first disable does not matter
pub rest_alike : (t u : List ℕ) (m reply : Bool) (list : List (List ℕ))
    → entries_for t (take (first_disable (advised t m reply list)) list) ≡ entries_for u (take (first_disable (advised t m reply list)) list)
    → (first_disable (advised t m reply list) ≡ first_disable (advised u m reply list)) × (overall (advised t m reply list) ≡ overall (advised u m reply list))
unfolding advised
rest_alike t u m reply list e =
    let looked = take (first_disable (advised t m reply list)) list in
    same_front (advice_in t m reply) (advice_in u m reply) list
    (advised_entries t m reply looked ∙ ap (map (advice_for m reply)) e ∙ sym (advised_entries u m reply looked))
