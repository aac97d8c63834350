-- C10: two sound tables that hold the same of every address give the same answers and the same keys, whichever slots these stand in.
--     refused_alike        sound tables pass the rows of the table
--     recommended_alike    what `recommend` answers
--     quick_alike          what `recommend_quick` answers
--     key_alike            the key that the call for a target key hands back
--     rest_unread          C21: for `recommend_quick` it is enough that they hold the same of the recipients that one of them looks up
-- Assumes nothing.
use Prim.Native.Nat.{ℕ}
use mathlib.Core.Path.{◌≡◌, sym, ◌∙◌}
use mathlib.Core.Bool.{Bool}
use mathlib.Core.List.{List, [], ◌∷◌}
use lib.ListN.{take}
use Rattle.octets.specs.Options.{or_else}
use Rattle.refusals.specs.Rows.{Row, ◌unless◌, answered_by}
use Rattle.refusals.specs.declared.Refusal.TheVariants.{Recipients}
use Rattle.refusals.proofs.Rows.{by_refusal, first_rest}
use Rattle.inspect.specs.Inspecting.{table_rows}
use Rattle.inspect.proofs.Tables.{sound_rows}
use Rattle.addresslist.specs.List.{addresses}
use Rattle.slots.specs.declared.Spelling.TheVariants.{Canonical}
use Rattle.table.specs.Table.{checked}
use Rattle.table.specs.Entries.{Alike}
use Rattle.table.specs.declared.Checked.TheVariants.{Sound}
use Rattle.advice.specs.Advice.{entries_for}
use Rattle.advice.proofs.Alike.{overall_alike, first_alike, targets_alike, rest_alike}
use Rattle.recommend.specs.Recommending.{recipient_list, recommending_rows, refused_recommending, recommended_of, looked_up_of, quick_of, target_key_of}

module _ (t u : List ℕ) (e : checked t ≡ Sound) (f : checked u ≡ Sound) (s : List ℕ) where
  abbrev last : List Row
  last = (Recipients unless recipient_list (addresses s)) ∷ []

  refused_alike : refused_recommending t s ≡ refused_recommending u s
  unfolding refused_recommending recommending_rows
  refused_alike = first_rest (table_rows t) last (sound_rows Canonical t e) ∙ sym (first_rest (table_rows u) last (sound_rows Canonical u f))

  module _ (h : Alike t u) where
    pub recommended_alike : (m reply : Bool) → recommended_of t s m reply ≡ recommended_of u s m reply
    unfolding recommended_of
    recommended_alike m reply = rw (refused_alike, overall_alike t u h m reply (or_else [] (addresses s)))

    pub quick_alike : (m reply : Bool) → quick_of t s m reply ≡ quick_of u s m reply
    unfolding quick_of looked_up_of
    quick_alike m reply = rw (recommended_alike m reply, refused_alike, first_alike t u h m reply (or_else [] (addresses s)))

    pub key_alike : (place : ℕ) → target_key_of t s place ≡ target_key_of u s place
    unfolding target_key_of
    key_alike place = rw (refused_alike, targets_alike t u h (or_else [] (addresses s)))

  -- C21: whoever stands behind the first disable does not matter
  pub rest_unread : (m reply : Bool) → entries_for t (take (looked_up_of t s m reply) (or_else [] (addresses s))) ≡ entries_for u (take (looked_up_of t s m reply) (or_else [] (addresses s)))
      → quick_of t s m reply ≡ quick_of u s m reply
  unfolding quick_of recommended_of looked_up_of answered_by
  rest_unread m reply h =
      by_refusal (refused_recommending t s)
      (λ r o. rw (sym refused_alike, o))
      (λ o.
      let looked = rest_alike t u m reply (or_else [] (addresses s)) (rw o at h) in
      rw (sym refused_alike, o, looked.0, looked.1))
