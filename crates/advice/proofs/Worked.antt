-- Examples of page A, and what is easily got wrong, by computing the definitions.
--     gap_of_35_days, gap_of_more    both ends of the limit on the gap (A3, C14)
--     one_recipient                  no entry and no key; gossip alone; what a reply and preferences raise
--     whole_list                     the four answers for a list
--     which_place                    the place of the first disable
--     which_key                      the key to encrypt to
-- Assumes nothing.
use Prim.Native.Nat.{ℕ, ◌+◌}
use mathlib.Core.Path.{◌≡◌, refl}
use mathlib.Core.Bool.{Bool, true, false}
use mathlib.Core.List.{List, [], ◌∷◌, map}
use Rattle.std.specs.Prelude.{Option, Some, None}
use Rattle.octets.specs.Options.{or_else}
use Rattle.heads.specs.Entry.{Gossip, Entry}
use Rattle.advice.specs.Advice.{stale, direct_of, gossip_of, rated_by, rated, raised, prefers_by, advice_for, target_by, target_of, any_disable, all_encrypt, any_discourage, overall, first_disable}
use Rattle.advice.specs.declared.Advice.{Advice}
use Rattle.advice.specs.declared.Advice.TheVariants.{Disable, Discourage, Available, Encrypt}

abbrev gossip_key : Gossip
gossip_key = record { timestamp = 5000; key = 7 ∷ [] }

-- a direct key of the timestamp 1000, and last seen so much later
abbrev seen_after : ℕ → Bool → Option Gossip → Entry
seen_after gap is_mutual gossip =
    record { address = []; last_seen = Some (1000 + gap); direct = Some (record { timestamp = 1000; key = 5 ∷ []; «mutual» = is_mutual }); gossip = gossip }

-- no direct key
abbrev without : Option Gossip → Entry
without gossip = record { address = []; last_seen = Some 1000; direct = None; gossip = gossip }

-- A3, C14: without reply and preference a gap of 35 days is available, and one second more is discourage
pub gap_of_35_days : advice_for false false (Some (seen_after 3024000 false None)) ≡ Available
unfolding advice_for raised prefers_by direct_of gossip_of rated rated_by stale or_else
gap_of_35_days = refl

pub gap_of_more : advice_for false false (Some (seen_after 3024001 false None)) ≡ Discourage
unfolding advice_for raised prefers_by direct_of gossip_of rated rated_by stale or_else
gap_of_more = refl

-- the own preference, whether the mail is a reply, the entry, and the advice
record Row : Type 0 where
  own : Bool
  reply : Bool
  held : Option Entry
  advice : Advice

abbrev row : Bool → Bool → Option Entry → Advice → Row
row own reply held advice = record { own = own; reply = reply; held = held; advice = advice }

abbrev rows : List Row
rows =
    row true true None Disable
    ∷ row true true (Some (without None)) Disable
    ∷ row true false (Some (without (Some gossip_key))) Discourage
    ∷ row true true (Some (without (Some gossip_key))) Encrypt
    ∷ row true false (Some (seen_after 0 true None)) Encrypt
    ∷ row false false (Some (seen_after 0 true None)) Available
    ∷ row true false (Some (seen_after 0 false None)) Available
    ∷ row false true (Some (seen_after 0 false None)) Encrypt
    ∷ row true false (Some (seen_after 3024001 true None)) Discourage
    ∷ row false true (Some (seen_after 3024001 false None)) Encrypt
    ∷ []

one_recipient : map (λ (r : Row). advice_for r.own r.reply r.held) rows ≡ map (λ (r : Row). r.advice) rows
unfolding advice_for raised prefers_by direct_of gossip_of rated rated_by stale or_else
one_recipient = refl

whole_list :
    map overall (
    (Encrypt ∷ Disable ∷ [])
    ∷ (Encrypt ∷ Encrypt ∷ [])
    ∷ (Available ∷ Discourage ∷ Encrypt ∷ [])
    ∷ (Encrypt ∷ Available ∷ [])
    ∷ []
    )
    ≡ Disable ∷ Encrypt ∷ Discourage ∷ Available ∷ []
unfolding overall any_disable all_encrypt any_discourage
whole_list = refl

-- A13: the first disable alone counts, and without one the length does
which_place :
    map first_disable (
    (Available ∷ Disable ∷ Available ∷ Disable ∷ [])
    ∷ (Available ∷ Available ∷ [])
    ∷ (Disable ∷ [])
    ∷ (Discourage ∷ Encrypt ∷ Disable ∷ [])
    ∷ []
    )
    ≡ 2 ∷ 2 ∷ 1 ∷ 3 ∷ []
unfolding first_disable
which_place = refl

which_key :
    map target_of (None ∷ Some (without None) ∷ Some (without (Some gossip_key)) ∷ Some (seen_after 0 false (Some gossip_key)) ∷ [])
    ≡ [] ∷ [] ∷ (7 ∷ []) ∷ (5 ∷ []) ∷ []
unfolding target_of target_by direct_of gossip_of
which_key = refl
