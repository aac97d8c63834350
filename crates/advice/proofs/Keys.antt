-- The part of the table that is handed back holds the entry's key, and lies within the table.
--     key_octets, key_within          the key to encrypt to of an entry
--     target_octets, target_within    of an address
--     place_octets, place_within      of a place in a list
--     place_past                      an empty part past the list (A7)
-- Assumes nothing.
use Prim.Native.Nat.{ℕ, zero, suc, ◌≤◌, zero-le}
use mathlib.Core.Path.{◌≡◌, refl, sym, ap, ◌∙◌}
use mathlib.Core.Bool.{Bool, true, false}
use mathlib.Core.List.{List, [], ◌∷◌}
use native.Mathlib.Omega.{arith}
use lib.ListN.{length, get_or}
use Rattle.octets.proofs.Tests.{by_test}
use Rattle.address.specs.Address.{canonical}
use Rattle.heads.specs.declared.Head.{Head}
use Rattle.heads.specs.Head.{has_direct, has_gossip, head_of}
use Rattle.slots.specs.Entry.{entry_of}
use Rattle.table.specs.Table.{checked}
use Rattle.table.specs.declared.Checked.TheVariants.{Sound}
use Rattle.lookup.specs.Held.{held_of}
use Rattle.lookup.specs.declared.Held.{Held}
use Rattle.lookup.proofs.Holding.{by_held, Tells, held_tells, held_not}
use Rattle.advice.specs.Advice.{direct_of, gossip_of, target_by, target_of, target_in, targets}
use Rattle.advice.specs.Places.{no_part, key_part, target_part, target_at, octets_at, Within}
use Rattle.advice.proofs.Rating.{direct_there, direct_absent, gossip_there, gossip_absent}
use Rattle.advice.proofs.Targets.{key_direct, key_gossip, key_none, target_nothing, target_there}

module _ (t a : List ℕ) (e : Held) (h : Tells t a e) where
  -- the bits of the numbers are those of the slot
  direct_bit : (b : Bool) → e.numbers.direct ≡ b → has_direct h.slot ≡ b
  unfolding head_of
  direct_bit b q = ap (λ (x : Head). x.direct) (sym h.numbers) ∙ q

  gossip_bit : (b : Bool) → e.numbers.gossip ≡ b → has_gossip h.slot ≡ b
  unfolding head_of
  gossip_bit b q = ap (λ (x : Head). x.gossip) (sym h.numbers) ∙ q

  pub key_octets : octets_at t (key_part e.numbers e.direct e.gossip) ≡ target_by (direct_of (entry_of h.slot)) (gossip_of (entry_of h.slot))
  unfolding octets_at target_by
  key_octets =
      by_test e.numbers.direct
      (λ p. rw (← key_direct e.numbers e.direct e.gossip p, direct_there h.slot (direct_bit true p)) (h.direct_lies p).0)
      (λ p.
      by_test e.numbers.gossip
      (λ q.
      rw (← key_gossip e.numbers e.direct e.gossip p q, direct_absent h.slot (direct_bit false p), gossip_there h.slot (gossip_bit true q)) (h.gossip_lies q).0)
      (λ q. rw (← key_none e.numbers e.direct e.gossip p q, direct_absent h.slot (direct_bit false p), gossip_absent h.slot (gossip_bit false q))))

  pub key_within : Within t (key_part e.numbers e.direct e.gossip)
  key_within =
      by_test e.numbers.direct
      (λ p. rw (← key_direct e.numbers e.direct e.gossip p) (h.direct_lies p).1)
      (λ p.
      by_test e.numbers.gossip
      (λ q. rw (← key_gossip e.numbers e.direct e.gossip p q) (h.gossip_lies q).1)
      (λ q. rw (← key_none e.numbers e.direct e.gossip p q) zero-le))

module _ (t : List ℕ) (s : checked t ≡ Sound) where
  pub target_octets : (a : List ℕ) → octets_at t (target_part t a) ≡ target_in t a
  unfolding octets_at target_in target_of
  target_octets a =
      by_held (held_of t (canonical a))
      (λ e q.
      let h : Tells t (canonical a) e = held_tells t (canonical a) s e q in
      rw (← target_there t a (held_of t (canonical a)) refl e q (key_part e.numbers e.direct e.gossip) refl, target_in, h.whose) (key_octets t (canonical a) e h))
      (λ q. rw (← target_nothing t a (held_of t (canonical a)) refl q, target_in, held_not t (canonical a) q))

  pub target_within : (a : List ℕ) → Within t (target_part t a)
  target_within a =
      by_held (held_of t (canonical a))
      (λ e q.
      rw (← target_there t a (held_of t (canonical a)) refl e q (key_part e.numbers e.direct e.gossip) refl)
      (key_within t (canonical a) e (held_tells t (canonical a) s e q)))
      (λ q. rw (← target_nothing t a (held_of t (canonical a)) refl q) zero-le)

  pub place_within : (list : List (List ℕ)) (place : ℕ) → Within t (target_at t list place)
  unfolding target_at
  place_within [] place = zero-le
  place_within (a ∷ rest) zero = target_within a
  place_within (a ∷ rest) (suc place) = place_within rest place

  pub place_octets : (list : List (List ℕ)) (place : ℕ) → octets_at t (target_at t list place) ≡ get_or (targets t list) place []
  unfolding target_at targets octets_at
  place_octets [] place = refl
  place_octets (a ∷ rest) zero = target_octets a
  place_octets (a ∷ rest) (suc place) = place_octets rest place

  pub place_past : (list : List (List ℕ)) (place : ℕ) → length list ≤ place → target_at t list place ≡ no_part
  unfolding target_at
  place_past [] place l = refl
  place_past (a ∷ rest) zero l = absurd (omega arith)
  place_past (a ∷ rest) (suc place) l = place_past rest place (omega arith)
