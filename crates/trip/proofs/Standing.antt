-- What a message makes of the two halves of an entry.
--     direct_set, direct_kept      the sender's direct half, with a counted field
--     gossip_set, gossip_kept      the gossip half of an address, with its last accepted field
--     sender_there, gossip_there   both have an entry afterwards
-- Assumes nothing.
use Prim.Native.Nat.{ℕ}
use mathlib.Core.Path.{◌≡◌, refl, ap, ◌∙◌}
use mathlib.Core.Bool.{true, false, not}
use mathlib.Core.List.{List, [], ◌∷◌, ◌++◌}
use Rattle.std.specs.Prelude.{Option, Some, None}
use borrow.Author.Tests.{not-true}
use Rattle.octets.specs.Octets.{same_octets}
use Rattle.octets.specs.Options.{or_else}
use Rattle.octets.proofs.Comparing.{same_refl}
use Rattle.octets.specs.Tests.{every}
use Rattle.octets.proofs.Tests.{and_left, and_right, by_test}
use Rattle.heads.specs.Entry.{Direct, Entry, newcomer, seen_by, with_direct, with_gossip}
use Rattle.update.specs.Update.{younger, with_field, updated, younger_gossip, heard}
use Rattle.update.specs.Message.{Gossiped, Message, gossip_addresses, entry_put, entry_heard, entry_after}
use Rattle.update.proofs.Writing.{updated_older, updated_now, heard_older, heard_now}
use Rattle.update.proofs.Halves.{updated_gossip, heard_direct, equal_heard}
use Rattle.trip.specs.Standing.{direct_half, gossip_half, none_about}

-- an entry that is begun has neither half
begun_direct : (a : List ℕ) (e : Option Entry) → (or_else (newcomer a) e).direct ≡ direct_half e
unfolding direct_half newcomer or_else
begun_direct a None = refl
begun_direct a (Some x) = refl

begun_gossip : (a : List ℕ) (e : Option Entry) → (or_else (newcomer a) e).gossip ≡ gossip_half e
unfolding gossip_half newcomer or_else
begun_gossip a None = refl
begun_gossip a (Some x) = refl

-- a change to one's own entry, and to that of another
module _ (a : List ℕ) (change : Entry → Entry) where
  put_own : (e : Option Entry) → entry_put a change a e ≡ Some (change (or_else (newcomer a) e))
  unfolding entry_put
  put_own e = rw (entry_put, same_refl a)

  module _ (b : List ℕ) (e : Option Entry) where
    put_same : same_octets a b ≡ true → entry_put a change b e ≡ Some (change (or_else (newcomer a) e))
    unfolding entry_put
    put_same t = rw (entry_put, t)

    put_other : same_octets a b ≡ false → entry_put a change b e ≡ e
    unfolding entry_put
    put_other t = rw (entry_put, t)

    put_keeps : {A : Type 0} (part : Option Entry → A) → part (Some (change (or_else (newcomer a) e))) ≡ part e → part (entry_put a change b e) ≡ part e
    put_keeps part h = by_test (same_octets a b) (λ t. ap part (put_same t) ∙ h) (λ t. ap part (put_other t))

-- gossip leaves the direct half
heard_half : (date : ℕ) (gs : List Gossiped) (b : List ℕ) (e : Option Entry) → direct_half (entry_heard date gs b e) ≡ direct_half e
unfolding entry_heard direct_half
heard_half date [] b e = refl
heard_half date (g ∷ gs) b e =
    heard_half date gs b (entry_put g.address (heard date g.key) b e)
    ∙ put_keeps g.address (heard date g.key) b e direct_half (heard_direct date (or_else (newcomer g.address) e) g.key ∙ begun_direct g.address e)

-- the sender's part leaves the gossip half
sender_half : (a : List ℕ) (date : ℕ) (brought : Option Direct) (b : List ℕ) (e : Option Entry) → gossip_half (entry_put a (updated date brought) b e) ≡ gossip_half e
unfolding gossip_half
sender_half a date brought b e =
    put_keeps a (updated date brought) b e gossip_half (updated_gossip date (or_else (newcomer a) e) brought ∙ begun_gossip a e)

-- what is there stays
abbrev pub Held : Option Entry → Type 0
Held o = (e : Entry) × (o ≡ Some e)

put_held : (a : List ℕ) (change : Entry → Entry) (b : List ℕ) (o : Option Entry) → Held o → Held (entry_put a change b o)
put_held a change b o h =
    by_test (same_octets a b) (λ t. (change (or_else (newcomer a) o), put_same a change b o t)) (λ t. (h.0, put_other a change b o t ∙ h.1))

heard_held : (date : ℕ) (gs : List Gossiped) (b : List ℕ) (o : Option Entry) → Held o → Held (entry_heard date gs b o)
unfolding entry_heard
heard_held date [] b o h = h
heard_held date (g ∷ gs) b o h =
    heard_held date gs b (entry_put g.address (heard date g.key) b o) (put_held g.address (heard date g.key) b o h)

-- the sender
module _ (m : Message) (e : Option Entry) where
  pub sender_there : Held (entry_after m m.sender e)
  unfolding entry_after
  sender_there =
      heard_held m.date m.gossip m.sender (entry_put m.sender (updated m.date m.direct) m.sender e)
      (updated m.date m.direct (or_else (newcomer m.sender) e), put_own m.sender (updated m.date m.direct) e)

  after_direct : direct_half (entry_after m m.sender e) ≡ (updated m.date m.direct (or_else (newcomer m.sender) e)).direct
  unfolding entry_after direct_half
  after_direct =
      heard_half m.date m.gossip m.sender (entry_put m.sender (updated m.date m.direct) m.sender e)
      ∙ ap direct_half (put_own m.sender (updated m.date m.direct) e)

  pub direct_set : (d : Direct) → m.direct ≡ Some d → younger m.date (direct_half e) ≡ false → direct_half (entry_after m m.sender e) ≡ Some d
  unfolding with_field with_direct
  direct_set d q y =
      after_direct
      ∙ ap (λ (x : Entry). x.direct) (updated_now m.date (or_else (newcomer m.sender) e) m.direct (ap (younger m.date) (begun_direct m.sender e) ∙ y))
      ∙ ap (λ (x : Option Direct). (with_field x (seen_by m.date (or_else (newcomer m.sender) e))).direct) q

  pub direct_kept : younger m.date (direct_half e) ≡ true → direct_half (entry_after m m.sender e) ≡ direct_half e
  direct_kept y =
      after_direct
      ∙ ap (λ (x : Entry). x.direct) (updated_older m.date (or_else (newcomer m.sender) e) m.direct (ap (younger m.date) (begun_direct m.sender e) ∙ y))
      ∙ begun_direct m.sender e

-- gossip, field by field: a younger half stays, any other is replaced
module _ (date : ℕ) (b : List ℕ) where
  one_kept : (g : Gossiped) (e : Option Entry) → younger_gossip date (gossip_half e) ≡ true → gossip_half (entry_put g.address (heard date g.key) b e) ≡ gossip_half e
  unfolding gossip_half
  one_kept g e y =
      put_keeps g.address (heard date g.key) b e gossip_half
      (ap (λ (x : Entry). x.gossip) (heard_older date (or_else (newcomer g.address) e) g.key (ap (younger_gossip date) (begun_gossip g.address e) ∙ y))
      ∙ begun_gossip g.address e)

  one_set : (a key : List ℕ) (e : Option Entry) → same_octets a b ≡ true → younger_gossip date (gossip_half e) ≡ false
      → gossip_half (entry_put a (heard date key) b e) ≡ Some (record { timestamp = date; key = key })
  unfolding gossip_half with_gossip
  one_set a key e t y =
      ap gossip_half (put_same a (heard date key) b e t)
      ∙ ap (λ (x : Entry). x.gossip) (heard_now date (or_else (newcomer a) e) key (ap (younger_gossip date) (begun_gossip a e) ∙ y))

  one_not_younger : (g : Gossiped) (e : Option Entry) → younger_gossip date (gossip_half e) ≡ false
      → younger_gossip date (gossip_half (entry_put g.address (heard date g.key) b e)) ≡ false
  one_not_younger g e y =
      by_test (same_octets g.address b)
      (λ t. ap (younger_gossip date) (one_set g.address g.key e t y) ∙ equal_heard (record { timestamp = date; key = g.key }))
      (λ t. ap (λ (x : Option Entry). younger_gossip date (gossip_half x)) (put_other g.address (heard date g.key) b e t) ∙ y)

  -- and of several fields
  all_kept : (gs : List Gossiped) (e : Option Entry) → younger_gossip date (gossip_half e) ≡ true → gossip_half (entry_heard date gs b e) ≡ gossip_half e
  unfolding entry_heard
  all_kept [] e y = refl
  all_kept (g ∷ gs) e y =
      all_kept gs (entry_put g.address (heard date g.key) b e) (ap (younger_gossip date) (one_kept g e y) ∙ y) ∙ one_kept g e y

  all_not_younger : (gs : List Gossiped) (e : Option Entry) → younger_gossip date (gossip_half e) ≡ false
      → younger_gossip date (gossip_half (entry_heard date gs b e)) ≡ false
  unfolding entry_heard
  all_not_younger [] e y = y
  all_not_younger (g ∷ gs) e y = all_not_younger gs (entry_put g.address (heard date g.key) b e) (one_not_younger g e y)

  -- gossip about others
  none_heard : (gs : List Gossiped) → none_about b gs ≡ true → (e : Option Entry) → entry_heard date gs b e ≡ e
  unfolding entry_heard none_about gossip_addresses every
  none_heard [] n e = refl
  none_heard (g ∷ gs) n e =
      let other : same_octets g.address b ≡ false = not-true (same_octets g.address b) (and_left (not (same_octets g.address b)) (none_about b gs) n) in
      none_heard gs (and_right (not (same_octets g.address b)) (none_about b gs) n) (entry_put g.address (heard date g.key) b e)
      ∙ put_other g.address (heard date g.key) b e other

  heard_append : (x y : List Gossiped) (e : Option Entry) → entry_heard date (x ++ y) b e ≡ entry_heard date y b (entry_heard date x b e)
  unfolding entry_heard
  heard_append [] y e = refl
  heard_append (g ∷ x) y e = heard_append x y (entry_put g.address (heard date g.key) b e)

-- the last accepted field for an address, among the gossip of a message
module _ (m : Message) (b key : List ℕ) (before behind : List Gossiped) (q : m.gossip ≡ before ++ (record { address = b; key = key } ∷ behind))
    (n : none_about b behind ≡ true) (e : Option Entry) where
  sender_part : Option Entry
  sender_part = entry_put m.sender (updated m.date m.direct) b e

  earlier : Option Entry
  earlier = entry_heard m.date before b sender_part

  after_gossip : entry_after m b e ≡ entry_put b (heard m.date key) b earlier
  unfolding entry_after entry_heard earlier sender_part
  after_gossip =
      ap (λ (gs : List Gossiped). entry_heard m.date gs b sender_part) q
      ∙ heard_append m.date b before (record { address = b; key = key } ∷ behind) sender_part
      ∙ none_heard m.date b behind n (entry_put b (heard m.date key) b earlier)

  pub gossip_there : Held (entry_after m b e)
  gossip_there = (heard m.date key (or_else (newcomer b) earlier), after_gossip ∙ put_own b (heard m.date key) earlier)

  pub gossip_set : younger_gossip m.date (gossip_half e) ≡ false → gossip_half (entry_after m b e) ≡ Some (record { timestamp = m.date; key = key })
  unfolding earlier sender_part
  gossip_set y =
      ap gossip_half after_gossip
      ∙ one_set m.date b b key earlier (same_refl b)
      (all_not_younger m.date b before sender_part (ap (younger_gossip m.date) (sender_half m.sender m.date m.direct b e) ∙ y))

  pub gossip_kept : younger_gossip m.date (gossip_half e) ≡ true → gossip_half (entry_after m b e) ≡ gossip_half e
  unfolding earlier sender_part
  gossip_kept y =
      let start : gossip_half sender_part ≡ gossip_half e = sender_half m.sender m.date m.direct b e in
      let still : younger_gossip m.date (gossip_half sender_part) ≡ true = ap (younger_gossip m.date) start ∙ y in
      let same : gossip_half earlier ≡ gossip_half sender_part = all_kept m.date b before sender_part still in
      ap gossip_half after_gossip
      ∙ one_kept m.date b (record { address = b; key = key }) earlier (ap (younger_gossip m.date) same ∙ still)
      ∙ same
      ∙ start
