-- C11, of two messages and one entry: which of them comes first does not matter, where they agree.
--     share_of, entry_share   what a message brings one address, and that this is all that it does to its entry
--     entry_keeps             a message keeps what is known of an entry
--     entry_swap              two messages in either order
-- Assumes nothing.
use Prim.Native.Nat.{ℕ}
use mathlib.Core.Path.{◌≡◌, refl, sym, ap, ◌∙◌}
use mathlib.Core.Bool.{true}
use mathlib.Core.List.{List, [], ◌∷◌}
use Rattle.std.specs.Prelude.{Option, Some, None}
use native.Mathlib.Omega.{arith}
use Rattle.octets.specs.Octets.{same_octets}
use Rattle.octets.specs.Options.{or_else}
use Rattle.octets.proofs.Comparing.{same_true}
use Rattle.octets.proofs.Tests.{by_test}
use Rattle.heads.specs.Entry.{Gossip, Entry, newcomer}
use Rattle.update.specs.Update.{above, the_direct, updated, the_gossip, heard}
use Rattle.update.specs.Message.{Gossiped, Message, entry_put, entry_heard, entry_after}
use Rattle.order.specs.Brought.{brings_direct, last_of, key_about, last_key, brings_gossip}
use Rattle.order.specs.Fetching.{Agree}
use Rattle.order.proofs.Later.{later, Settled, above_orderly, above_tied, above_equal}
use Rattle.order.proofs.Halves.{Stamped}
use Rattle.order.proofs.Shares.{Share, sent_by, heard_of, shared, heard_both, Known, share_keeps, share_swap}

-- a key by gossip, as the half of a date
unfoldable heard_at : ℕ → Option (List ℕ) → Option Gossip
heard_at date None = None
heard_at date (Some key) = Some (record { timestamp = date; key = key })

unfoldable share_of : Message → List ℕ → Share
share_of m b =
    record {
      sent = same_octets m.sender b;
      date = m.date;
      direct = m.direct;
      gossip = heard_at m.date (brings_gossip m b);
    }

-- of all gossip about the address only the last field stands
module _ (date : ℕ) (b : List ℕ) where
  abbrev told : Option (List ℕ) → Option Entry → Option Entry
  told key e = heard_of (above the_gossip) b (heard_at date key) e

  put_heard : (g : Gossiped) (e : Option Entry) → entry_put g.address (heard date g.key) b e ≡ told (key_about g b) e
  unfolding entry_put heard_of heard_at key_about heard
  put_heard g e =
      by_test (same_octets g.address b)
      (λ t. rw (entry_put, key_about, t) (ap (λ (a : List ℕ). Some (heard date g.key (or_else (newcomer a) e))) (same_true g.address b t)))
      (λ f. rw (entry_put, key_about, f))

  last_later : (first last : Option (List ℕ)) → later the_gossip (above the_gossip) (heard_at date last) (heard_at date first) ≡ heard_at date (last_of first last)
  unfolding later heard_at last_of
  last_later first None = refl
  last_later None (Some key) = refl
  last_later (Some k) (Some key) = above_equal the_gossip (record { timestamp = date; key = k }) (record { timestamp = date; key = key }) refl

  heard_last : (first last : Option (List ℕ)) (e : Option Entry) → told last (told first e) ≡ told (last_of first last) e
  heard_last first last e =
      heard_both (above the_gossip) (above_orderly the_gossip) b (heard_at date first) (heard_at date last) e
      ∙ ap (λ (g : Option Gossip). heard_of (above the_gossip) b g e) (last_later first last)

  heard_all : (gs : List Gossiped) (e : Option Entry) → entry_heard date gs b e ≡ told (last_key gs b) e
  unfolding entry_heard last_key heard_of heard_at
  heard_all [] e = refl
  heard_all (g ∷ rest) e =
      heard_all rest (entry_put g.address (heard date g.key) b e)
      ∙ ap (told (last_key rest b)) (put_heard g e)
      ∙ heard_last (key_about g b) (last_key rest b) e

put_sent : (m : Message) (b : List ℕ) (e : Option Entry)
    → entry_put m.sender (updated m.date m.direct) b e ≡ sent_by (above the_direct) b (same_octets m.sender b) m.date m.direct e
unfolding entry_put sent_by updated
put_sent m b e =
    by_test (same_octets m.sender b)
    (λ t. rw (entry_put, t) (ap (λ (a : List ℕ). Some (updated m.date m.direct (or_else (newcomer a) e))) (same_true m.sender b t)))
    (λ f. rw (entry_put, f))

entry_share : (m : Message) (b : List ℕ) (e : Option Entry) → entry_after m b e ≡ shared (above the_direct) (above the_gossip) b (share_of m b) e
unfolding entry_after brings_gossip share_of
entry_share m b e = heard_all m.date b m.gossip _ ∙ ap (told m.date b (last_key m.gossip b)) (put_sent m b e)

pub entry_keeps : (m : Message) (b : List ℕ) (e : Option Entry) → Stamped m.date m.direct → Known e → Known (entry_after m b e)
unfolding share_of
entry_keeps m b e s k =
    rw (entry_share m b e) (share_keeps (above the_direct) (above the_gossip) (above_orderly the_direct) (above_orderly the_gossip) b (share_of m b) s e k)

-- two messages that agree on what they bring at one date
settled_gossip : (c d : ℕ) (x y : Option (List ℕ)) → ((k l : List ℕ) → x ≡ Some k → y ≡ Some l → c ≡ d → k ≡ l)
    → Settled the_gossip (above the_gossip) (heard_at d y) (heard_at c x)
unfolding Settled heard_at
settled_gossip c d x None agree u v p q f g = let z : ◌≡◌ {A = ℕ} 0 1 = cc in absurd (omega arith)
settled_gossip c d None (Some l) agree u v p q f g = let z : ◌≡◌ {A = ℕ} 0 1 = cc in absurd (omega arith)
settled_gossip c d (Some k) (Some l) agree u v p q f g =
    let pu : record { timestamp = d; key = l } ≡ u = cc in
    let pv : record { timestamp = c; key = k } ≡ v = cc in
    let date : c ≡ d = ap (λ (h : Gossip). h.timestamp) pv ∙ sym (above_tied the_gossip u v f g) ∙ sym (ap (λ (h : Gossip). h.timestamp) pu) in
    sym pu ∙ (λ i. record { timestamp = sym date i; key = sym (agree k l refl refl date) i }) ∙ pv

module _ (m n : Message) (s : Stamped m.date m.direct) (r : Stamped n.date n.direct) (agree : Agree m n) (b : List ℕ) where
  settled_direct : same_octets m.sender b ≡ true → same_octets n.sender b ≡ true → Settled the_direct (above the_direct) n.direct m.direct
  unfolding Settled Stamped brings_direct
  settled_direct x y u v p q f g =
      let t : u.timestamp ≡ v.timestamp = above_tied the_direct u v f g in
      let dated : m.date ≡ n.date = sym (rw q at s) ∙ sym t ∙ rw p at r in
      let both : (v.key ≡ u.key) × (v.«mutual» ≡ u.«mutual») = agree.direct b v u (rw (brings_direct, x) q) (rw (brings_direct, y) p) dated in
      λ i. record { timestamp = t i; key = sym both.0 i; «mutual» = sym both.1 i }

  pub entry_swap : (e : Option Entry) → Known e → entry_after n b (entry_after m b e) ≡ entry_after m b (entry_after n b e)
  unfolding share_of
  entry_swap e k =
      twice m n
      ∙ share_swap (above the_direct) (above the_gossip) (above_orderly the_direct) (above_orderly the_gossip) b (share_of m b) (share_of n b) s r
      settled_direct (settled_gossip m.date n.date (brings_gossip m b) (brings_gossip n b) (agree.gossip b)) e k
      ∙ sym (twice n m)
    where
      twice : (m n : Message) → entry_after n b (entry_after m b e)
          ≡ shared (above the_direct) (above the_gossip) b (share_of n b) (shared (above the_direct) (above the_gossip) b (share_of m b) e)
      twice m n =
          entry_share n b (entry_after m b e) ∙ ap (shared (above the_direct) (above the_gossip) b (share_of n b)) (entry_share m b e)
