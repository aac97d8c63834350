-- The later of two things that may be absent (T18), and what it does to entries.
--     later_taken, later_kept    which of two stands, by their bits and times
--     later_seen                 last seen is raised
--     later_holds                what holds of both holds of the one that stands
--     good_with_seen .. good_merged    the entry of two good ones is good
-- Assumes nothing.
use Prim.Native.Nat.{ℕ, ◌≤◌, max}
use mathlib.Core.Path.{◌≡◌, refl, sym, ap, ◌∙◌}
use mathlib.Core.Bool.{Bool, true, false, not, ◌&&◌, ◌||◌, false≢true}
use Rattle.std.specs.Prelude.{Option, Some, None}
use native.Mathlib.Omega.{arith}
use native.Mathlib.Nat.{zero-max, max-eq_left, max-eq_right, le-max_left, le-max_right}
use borrow.Author.Tests.{ltb-true, ltb-false}
use lib.Dec.{ltb}
use Rattle.octets.specs.Options.{is_some, or_else, IfSome}
use Rattle.octets.proofs.Tests.{by_test}
use Rattle.heads.specs.Head.{time_limit}
use Rattle.heads.specs.Entry.{Direct, Gossip, Entry, present, renamed}
use Rattle.slots.specs.Entry.{GoodDirect, GoodGossip, Good}
use Rattle.merge.specs.Merging.{later_of, merged}
use Rattle.merge.specs.Steps.{with_seen, with_later_gossip}

-- b is what the code found out by bits and times
module _ {A : Type 0} (time : A → ℕ) (x y : A) (b : Bool) where
  pub later_taken : (p q : Bool) → b ≡ (q && (not p || ltb (time x) (time y))) → b ≡ true → Some y ≡ later_of time (present p x) (present q y)
  unfolding later_of
  later_taken true true e t = rw (later_of, sym e ∙ t)
  later_taken false true e t = refl
  later_taken true false e t = absurd (false≢true (sym e ∙ t))
  later_taken false false e t = absurd (false≢true (sym e ∙ t))

  pub later_kept : (p q : Bool) → b ≡ (q && (not p || ltb (time x) (time y))) → b ≡ false → present p x ≡ later_of time (present p x) (present q y)
  unfolding later_of
  later_kept true true e f = rw (later_of, sym e ∙ f)
  later_kept false true e f = absurd (false≢true (sym f ∙ e))
  later_kept true false e f = refl
  later_kept false false e f = refl

pub later_holds : {A : Type 0} (time : A → ℕ) (P : A → Type 0) (p q : Option A) → IfSome P p → IfSome P q → IfSome P (later_of time p q)
unfolding later_of
later_holds time P None q g h = h
later_holds time P (Some a) None g h = g
later_holds time P (Some a) (Some b) g h = by_test (ltb (time a) (time b)) (λ e. rw (later_of, e) h) (λ e. rw (later_of, e) g)

pub later_none : {A : Type 0} (time : A → ℕ) (o : Option A) → o ≡ later_of time o None
unfolding later_of
later_none time None = refl
later_none time (Some x) = refl

pub later_seen : (o : Option ℕ) (date : ℕ) → later_of (λ (t : ℕ). t) o (Some date) ≡ Some (max (or_else 0 o) date)
unfolding later_of or_else
later_seen None date = ap Some (sym (zero-max date))
later_seen (Some t) date =
    by_test (ltb t date)
    (λ e. rw (later_of, e) (ap Some (sym (max-eq_right (omega (arith, ltb-true t date e))))))
    (λ e. rw (later_of, e) (ap Some (sym (max-eq_left (omega (arith, ltb-false t date e))))))

-- last seen of either entry is not above that of both
module _ (date : ℕ) where
  seen_own : (o : Option ℕ) → or_else 0 o ≤ or_else 0 (later_of (λ (t : ℕ). t) o (Some date))
  unfolding or_else
  seen_own o = rw (later_seen o date) (le-max_left (or_else 0 o) date)

  seen_other : (o : Option ℕ) → date ≤ or_else 0 (later_of (λ (t : ℕ). t) o (Some date))
  unfolding or_else
  seen_other o = rw (later_seen o date) (le-max_right (or_else 0 o) date)

  seen_there : (o : Option ℕ) → is_some (later_of (λ (t : ℕ). t) o (Some date)) ≡ true
  unfolding is_some
  seen_there o = rw (later_seen o date)

-- so a good direct half of either is good beside it
direct_own : (o p : Option ℕ) (d : Direct) → GoodDirect o d → GoodDirect (later_of (λ (t : ℕ). t) o p) d
unfolding later_of is_some
direct_own None p d g = let z : false ≡ true = g.was_seen in absurd (false≢true z)
direct_own (Some t) None d g = g
direct_own (Some t) (Some date) d g =
    record { key = g.key; was_seen = seen_there date (Some t); not_below = omega (arith, g.not_below, seen_own date (Some t)) }

direct_other : (o p : Option ℕ) (d : Direct) → GoodDirect p d → GoodDirect (later_of (λ (t : ℕ). t) o p) d
unfolding is_some or_else
direct_other o None d g = absurd (false≢true g.was_seen)
direct_other o (Some date) d g =
    record { key = g.key; was_seen = seen_there date o; not_below = omega (arith, g.not_below, seen_other date o) }

each_some : {A : Type 0} (P Q : A → Type 0) → ((x : A) → P x → Q x) → (o : Option A) → IfSome P o → IfSome Q o
each_some P Q f None g = tt
each_some P Q f (Some x) g = f x g

-- of the other entry all but its address is good
module _ (e other : Entry) (g : Good e) (h : Good (renamed e.address other)) where
  seen : IfSome (λ (t : ℕ). t ≤ time_limit) (later_of (λ (t : ℕ). t) e.last_seen other.last_seen)
  unfolding renamed
  seen = later_holds (λ (t : ℕ). t) (λ (t : ℕ). t ≤ time_limit) e.last_seen other.last_seen g.seen h.seen

  own : IfSome (GoodDirect (later_of (λ (t : ℕ). t) e.last_seen other.last_seen)) e.direct
  own =
      each_some (GoodDirect e.last_seen) (GoodDirect (later_of (λ (t : ℕ). t) e.last_seen other.last_seen))
      (direct_own e.last_seen other.last_seen) e.direct g.direct

  others : IfSome (GoodDirect (later_of (λ (t : ℕ). t) e.last_seen other.last_seen)) other.direct
  unfolding renamed
  others =
      each_some (GoodDirect other.last_seen) (GoodDirect (later_of (λ (t : ℕ). t) e.last_seen other.last_seen))
      (direct_other e.last_seen other.last_seen) other.direct h.direct

  gossip : IfSome GoodGossip (later_of (λ (x : Gossip). x.timestamp) e.gossip other.gossip)
  unfolding renamed
  gossip = later_holds (λ (x : Gossip). x.timestamp) GoodGossip e.gossip other.gossip g.gossip h.gossip

  pub good_with_seen : Good (with_seen other e)
  unfolding with_seen
  good_with_seen = record { canonical = g.canonical; octets = g.octets; seen = seen; direct = own; gossip = g.gossip }

  pub good_with_gossip : Good (with_later_gossip other e)
  unfolding with_later_gossip
  good_with_gossip = record { canonical = g.canonical; octets = g.octets; seen = g.seen; direct = g.direct; gossip = gossip }

  pub good_merged : Good (merged e other)
  unfolding merged
  good_merged =
      record {
        canonical = g.canonical;
        octets = g.octets;
        seen = seen;
        direct =
            later_holds (λ (d : Direct). d.timestamp) (GoodDirect (later_of (λ (t : ℕ). t) e.last_seen other.last_seen))
            e.direct other.direct own others;
        gossip = gossip;
      }
