-- The parts of a line, one behind the other.
--     direct_parts .. numbers_parts     a part is its columns
--     direct_time .. numbers_gossip     room for each
--     the rulesets                      directing, gossiping and numbering, for `put_direct`, `put_gossip` and `put_numbers`
-- Assumes nothing.
use Prim.Native.Nat.{ℕ}
use mathlib.Core.Path.{◌≡◌}
use mathlib.Core.List.{List, ◌++◌}
use borrow.Author.Rules.{rules}
use Rattle.std.specs.Prelude.{Option}
use Rattle.heads.specs.declared.Head.{Head}
use Rattle.heads.specs.Entry.{present}
use Rattle.columns.specs.Columns.{decimal, time_text, preference_text, ended}
use Rattle.columns.specs.Putting.{Room, Put}
use Rattle.columns.proofs.Placing.{room_one, room_two, two_put, room_next, room_last, three_put}
use Rattle.printout.specs.Parts.{direct_part, gossip_part, numbers_part}

-- the parts of a line, as they are written; o is the time
module _ (n : Head) (o : Option ℕ) where
  pub direct_parts : o ≡ present n.direct n.timestamp
      → direct_part n ≡ ended (time_text o) 32 ++ (ended (decimal n.direct_length) 32 ++ ended (preference_text n.«mutual») 32)
  unfolding direct_part
  direct_parts e = rw e

  pub gossip_parts : o ≡ present n.gossip n.gossip_timestamp → gossip_part n ≡ ended (time_text o) 32 ++ ended (decimal n.gossip_length) 10
  unfolding gossip_part
  gossip_parts e = rw e

  pub numbers_parts : o ≡ present n.seen n.last_seen → numbers_part n ≡ ended (time_text o) 32 ++ (direct_part n ++ gossip_part n)
  unfolding numbers_part
  numbers_parts e = rw e

-- room for each part
module _ (n : Head) (d : List ℕ) (at : ℕ) (r : Room d at (direct_part n)) (o : Option ℕ) (e : o ≡ present n.direct n.timestamp) where
  pub direct_time : Room d at (ended (time_text o) 32)
  direct_time = room_one _ _ _ d at r (direct_parts n o e)

  module _ (d₁ : List ℕ) (o₁ : ℕ) (p₁ : Put d d₁ at (ended (time_text o) 32) o₁) where
    pub direct_number : Room d₁ o₁ (ended (decimal n.direct_length) 32)
    direct_number = room_next _ _ _ _ d at r (direct_parts n o e) d₁ o₁ p₁

    pub direct_preference : (d₂ : List ℕ) (o₂ : ℕ) → Put d₁ d₂ o₁ (ended (decimal n.direct_length) 32) o₂ → Room d₂ o₂ (ended (preference_text n.«mutual») 32)
    direct_preference d₂ o₂ p₂ = room_last _ _ _ _ d at r (direct_parts n o e) d₁ o₁ p₁ d₂ o₂ p₂

module _ (n : Head) (d : List ℕ) (at : ℕ) (r : Room d at (gossip_part n)) (o : Option ℕ) (e : o ≡ present n.gossip n.gossip_timestamp) where
  pub gossip_time : Room d at (ended (time_text o) 32)
  gossip_time = room_one _ _ _ d at r (gossip_parts n o e)

  pub gossip_number : (d₁ : List ℕ) (o₁ : ℕ) → Put d d₁ at (ended (time_text o) 32) o₁ → Room d₁ o₁ (ended (decimal n.gossip_length) 10)
  gossip_number d₁ o₁ p₁ = room_two _ _ _ d at r (gossip_parts n o e) d₁ o₁ p₁

module _ (n : Head) (d : List ℕ) (at : ℕ) (r : Room d at (numbers_part n)) (o : Option ℕ) (e : o ≡ present n.seen n.last_seen) where
  pub numbers_time : Room d at (ended (time_text o) 32)
  numbers_time = room_one _ _ _ d at r (numbers_parts n o e)

  module _ (d₁ : List ℕ) (o₁ : ℕ) (p₁ : Put d d₁ at (ended (time_text o) 32) o₁) where
    pub numbers_direct : Room d₁ o₁ (direct_part n)
    numbers_direct = room_next _ _ _ _ d at r (numbers_parts n o e) d₁ o₁ p₁

    pub numbers_gossip : (d₂ : List ℕ) (o₂ : ℕ) → Put d₁ d₂ o₁ (direct_part n) o₂ → Room d₂ o₂ (gossip_part n)
    numbers_gossip d₂ o₂ p₂ = room_last _ _ _ _ d at r (numbers_parts n o e) d₁ o₁ p₁ d₂ o₂ p₂

pub ruleset directing = (direct_parts, direct_time, direct_number, direct_preference, three_put, rules)

pub ruleset gossiping = (gossip_parts, gossip_time, gossip_number, two_put, rules)

pub ruleset numbering = (numbers_parts, numbers_time, numbers_direct, numbers_gossip, three_put, rules)
