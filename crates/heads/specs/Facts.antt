-- What sound parts of a head satisfy (SCOPE, T8), as facts: the tests of Head.antt, condition by condition.
--     SoundSeen, SoundDirect, SoundGossip    last seen, and the halves with keys of at most `limit` octets
use Rattle.std.specs.Prelude.{ℕ, ◌≤◌, ◌≡◌, true, false}
use Rattle.heads.specs.declared.Head.{Head}
use Rattle.heads.specs.Head.{time_limit}

-- T8.5: in range. T8.7: zero without its bit. T8.10: there beside a direct half.
pub record SoundSeen (n : Head) : Type 0 where
  pub in_range : n.last_seen ≤ time_limit
  pub absent : n.seen ≡ false → n.last_seen ≡ 0
  pub beside_key : n.direct ≡ true → n.seen ≡ true

-- T8.5, T8.6: in range. T8.10: not above last seen. T8.7: zero without its bit. T8.9: no preference without it.
pub record SoundDirect (limit : ℕ) (n : Head) : Type 0 where
  pub in_range : n.timestamp ≤ time_limit
  pub key_length : n.direct ≡ true → (1 ≤ n.direct_length) × (n.direct_length ≤ limit)
  pub not_above : n.direct ≡ true → n.timestamp ≤ n.last_seen
  pub absent : n.direct ≡ false → (n.timestamp ≡ 0) × (n.direct_length ≡ 0)
  pub no_mutual : n.direct ≡ false → n.«mutual» ≡ false

-- T8.5, T8.6: in range. T8.7: zero without its bit.
pub record SoundGossip (limit : ℕ) (n : Head) : Type 0 where
  pub in_range : n.gossip_timestamp ≤ time_limit
  pub key_length : n.gossip ≡ true → (1 ≤ n.gossip_length) × (n.gossip_length ≤ limit)
  pub absent : n.gossip ≡ false → (n.gossip_timestamp ≡ 0) × (n.gossip_length ≡ 0)
