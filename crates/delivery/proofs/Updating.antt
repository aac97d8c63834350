-- The sender's entry, updated by what the message brings (U6, U7, U8, U9).
--     key_within, key_some, key_most     its key, where there is one
--     updated_keyed, updated_keyless     the table afterwards
--     the ruleset                        updating, for `update_sender`
-- Assumes nothing.
use Prim.Native.Nat.{ℕ, ◌-◌, ◌≤◌}
use mathlib.Core.Path.{◌≡◌}
use mathlib.Core.List.{List}
use Rattle.std.specs.Prelude.{Option, Some, None}
use native.Mathlib.Omega.{arith}
use native.Mathlib.Nat.{sub-zero}
use borrow.Author.Rules.{rules}
use lib.ListN.{length, take, drop}
use Rattle.slots.specs.Slot.{key_limit}
use Rattle.update.specs.Update.{updated, put}
use Rattle.keyowner.specs.declared.OwnKey.{OwnKey}
use Rattle.message.specs.Answers.{direct_from, KeyIn, OwnIn}
use Rattle.delivery.proofs.Fronts.{front_length}

module _ (key : List ℕ) (r : Option OwnKey) (k : OwnKey) (q : r ≡ Some k) where
  module _ (p : OwnIn key r) where
    key_in : KeyIn key k.length
    unfolding OwnIn
    key_in = rw q at p

    pub key_within : k.length ≤ length key
    key_within = key_in.within

    pub key_some : 1 ≤ length (take (k.length - 0) (drop 0 key))
    key_some = omega (arith, front_length k.length key key_within, key_in.some_octet)

    pub key_most : length (take (k.length - 0) (drop 0 key)) ≤ key_limit
    key_most = omega (arith, front_length k.length key key_within, key_in.most)

  pub updated_keyed :
      (sender t u : List ℕ) (date : ℕ) → u ≡ put t sender (updated date (Some (record { timestamp = date; key = take (k.length - 0) (drop 0 key); «mutual» = k.«mutual» })))
      → u ≡ put t sender (updated date (direct_from date key r))
  unfolding direct_from
  updated_keyed sender t u date w = rw q (rw sub-zero at w)

pub updated_keyless :
    (key : List ℕ) (r : Option OwnKey) → r ≡ None → (sender t u : List ℕ) (date : ℕ) → u ≡ put t sender (updated date None)
    → u ≡ put t sender (updated date (direct_from date key r))
unfolding direct_from
updated_keyless key r q sender t u date w = rw q w

pub ruleset updating = (key_within, key_some, key_most, updated_keyed, updated_keyless, rules)
