-- Where the key to encrypt to lies, and that it is the entry's.
--     key_direct .. key_none        where the key of an entry lies, by its numbers
--     target_nothing, target_there  each way through `target`
--     handed_rest .. handed_unread      an address that is handed out of a readable list stands in front of the rest, which is readable
--     Reaches t s place left here   what the loop of `target_at` knows
--     reaches_begin .. reaches_unread     its steps
--     the rulesets                  targeting, for `target`; reaching, for `target_at`
-- Assumes nothing.
use Prim.Native.Nat.{ℕ, suc, ◌+◌, ◌-◌}
use mathlib.Core.Path.{◌≡◌, sym, ap, ◌∙◌}
use mathlib.Core.Bool.{true, false}
use mathlib.Core.List.{List, [], ◌∷◌}
use native.Mathlib.Omega.{arith}
use native.Mathlib.Numerals.{add-one}
use borrow.Author.Rules.{rules}
use Rattle.std.specs.Prelude.{Option, Some, None}
use Rattle.octets.specs.Options.{or_else, is_some}
use Rattle.octets.proofs.Options.{some_front, else_front}
use Rattle.address.specs.Address.{canonical}
use Rattle.heads.specs.declared.Head.{Head}
use Rattle.addresslist.specs.List.{addresses}
use Rattle.addresslist.specs.Answers.{between, beginning, left, Hands}
use Rattle.addresslist.specs.declared.ListCursor.{ListCursor}
use Rattle.addresslist.specs.declared.NextAddress.{NextAddress}
use Rattle.addresslist.specs.declared.NextAddress.TheVariants.{Address, End, Unreadable}
use Rattle.addresslist.proofs.Handing.{left_beginning, hand_gives, hand_plain, hand_from, hand_upto, hand_less, hand_end, hand_unread}
use Rattle.lookup.specs.Held.{held_of}
use Rattle.lookup.specs.declared.Held.{Held}
use Rattle.advice.specs.Places.{no_part, key_part, part_in, target_part, target_at}
use Rattle.advice.specs.declared.Part.{Part}

module _ (n : Head) (direct gossip : ℕ) where
  pub key_direct : n.direct ≡ true → ◌≡◌ {A = Part} (record { start = direct; length = n.direct_length }) (key_part n direct gossip)
  unfolding key_part
  key_direct d = rw (key_part, d)

  module _ (d : n.direct ≡ false) where
    pub key_gossip : n.gossip ≡ true → ◌≡◌ {A = Part} (record { start = gossip; length = n.gossip_length }) (key_part n direct gossip)
    unfolding key_part
    key_gossip g = rw (key_part, d, g)

    pub key_none : n.gossip ≡ false → no_part ≡ key_part n direct gossip
    unfolding key_part
    key_none g = rw (key_part, d, g)

module _ (t a : List ℕ) (h : Option Held) (p : h ≡ held_of t (canonical a)) where
  pub target_nothing : h ≡ None → no_part ≡ target_part t a
  unfolding target_part part_in
  target_nothing q = rw (target_part, sym p ∙ q)

  pub target_there : (e : Held) → h ≡ Some e → (r : Part) → r ≡ key_part e.numbers e.direct e.gossip → r ≡ target_part t a
  unfolding target_part part_in
  target_there e q r k = rw (target_part, sym p ∙ q) k

pub ruleset targeting = (target_nothing, target_there, rules)

module _ (s : List ℕ) (here : ListCursor) (k : NextAddress) (p : Hands s here k) where
  module _ (r : is_some (left s here) ≡ true) (from to : ℕ) (next : ListCursor) (q : k ≡ Address from to next) where
    handed_rest : is_some (left s next) ≡ true
    handed_rest = sym (some_front (between s from to) (left s next)) ∙ rw (hand_gives s here k p from to next q) at r

    handed_given : or_else [] (left s here) ≡ between s from to ∷ or_else [] (left s next)
    handed_given =
        ap (or_else []) (hand_gives s here k p from to next q)
        ∙ else_front (between s from to) (left s next) handed_rest

  handed_end : k ≡ End → or_else [] (left s here) ≡ []
  unfolding or_else
  handed_end q = rw (hand_end s here k p q)

  handed_unread : k ≡ Unreadable → or_else [] (left s here) ≡ []
  unfolding or_else
  handed_unread q = rw (hand_unread s here k p q)

-- The loop: the place in the whole list is the place that is left in the rest of it.
pub record Reaches (t s : List ℕ) (place rest : ℕ) (here : ListCursor) : Type 0 where
  pub readable : is_some (left s here) ≡ true
  pub so_far : target_at t (or_else [] (addresses s)) place ≡ target_at t (or_else [] (left s here)) rest

module _ (t s : List ℕ) (place : ℕ) where
  pub reaches_begin : (here : ListCursor) → here ≡ beginning → is_some (addresses s) ≡ true → Reaches t s place place here
  reaches_begin here e g =
      let b : left s here ≡ addresses s = left_beginning s here e in
      record { readable = rw b g; so_far = rw b }

  module _ (rest : ℕ) (here : ListCursor) (k : NextAddress) (h : Reaches t s place rest here) (p : Hands s here k) where
    module _ (from to : ℕ) (next : ListCursor) (q : k ≡ Address from to next) where
      pub reaches_here : rest ≡ 0 → (r : Part) → r ≡ target_part t (between s from to) → r ≡ target_at t (or_else [] (addresses s)) place
      unfolding target_at
      reaches_here z r e =
          e ∙ sym (h.so_far ∙ rw (handed_given s here k p h.readable from to next q, z))

      pub reaches_on : (rest ≡ 0 → ⊥) → Reaches t s place (rest - 1) next
      unfolding target_at
      reaches_on z =
          let b : rest ≡ suc (rest - 1) = (let c : rest ≡ rest - 1 + 1 = omega arith in c ∙ add-one (rest - 1)) in
          record {
            readable = handed_rest s here k p h.readable from to next q;
            so_far =
                h.so_far
                ∙ ap (target_at t (or_else [] (left s here))) b
                ∙ rw (handed_given s here k p h.readable from to next q);
          }

    pub reaches_end : k ≡ End → no_part ≡ target_at t (or_else [] (addresses s)) place
    unfolding target_at
    reaches_end q = sym (h.so_far ∙ rw (handed_end s here k p q))

    pub reaches_unread : k ≡ Unreadable → no_part ≡ target_at t (or_else [] (addresses s)) place
    unfolding target_at
    reaches_unread q = sym (h.so_far ∙ rw (handed_unread s here k p q))

pub ruleset reaching = (reaches_begin, reaches_here, reaches_on, hand_plain, hand_from, hand_upto, hand_less, reaches_end, reaches_unread, rules)
