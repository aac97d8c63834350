-- The gossip of a payload, put into the table field by field.
--     Spreads                      what is left to be put: the gossip from a place of the payload on
--     spread_begin .. spread_on    the loop's steps
-- Assumes nothing.
use Prim.Native.Nat.{ℕ, ◌-◌, ◌<◌, ◌≤◌}
use mathlib.Core.Path.{◌≡◌, sym, ap, ◌∙◌}
use mathlib.Core.Bool.{true}
use mathlib.Core.List.{List}
use Rattle.std.specs.Prelude.{Option, Some, None}
use native.Mathlib.Omega.{arith}
use native.Mathlib.Nat.{sub-zero}
use borrow.Author.Rules.{rules}
use lib.ListN.{length, take, drop}
use Rattle.octets.specs.Options.{is_some}
use Rattle.header.specs.Answers.{fields_from}
use Rattle.address.specs.Address.{is_canonical}
use Rattle.heads.specs.Head.{time_limit}
use Rattle.slots.specs.Slot.{key_limit}
use Rattle.table.specs.Tagged.{Open}
use Rattle.roll.specs.Roll.{unrolled}
use Rattle.update.specs.Update.{heard, put}
use Rattle.update.specs.Message.{Gossiped, heard_all}
use Rattle.fields.proofs.Values.{block_begin}
use Rattle.keys.specs.Answers.{gossip_from, gossip_of, HeardAt, HeardAs}
use Rattle.keys.specs.declared.Heard.{Heard}
use Rattle.keys.proofs.GossipFields.{gossip_all, heard_at, heard_less, heard_over}
use Rattle.delivery.specs.Sending.{Listens}
use Rattle.delivery.proofs.Fronts.{front_length}

pub record Spreads (limit date : ℕ) (recipients payload t₀ t tags : List ℕ) (at : ℕ) : Type 0 where
  pub so_far : heard_all date (gossip_of limit recipients payload) t₀ ≡ heard_all date (gossip_from limit (unrolled recipients) payload at) t
  pub opened : Open t tags
  pub most : limit ≤ key_limit
  pub in_range : date ≤ time_limit
  pub clear : is_some (fields_from payload at) ≡ true

pub spread_begin : (limit date : ℕ) (recipients listed places payload text t tags : List ℕ) → Listens t tags date payload limit recipients listed places text
    → Spreads limit date recipients payload t t tags 0
spread_begin limit date recipients listed places payload text t tags h =
    record {
      so_far = ap (λ (gs : List Gossiped). heard_all date gs t) (sym (gossip_all limit (unrolled recipients) payload h.reads.readably));
      opened = h.opened;
      most = h.most;
      in_range = h.in_range;
      clear = block_begin payload h.reads.readably;
    }

module _ (limit date : ℕ) (recipients payload t₀ t tags : List ℕ) (at : ℕ) (h : Spreads limit date recipients payload t₀ t tags at) where
  pub spread_open : Open t tags
  spread_open = h.opened

  pub spread_date : date ≤ time_limit
  spread_date = h.in_range

  pub spread_clear : is_some (fields_from payload at) ≡ true
  spread_clear = h.clear

  module _ (address key : List ℕ) (r : Option Heard) (p : HeardAs limit (unrolled recipients) payload at address key r) where
    pub spread_end : r ≡ None → t ≡ heard_all date (gossip_of limit recipients payload) t₀
    unfolding heard_all
    spread_end q = sym (h.so_far ∙ ap (λ (gs : List Gossiped). heard_all date gs t) (heard_over limit (unrolled recipients) payload at address key r p q))

    module _ (g : Heard) (q : r ≡ Some g) where
      one : HeardAt limit (unrolled recipients) payload at address key g
      one = heard_at limit (unrolled recipients) payload at address key r p g q

      pub spread_canonical : is_canonical (take (g.gossip.address - 0) (drop 0 address)) ≡ true
      spread_canonical = rw sub-zero one.canonical

      pub spread_address : g.gossip.address ≤ length address
      spread_address = one.address_within

      pub spread_key : g.gossip.key ≤ length key
      spread_key = one.opens.within

      pub spread_some : 1 ≤ length (take (g.gossip.key - 0) (drop 0 key))
      spread_some = omega (arith, front_length g.gossip.key key spread_key, one.opens.some_octet)

      pub spread_most : length (take (g.gossip.key - 0) (drop 0 key)) ≤ key_limit
      spread_most = omega (arith, front_length g.gossip.key key spread_key, one.opens.most, h.most)

      pub spread_less : length payload - g.end < length payload - at
      spread_less = heard_less limit (unrolled recipients) payload at address key r p g q

      pub spread_on :
          (u vs : List ℕ) → u ≡ put t (take (g.gossip.address - 0) (drop 0 address)) (heard date (take (g.gossip.key - 0) (drop 0 key))) → Open u vs
          → Spreads limit date recipients payload t₀ u vs g.end
      unfolding heard_all
      spread_on u vs w s =
          record {
            so_far =
                h.so_far
                ∙ ap (λ (gs : List Gossiped). heard_all date gs t) one.first
                ∙ rw (w, sub-zero g.gossip.address, sub-zero g.gossip.key);
            opened = s;
            most = h.most;
            in_range = h.in_range;
            clear = one.readable;
          }

pub ruleset spreading = (spread_begin, spread_clear, spread_address, spread_key, spread_less, spread_on, spread_end, rules)

pub ruleset hearing = (spread_open, spread_date, spread_canonical, spread_some, spread_most, rules)
