-- What the message of a sender brings: its date and the field that counts.
--     block_short              a readable block is no longer than a block may be
--     own_in, own_direct       the field that counts: its key is in range, and it is the direct half
--     sent_canonical           the sender's address is canonical
--     brings_as                the whole
--     the ruleset              bringing, for `bring`
-- Assumes nothing.
use Prim.Native.Nat.{ℕ, ◌≤◌}
use mathlib.Core.Path.{◌≡◌, refl, sym, ◌∙◌}
use mathlib.Core.Bool.{true}
use mathlib.Core.List.{List}
use Rattle.std.specs.Prelude.{Option, Some, None}
use native.Mathlib.Omega.{arith}
use borrow.Author.Rules.{rules}
use lib.ListN.{length}
use Rattle.header.specs.Header.{readable, limit}
use Rattle.header.proofs.Fields.{clear_fits}
use Rattle.date.specs.Date.{effective_date}
use Rattle.fields.specs.Fields.{fields_in}
use Rattle.fields.specs.declared.Survey.{Survey}
use Rattle.address.specs.Address.{is_canonical}
use Rattle.keyfield.specs.Field.{Field}
use Rattle.slots.specs.Slot.{key_limit}
use Rattle.outer.specs.Outer.{said_date, date_in, recipients_in}
use Rattle.outer.proofs.Senders.{sender_canonical}
use Rattle.outer.proofs.Dates.{date_effective, date_in_range}
use Rattle.keyowner.specs.Answers.{OwnAs}
use Rattle.keyowner.specs.declared.OwnKey.{OwnKey}
use Rattle.keys.specs.Keys.{counted_in, gossip_in}
use Rattle.message.specs.Message.{direct_by, message_by}
use Rattle.message.specs.Lent.{Sent}
use Rattle.message.specs.Answers.{direct_from, mail_of, OwnIn, BringsAs}

pub block_short : (s : List ℕ) → readable s ≡ true → length s ≤ limit
block_short s h = clear_fits s true (sym h) refl

module _ (most : ℕ) (sender : List ℕ) (field : Option Field) (key : List ℕ) where
  pub own_in : most ≤ key_limit → (o : Option OwnKey) → OwnAs most sender field key o → OwnIn key o
  unfolding OwnAs OwnIn
  own_in l (Some r) h = record { some_octet = h.opens.some_octet; most = omega (arith, h.opens.most); within = h.opens.within }
  own_in l None h = tt

  pub own_direct : (date : ℕ) (o : Option OwnKey) → OwnAs most sender field key o → direct_from date key o ≡ direct_by date field
  unfolding OwnAs direct_from direct_by
  own_direct date (Some r) h = rw h.is
  own_direct date None h = rw h

module _ (most receipt : ℕ) (outer : List ℕ) (survey : Survey) (text sender old : List ℕ) (h : Sent most receipt outer survey text sender old) where
  pub sent_canonical : is_canonical sender ≡ true
  sent_canonical = sender_canonical (fields_in outer) sender h.sent

  module _ (r : Option ℕ) (said : r ≡ said_date (fields_in outer)) (date : ℕ) (e : date ≡ effective_date r receipt)
      (key : List ℕ) (own : Option OwnKey) (o : OwnAs most sender (counted_in most (fields_in outer) sender) key own) where
    dated : date ≡ date_in (fields_in outer) receipt
    dated = e ∙ date_effective (fields_in outer) receipt r said

    direct : direct_from date key own ≡ direct_by (date_in (fields_in outer) receipt) (counted_in most (fields_in outer) sender)
    direct = own_direct most sender (counted_in most (fields_in outer) sender) key date own o ∙ rw dated

    pub brings_as : BringsAs most receipt outer sender key (record { sender = length sender; date = date; own = own })
    unfolding mail_of message_by
    brings_as =
        record {
          long = refl;
          ready =
              record {
                canonical = sent_canonical;
                in_range = rw dated (date_in_range (fields_in outer) receipt h.in_time);
                own = own_in most sender (counted_in most (fields_in outer) sender) key h.key_most own o;
              };
          is = λ fs. λ i. record {
            sender = sender;
            date = dated i;
            direct = direct i;
            gossip = gossip_in most (recipients_in (fields_in outer)) fs;
          };
        }

pub ruleset bringing = (sent_canonical, brings_as, rules)
