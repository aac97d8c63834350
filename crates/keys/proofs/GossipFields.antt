-- The next accepted gossip: the walk over the gossip fields.
--     hear_accepts .. hear_found        the loop's steps
--     gossip_all                        all accepted gossip of a readable payload
--     heard_at, heard_less, heard_over  what a caller asks of the answer
-- Assumes nothing.
use Prim.Native.Nat.{ℕ, ◌-◌, ◌<◌}
use mathlib.Core.Path.{◌≡◌, ap}
use mathlib.Core.Bool.{true}
use mathlib.Core.List.{List, []}
use Rattle.std.specs.Prelude.{Option, Some, None}
use native.Mathlib.Omega.{arith}
use native.Mathlib.Nat.{sub-zero}
use borrow.Author.Rules.{rules}
use lib.ListN.{length, take, drop}
use Rattle.header.specs.Header.{readable}
use Rattle.fields.specs.Fields.{fields_in}
use Rattle.fields.specs.declared.Kind.TheVariants.{AutocryptGossip}
use Rattle.fields.proofs.Values.{values_all, values_end}
use Rattle.keyowner.specs.Owners.{accepted_for}
use Rattle.keyowner.specs.Answers.{Accepts, AcceptedAt, AcceptedAs}
use Rattle.keyowner.specs.declared.Accepted.{Accepted}
use Rattle.keyowner.proofs.Accepting.{accepted_at, accepted_nothing}
use Rattle.keys.specs.Keys.{accepted, gossip_in}
use Rattle.keys.specs.Answers.{Takes, TakenAs, gossip_from, Hears, HeardAt, HeardAs}
use Rattle.keys.specs.declared.Taken.{Taken}
use Rattle.keys.specs.declared.Taken.TheVariants.{Value, NoValue}
use Rattle.keys.specs.declared.Heard.{Heard}
use Rattle.keys.proofs.Walking.{Past, past_begin, past_takes, past_end, past_next, past_found, past_later, taken_within, taken_upto, taken_readable, taken_less}

-- what asking for a field asks for, in memory of the same length
pub hear_accepts :
    (limit : ℕ) (s : List ℕ) (at : ℕ) (roll tags places text address key : List ℕ) → Hears limit s at roll tags places text address key
    → (a o : List ℕ) → length a ≡ length address → length o ≡ length key → Accepts limit roll tags places a o
hear_accepts limit s at roll tags places text address key k a o l m =
    record {
      index = k.index;
      room_for_address = omega (arith, k.room_for_address);
      key_room = omega (arith, k.key_room);
    }

module _ (limit : ℕ) (recipients : List (List ℕ)) (s : List ℕ) (at : ℕ) where
  module _ (roll tags places text address key : List ℕ) (k : Hears limit s at roll tags places text address key) where
    pub hear_begin : Past (accepted_for limit recipients) AutocryptGossip s at at
    hear_begin = past_begin (accepted_for limit recipients) AutocryptGossip s at k.clear

    pub hear_takes :
        (place : ℕ) (t : List ℕ) → Past (accepted_for limit recipients) AutocryptGossip s at place → length t ≡ length text
        → Takes AutocryptGossip s place (length s) t
    hear_takes place t h l =
        past_takes (accepted_for limit recipients) AutocryptGossip s at place h (length s) t (values_end AutocryptGossip s) (omega (arith, k.room))

  module _ (place : ℕ) (text : List ℕ) (r : Taken) (h : Past (accepted_for limit recipients) AutocryptGossip s at place)
      (p : TakenAs AutocryptGossip s place text r) where
    pub hear_end : r ≡ NoValue → (address key : List ℕ) → HeardAs limit recipients s at address key None
    unfolding HeardAs gossip_from accepted
    hear_end q address key = past_end (accepted_for limit recipients) AutocryptGossip s at place h text r p q

    module _ (n e : ℕ) (q : r ≡ Value n e) (address key : List ℕ) (o : Option Accepted)
        (a : AcceptedAs limit (accepted_for limit recipients (take (n - 0) (drop 0 text))) address key o) where
      answered : AcceptedAs limit (accepted_for limit recipients (take n text)) address key o
      answered = rw sub-zero at a

      pub hear_next : o ≡ None → Past (accepted_for limit recipients) AutocryptGossip s at e
      hear_next y =
          past_next (accepted_for limit recipients) AutocryptGossip s at place h text r p n e q
          (accepted_nothing limit (accepted_for limit recipients (take n text)) address key o answered y)

      pub hear_found : (w : Accepted) → o ≡ Some w → HeardAs limit recipients s at address key (Some (record { gossip = w; end = e }))
      unfolding HeardAs gossip_from accepted
      hear_found w y =
          let g : AcceptedAt limit (accepted_for limit recipients (take n text)) address key w = accepted_at limit _ address key o answered w y in
          record {
            first =
                past_found (accepted_for limit recipients) AutocryptGossip s at place h text r p n e q
                (record { address = take w.address address; key = take w.key key })
                g.is;
            canonical = g.canonical;
            address_within = g.address_within;
            opens = g.opens;
            later = past_later (accepted_for limit recipients) AutocryptGossip s at place h text r p n e q;
            upto = taken_upto AutocryptGossip s place text r p n e q;
            readable = taken_readable AutocryptGossip s place text r p n e q;
          }

-- from the first line on it is all that the payload has
pub gossip_all :
    (limit : ℕ) (recipients : List (List ℕ)) (s : List ℕ) → readable s ≡ true → gossip_from limit recipients s 0 ≡ gossip_in limit recipients (fields_in s)
unfolding gossip_from gossip_in
gossip_all limit recipients s c = ap (accepted limit recipients) (values_all AutocryptGossip s c)

pub ruleset hearing = (hear_accepts, hear_begin, hear_takes, hear_end, hear_next, hear_found, taken_within, taken_less, rules)

-- as a caller asks it of an answer r
module _ (limit : ℕ) (recipients : List (List ℕ)) (s : List ℕ) (at : ℕ) (address key : List ℕ) (r : Option Heard) (p : HeardAs limit recipients s at address key r) where
  pub heard_at : (h : Heard) → r ≡ Some h → HeardAt limit recipients s at address key h
  unfolding HeardAs
  heard_at h q = rw q at p

  pub heard_less : (h : Heard) → r ≡ Some h → length s - h.end < length s - at
  heard_less h q = let a = heard_at h q in omega (arith, a.later, a.upto)

  pub heard_over : r ≡ None → gossip_from limit recipients s at ≡ []
  unfolding HeardAs
  heard_over q = rw q at p
