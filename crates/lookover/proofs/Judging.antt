-- What is wrong with one field.
--     gossip_flawed                   `judge_gossip`: by what is asked of the value
--     own_elsewhere, own_other        no Autocrypt field that counts
--     field_own .. field_other        `judge`: an Autocrypt field that counts, a gossip field, and any other
--     the rulesets                    judging_own, judging_gossip and judging, for `judge_own`, `judge_gossip` and `judge`
-- Assumes nothing.
use Prim.Native.Nat.{ℕ, ◌-◌}
use mathlib.Core.Path.{◌≡◌, sym, ◌∙◌}
use mathlib.Core.Bool.{Bool, true, false, not, and-false}
use mathlib.Core.List.{List}
use borrow.Author.Rules.{rules}
use lib.ListN.{length, take, drop}
use Rattle.octets.specs.Written.{onto}
use Rattle.header.specs.Header.{unfolded}
use Rattle.header.proofs.Unfolding.{value_within, value_there_from}
use Rattle.fields.specs.Fields.{is_kind}
use Rattle.fields.specs.declared.Kind.TheVariants.{Autocrypt, AutocryptGossip}
use Rattle.asked.specs.Asked.{occurs, has_key_data}
use Rattle.asked.specs.declared.Called.TheVariants.{PreferEncrypt, Unknown}
use Rattle.faults.specs.Faults.{no_flaws}
use Rattle.faults.specs.declared.Flaws.{Flaws}
use Rattle.lookover.specs.Looking.{is_outer, lists, gossip_flaws, is_own, flaws_of, valid_in}
use Rattle.lookover.specs.Answers.{JudgedAs, FieldAs}
use Rattle.lookover.specs.declared.Side.{Side}
use Rattle.lookover.specs.declared.Judged.{Judged}
use Rattle.lookover.proofs.Validity.{judged_valid, judged_spoiled}

pub ruleset judging_own = (judged_valid, judged_spoiled, rules)

pub gossip_flawed :
    (side : Side) (recipients : List (List ℕ)) (v : List ℕ) (w : Flaws) (u k o l p : Bool) → w ≡ no_flaws
    → u ≡ occurs Unknown v → k ≡ has_key_data v → o ≡ is_outer side → l ≡ lists recipients v → p ≡ occurs PreferEncrypt v
    → record {
      more_valid = w.more_valid;
      wrong_address = w.wrong_address;
      unknown_attribute = u;
      key_data = not k;
      gossip_outside = o;
      gossip_unlisted = not l;
      gossip_preference = p;
    }
    ≡ gossip_flaws side recipients v
unfolding gossip_flaws no_flaws
gossip_flawed side recipients v w u k o l p z eu ek eo el ep = rw (z, eu, ek, eo, el, ep)

pub ruleset judging_gossip = (gossip_flawed, rules)

-- whether it is an Autocrypt field that counts, by the tests of the code
module _ (side : Side) (name raw : List ℕ) where
  pub own_elsewhere : (o : Bool) → o ≡ is_outer side → o ≡ false → is_own side (record { name = name; value = unfolded raw }) ≡ false
  unfolding is_own
  own_elsewhere o e f = rw (← e, f)

  pub own_other : (a : Bool) → a ≡ is_kind Autocrypt name → a ≡ false → is_own side (record { name = name; value = unfolded raw }) ≡ false
  unfolding is_own
  own_other a e f = rw (← e, f) (and-false (is_outer side))

-- by these
module _ (side : Side) (sender : List ℕ) (recipients : List (List ℕ)) (seen : Bool) (name raw : List ℕ) where
  -- the value was unfolded to the text
  module _ (n : ℕ) (text t₀ : List ℕ) (c : n ≡ length (unfolded raw)) (t : text ≡ onto (unfolded raw) t₀) where
    pub field_own :
        (o a : Bool) → o ≡ is_outer side → o ≡ true → a ≡ is_kind Autocrypt name → a ≡ true
        → (r : Judged) → JudgedAs sender seen (take (n - 0) (drop 0 text)) r → FieldAs side sender recipients seen name raw r
    unfolding flaws_of valid_in is_own
    field_own o a eo yo ea ya r j =
        let k : JudgedAs sender seen (unfolded raw) r = rw (value_there_from (unfolded raw) t₀ text n c t) at j in
        let y : is_own side (record { name = name; value = unfolded raw }) ≡ true = rw (← eo, ← ea, yo, ya) in
        record { flawed = rw y k.flawed; validly = rw y k.validly }

    pub field_gossip :
        is_own side (record { name = name; value = unfolded raw }) ≡ false
        → (g : Bool) → g ≡ true → g ≡ is_kind AutocryptGossip name
        → (w : Flaws) → w ≡ gossip_flaws side recipients (take (n - 0) (drop 0 text))
        → FieldAs side sender recipients seen name raw (record { flaws = w; valid = false })
    unfolding flaws_of valid_in
    field_gossip y g z u w e =
        record {
          flawed = rw (y, sym u ∙ z) (rw (value_there_from (unfolded raw) t₀ text n c t) at e);
          validly = rw y;
        }

  pub field_other :
      is_own side (record { name = name; value = unfolded raw }) ≡ false
      → (g : Bool) → g ≡ false → g ≡ is_kind AutocryptGossip name
      → (w : Flaws) → w ≡ no_flaws → FieldAs side sender recipients seen name raw (record { flaws = w; valid = false })
  unfolding flaws_of valid_in
  field_other y g z u w e = record { flawed = rw (y, sym u ∙ z) e; validly = rw y }

pub ruleset judging = (field_own, field_gossip, field_other, value_within, rules)
