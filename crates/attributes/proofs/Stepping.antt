-- What a piece comes to, behind what was read before it.
--     address_taken, address_bad, address_twice     the address
--     preference_taken, preference_twice            the preference
--     within_addr .. step_spoiling                  a piece, from what it says
-- Assumes nothing.
use Prim.Native.Nat.{ℕ, ◌-◌}
use Rattle.std.specs.Prelude.{Option, Some, None}
use Rattle.std.specs.Option.{is_some}
use mathlib.Core.Path.{◌≡◌, sym, ◌∙◌}
use mathlib.Core.Bool.{Bool, true, false}
use mathlib.Core.List.{List}
use borrow.Author.Rules.{rules}
use lib.ListN.{take, drop}
use Rattle.std.proofs.lemmas.Bool.{false≢true}
use Rattle.octets.proofs.Options.{by_option}
use Rattle.octets.specs.Octets.{ascii, same_octets}
use Rattle.address.specs.Address.{plain}
use Rattle.attributes.specs.Attribute.{attribute_of}
use Rattle.attributes.specs.Step.{with_address, with_preference, step}
use Rattle.attributes.specs.Answers.{part, Within, attribute_at, ValueWithin, Tells}
use Rattle.attributes.specs.Steps.{address_at, Stands, step_at, NextWithin, Steps}
use Rattle.attributes.specs.declared.Attribute.{Attribute as Told}
use Rattle.attributes.specs.declared.Attribute.TheVariants.{Addr, PreferEncrypt, Keydata, Ignored, Spoiling}
use Rattle.attributes.specs.declared.Bounds.{Bounds}
use Rattle.attributes.specs.declared.NextPiece.{NextPiece}
use Rattle.attributes.specs.declared.NextPiece.TheVariants.{On, Last, Spoils}

module _ (s : List ℕ) (at : Bounds) (address : Option Bounds) (preference : Option Bool) where
  module _ (w : Within s at.from at.to) (b : Bool) where
    module _ (seen : Bool) (i : seen ≡ is_some address) (u : seen ≡ false) (e : b ≡ plain (take (at.to - at.from) (drop at.from s))) where
      unseen : address ≡ None
      unseen = by_option address (λ n. n) (λ a k. absurd (false≢true (sym u ∙ i ∙ rw k)))

      pub address_taken : b ≡ true → Steps s (On (Some at) preference) (with_address (address_at s address) preference (part s at.from at.to))
      unfolding address_at with_address step_at NextWithin Stands part
      address_taken t =
          record {
            is = rw (unseen, sym e ∙ t);
            within = record { order = w.order; upto = w.upto; plainly = sym e ∙ t };
          }

      pub address_bad : b ≡ false → Steps s Spoils (with_address (address_at s address) preference (part s at.from at.to))
      unfolding address_at with_address step_at NextWithin part
      address_bad f = record { is = rw (unseen, sym e ∙ f); within = tt }

    pub preference_taken :
        preference ≡ None → b ≡ same_octets (take (at.to - at.from) (drop at.from s)) (ascii "mutual") → Stands s address
        → Steps s (On address (Some b)) (with_preference (address_at s address) preference (part s at.from at.to))
    unfolding with_preference step_at NextWithin part
    preference_taken u e h = record { is = rw (u, e); within = h }

  pub address_twice : (seen : Bool) → seen ≡ is_some address → seen ≡ true → Steps s Spoils (with_address (address_at s address) preference (part s at.from at.to))
  unfolding address_at with_address step_at NextWithin
  address_twice seen i u = by_option address (λ n. absurd (false≢true (sym (rw n at i) ∙ u))) (λ a k. record { is = rw k; within = tt })

  pub preference_twice : (m : Bool) → preference ≡ Some m → Steps s Spoils (with_preference (address_at s address) preference (part s at.from at.to))
  unfolding with_preference step_at NextWithin
  preference_twice m u = record { is = rw u; within = tt }

module _ (s : List ℕ) (from to : ℕ) (address : Option Bounds) (preference : Option Bool) where
  module _ (g : Told) (t : Tells s g (attribute_of (part s from to))) where
    module _ (v : Bounds) where
      pub within_addr : g ≡ Addr v → Within s v.from v.to
      unfolding ValueWithin
      within_addr k = rw k at t.within

      pub within_prefer : g ≡ PreferEncrypt v → Within s v.from v.to
      unfolding ValueWithin
      within_prefer k = rw k at t.within

      pub step_addr :
          (n : NextPiece) → g ≡ Addr v → Steps s n (with_address (address_at s address) preference (part s v.from v.to))
          → Steps s n (step (address_at s address) preference (attribute_of (part s from to)))
      unfolding step attribute_at
      step_addr n k h = record { is = h.is ∙ rw (← t.is, k); within = h.within }

      pub step_prefer :
          (n : NextPiece) → g ≡ PreferEncrypt v → Steps s n (with_preference (address_at s address) preference (part s v.from v.to))
          → Steps s n (step (address_at s address) preference (attribute_of (part s from to)))
      unfolding step attribute_at
      step_prefer n k h = record { is = h.is ∙ rw (← t.is, k); within = h.within }

      pub step_keydata : g ≡ Keydata v → Steps s (Last v) (step (address_at s address) preference (attribute_of (part s from to)))
      unfolding step attribute_at step_at NextWithin ValueWithin
      step_keydata k = record { is = rw (← t.is, k); within = rw k at t.within }

    pub step_ignored :
        g ≡ Ignored → Stands s address
        → Steps s (On address preference) (step (address_at s address) preference (attribute_of (part s from to)))
    unfolding step attribute_at step_at NextWithin
    step_ignored k h = record { is = rw (← t.is, k); within = h }

    pub step_spoiling : g ≡ Spoiling → Steps s Spoils (step (address_at s address) preference (attribute_of (part s from to)))
    unfolding step attribute_at step_at NextWithin
    step_spoiling k = record { is = rw (← t.is, k); within = tt }

pub ruleset addressing = (address_taken, address_bad, address_twice, rules)

pub ruleset preferring = (preference_taken, preference_twice, rules)

pub ruleset stepping = (within_addr, within_prefer, step_addr, step_prefer, step_keydata, step_ignored, step_spoiling, rules)
