-- Whose address a value names: that of the sender, that of a recipient.
--     sole_address, sole_nobody        `names`: by the address, and without one (the ruleset naming)
--     listed_form .. listed_nobody     `is_listed`: by the address in canonical form, and without one (the ruleset listing)
-- Assumes nothing.
use Prim.Native.Nat.{ℕ, ◌-◌}
use mathlib.Core.Path.{◌≡◌, ap, ◌∙◌}
use mathlib.Core.Bool.{Bool, true, false}
use mathlib.Core.List.{List}
use Rattle.std.specs.Prelude.{Option, Some, None}
use borrow.Author.Rules.{rules}
use lib.ListN.{take, drop}
use Rattle.octets.specs.Octets.{same_octets}
use Rattle.address.specs.Address.{canonical, is_canonical}
use Rattle.address.specs.Answers.{Fronts}
use Rattle.address.proofs.Spelling.{plain_is_canonical}
use Rattle.address.proofs.Forming.{fronts_end, fronts_count}
use Rattle.addresslist.specs.List.{among}
use Rattle.attributes.specs.declared.Bounds.{Bounds}
use Rattle.asked.specs.Answers.{NamedAs}
use Rattle.asked.proofs.Addressed.{named_order, named_upto, named_plain, named_is, named_unseen}
use Rattle.lookover.specs.Looking.{is_just, names_only, is_one_of, lists}

module _ (s : List ℕ) (r : Option Bounds) (h : NamedAs s r) where
  -- the sender
  module _ (sender : List ℕ) where
    pub sole_address :
        (at : Bounds) → r ≡ Some at → (b : Bool) → b ≡ same_octets (canonical (take (at.to - at.from) (drop at.from s))) sender
        → b ≡ names_only sender s
    unfolding names_only is_just
    sole_address at q b e = rw (named_is s r h at q) e

    pub sole_nobody : r ≡ None → false ≡ names_only sender s
    unfolding names_only is_just
    sole_nobody q = rw (named_unseen s r h q)

  -- the recipients: the form is made at the front of a buffer
  module _ (at : Bounds) (q : r ≡ Some at) (form : List ℕ) (n : ℕ) (f : Fronts (canonical (take (at.to - at.from) (drop at.from s))) form n) where
    pub listed_form : is_canonical (take n form) ≡ true
    listed_form = rw f.there (plain_is_canonical (take (at.to - at.from) (drop at.from s)) (named_plain s r h at q))

    pub listed_address : (recipients : List (List ℕ)) (b : Bool) → b ≡ among (take n form) recipients → b ≡ lists recipients s
    unfolding lists is_one_of
    listed_address recipients b e = rw (named_is s r h at q) (e ∙ ap (λ (x : List ℕ). among x recipients) f.there)

  pub listed_nobody : (recipients : List (List ℕ)) → r ≡ None → false ≡ lists recipients s
  unfolding lists is_one_of
  listed_nobody recipients q = rw (named_unseen s r h q)

pub ruleset naming = (sole_address, sole_nobody, named_order, named_upto, rules)

pub ruleset listing = (listed_form, listed_address, listed_nobody, named_order, named_upto, named_plain, fronts_end, fronts_count, rules)
