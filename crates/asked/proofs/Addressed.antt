-- The address that a value names.
--     one_none .. one_other            the answer of `named_at`
--     named_order .. named_unseen      what a caller asks of it
--     the ruleset                      addressing, for `named_at`
-- Assumes nothing.
use Prim.Native.Nat.{ℕ, ◌-◌, ◌≤◌}
use mathlib.Core.Path.{◌≡◌, sym, ◌∙◌}
use mathlib.Core.Bool.{Bool, true, false}
use mathlib.Core.List.{List}
use Rattle.std.specs.Prelude.{Option, Some, None}
use borrow.Author.Rules.{rules}
use lib.ListN.{length, take, drop}
use Rattle.octets.specs.Options.{only_one}
use Rattle.address.specs.Address.{plain, canonical}
use Rattle.attributes.specs.Answers.{part}
use Rattle.attributes.specs.declared.Bounds.{Bounds}
use Rattle.asked.specs.Asked.{is_empty, saying, named_by, named}
use Rattle.asked.specs.Answers.{rest_from, FoundAs, NamedAt, NamedAs}
use Rattle.asked.specs.declared.Called.TheVariants.{Addr}
use Rattle.asked.specs.declared.Found.{Found}
use Rattle.asked.proofs.Finding.{found_order, found_upto, found_end}
use Rattle.asked.proofs.Single.{only_none, only_more, only_one_lem}

-- no `addr`, or more than one
named_nothing : (s : List ℕ) → only_one (saying Addr s) ≡ None → NamedAs s None
unfolding NamedAs named named_by
named_nothing s e = rw e

module _ (s : List ℕ) (k : Option Found) (p : FoundAs Addr s 0 k) where
  pub one_none : k ≡ None → NamedAs s None
  one_none q = named_nothing s (only_none Addr s k p q)

  module _ (f : Found) (q : k ≡ Some f) (l : Bool) (e : l ≡ is_empty (rest_from Addr s f.end)) where
    pub one_more : l ≡ false → NamedAs s None
    one_more n = named_nothing s (only_more Addr s k p f q (sym e ∙ n))

    module _ (n : l ≡ true) (b : Bool) (u : b ≡ plain (take (f.value.to - f.value.from) (drop f.value.from s))) where
      alone : only_one (saying Addr s) ≡ Some (part s f.value.from f.value.to)
      alone = only_one_lem Addr s k p f q (sym e ∙ n)

      pub one_plain : b ≡ true → NamedAs s (Some f.value)
      unfolding NamedAs named named_by part
      one_plain y =
          record {
            is = rw (alone, sym u ∙ y);
            stands = record {
              order = found_order Addr s 0 k p f q;
              upto = found_upto Addr s 0 k p f q;
              plainly = sym u ∙ y;
            };
          }

      pub one_other : b ≡ false → NamedAs s None
      unfolding NamedAs named named_by part
      one_other y = rw (alone, sym u ∙ y)

pub ruleset addressing = (one_none, one_more, one_plain, one_other, found_order, found_upto, found_end, rules)

-- `named_at`'s answer, read
module _ (s : List ℕ) (r : Option Bounds) (h : NamedAs s r) where
  module _ (at : Bounds) (e : r ≡ Some at) where
    there : NamedAt s at.from at.to
    unfolding NamedAs
    there = rw e at h

    pub named_order : at.from ≤ at.to
    named_order = there.stands.order

    pub named_upto : at.to ≤ length s
    named_upto = there.stands.upto

    pub named_plain : plain (take (at.to - at.from) (drop at.from s)) ≡ true
    unfolding part
    named_plain = there.stands.plainly

    pub named_is : named s ≡ Some (canonical (take (at.to - at.from) (drop at.from s)))
    unfolding part
    named_is = there.is

  pub named_unseen : r ≡ None → named s ≡ None
  unfolding NamedAs
  named_unseen e = rw e at h
