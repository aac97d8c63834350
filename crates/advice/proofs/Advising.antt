-- What is advised for one recipient, by what the table holds of its address.
--     advise_nothing, advise_at    each way through `advise`
--     advising                     what `advise` asks
-- Assumes nothing.
use Prim.Native.Nat.{ℕ}
use mathlib.Core.Path.{◌≡◌, sym, ap, ◌∙◌}
use mathlib.Core.Bool.{Bool, ◌&&◌}
use mathlib.Core.List.{List}
use Rattle.std.specs.Prelude.{Option, Some, None}
use borrow.Author.Rules.{rules}
use Rattle.address.specs.Address.{canonical}
use Rattle.heads.specs.declared.Head.{Head}
use Rattle.heads.specs.Entry.{Entry as Kept}
use Rattle.slots.specs.Entry.{entry_of}
use Rattle.table.specs.Table.{checked}
use Rattle.table.specs.declared.Checked.TheVariants.{Sound}
use Rattle.lookup.specs.Held.{held_of}
use Rattle.lookup.specs.declared.Held.{Held}
use Rattle.lookup.proofs.Holding.{Tells, held_not}
use Rattle.advice.specs.Advice.{direct_of, rated, raised, prefers_by, advice_for, advice_in}
use Rattle.advice.specs.Places.{rated_as}
use Rattle.advice.specs.declared.Advice.{Advice}
use Rattle.advice.specs.declared.Advice.TheVariants.{Disable}
use Rattle.advice.proofs.Rating.{rated_of, prefers_of}
use Rattle.advice.proofs.Locating.{located, located_time}

-- by what the entry says
by_entry : (x : Kept) (m reply prefers : Bool) (k r : Advice) → k ≡ rated x → prefers ≡ prefers_by (direct_of x) → r ≡ raised reply (m && prefers) k
    → r ≡ advice_for m reply (Some x)
unfolding advice_for
by_entry x m reply prefers k r p q h = h ∙ rw (p, q)

module _ (t a : List ℕ) (m reply : Bool) (h : Option Held) (p : h ≡ held_of t (canonical a)) where
  pub advise_nothing : h ≡ None → Disable ≡ advice_in t m reply a
  unfolding advice_in advice_for
  advise_nothing q = rw (advice_in, held_not t (canonical a) (sym p ∙ q))

  pub advise_at :
      checked t ≡ Sound → (e : Held) → h ≡ Some e → (k : Advice) → k ≡ rated_as e.numbers
      → (r : Advice) → r ≡ raised reply (m && e.numbers.«mutual») k → r ≡ advice_in t m reply a
  unfolding advice_in
  advise_at s e q k l r z =
      let x : Tells t (canonical a) e = located t a s h p e q in
      rw x.whose
      (by_entry (entry_of x.slot) m reply e.numbers.«mutual» k r (l ∙ ap rated_as x.numbers ∙ rated_of x.slot x.is_sound)
      (ap (λ (y : Head). y.«mutual») x.numbers ∙ prefers_of x.slot x.is_sound)
      z)

pub ruleset advising = (advise_nothing, advise_at, located_time, rules)
