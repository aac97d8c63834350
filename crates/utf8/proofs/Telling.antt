-- Whether a text is well formed: one octet, and what a loop knows that reads octet by octet.
--     follow_bad .. follow_on     what an octet says of what has to follow it
--     Told s next i               what is left from i on has to be well formed, where so much has to follow
--     told_begin .. told_end      the loop's steps
--     the rulesets                following and telling
-- Assumes nothing.
use Prim.Native.Nat.{ℕ, suc, zero, ◌+◌, ◌-◌, ◌*◌, ◌<◌, ◌≤◌}
use mathlib.Core.Path.{◌≡◌, refl, sym, ap, ◌∙◌}
use mathlib.Core.Bool.{false, ◌&&◌}
use mathlib.Core.List.{List, [], ◌∷◌}
use native.Mathlib.Omega.{arith}
use borrow.Author.Rules.{rules}
use borrow.Author.Tests.{le-leb, lt-leb, ne_eqb}
use lib.Dec.{leb, eqb}
use lib.ListN.{length, get_or, drop}
use Rattle.octets.specs.Options.{is_some}
use Rattle.octets.proofs.Lists.{drop_one, drop_done}
use Rattle.octets.proofs.Tests.{by_test}
use Rattle.octets.proofs.Options.{some_front}
use Rattle.std.specs.Prelude.{Option, Some, None}
use Rattle.utf8.specs.Utf8.{between, lead_of, tails, well_formed}
use Rattle.utf8.specs.Steps.{formed_from, formed_after, Follows}
use Rattle.utf8.specs.declared.Lead.{Lead}
use Rattle.utf8.specs.declared.Next.{Next}
use Rattle.utf8.proofs.Lowering.{formed_front}

-- `formed_from` is the reader without its numbers
formed_tails : (s : List ℕ) (n l h p : ℕ) → is_some (tails s n l h p) ≡ formed_from n l h s
unfolding tails formed_from is_some
formed_tails [] zero l h p = refl
formed_tails [] (suc n) l h p = refl
formed_tails (x ∷ s) (suc n) l h p =
    by_test (leb l x && leb x h) (λ e. rw (tails, e) (formed_tails s n 0x80 0xBF (p * 64 + (x - 0x80)))) (λ e. rw (tails, e))
formed_tails (x ∷ s) zero l h p = go (λ m l h q. formed_tails s m l h q) (lead_of x) refl
  where
    go : ((m l h q : ℕ) → is_some (tails s m l h q) ≡ formed_from m l h s) → (o : Option Lead) → lead_of x ≡ o
        → is_some (tails (x ∷ s) 0 l h p) ≡ formed_from 0 l h (x ∷ s)
    go later None e = rw (tails, formed_from, e)
    go later (Some f) e = rw (tails, formed_from, e) (some_front p (tails s f.following f.low f.high f.bits) ∙ later f.following f.low f.high f.bits)

module _ (x : ℕ) (next : Next) where
  module _ (z : next.missing ≡ 0) (g : Option Lead) (e : g ≡ lead_of x) where
    pub follow_bad : g ≡ None → Follows x next None
    unfolding formed_from
    follow_bad b = record { is = λ rest. rw (z, formed_from, sym e ∙ b) }

    pub follow_lead : (f : Lead) → g ≡ Some f → Follows x next (Some (record { missing = f.following; low = f.low; high = f.high }))
    unfolding formed_from
    follow_lead f b = record { is = λ rest. rw (z, formed_from, sym e ∙ b) }

  module _ (z : next.missing ≡ 0 → ⊥) where
    one_less : suc (next.missing - 1) ≡ next.missing
    one_less = omega arith

    stepped : (rest : List ℕ) → formed_from next.missing next.low next.high (x ∷ rest) ≡ (between next.low next.high x && formed_from (next.missing - 1) 0x80 0xBF rest)
    unfolding formed_from
    stepped rest = ap (λ n. formed_from n next.low next.high (x ∷ rest)) (sym one_less)

    pub follow_low : x < next.low → Follows x next None
    follow_low l = record { is = λ rest. stepped rest ∙ rw (lt-leb next.low x l) }

    module _ (l : next.low ≤ x) where
      pub follow_high : next.high < x → Follows x next None
      follow_high k = record { is = λ rest. stepped rest ∙ rw (le-leb next.low x l, lt-leb x next.high k) }

      pub follow_on : x ≤ next.high → Follows x next (Some (record { missing = next.missing - 1; low = 0x80; high = 0xBF }))
      follow_on k = record { is = λ rest. stepped rest ∙ rw (le-leb next.low x l, le-leb x next.high k) }

pub ruleset following = (follow_bad, follow_lead, follow_low, follow_high, follow_on, rules)

pub record Told (s : List ℕ) (next : Next) (i : ℕ) : Type 0 where
  pub so_far : well_formed s ≡ formed_from next.missing next.low next.high (drop i s)

pub told_begin : (s : List ℕ) → Told s (record { missing = 0; low = 0; high = 0 }) 0
told_begin s = record { so_far = sym (formed_front s) ∙ formed_tails s 0 0 0 0 }

module _ (s : List ℕ) (next : Next) (i : ℕ) (h : Told s next i) where
  module _ (l : i < length s) (r : Option Next) where
    here : Follows (get_or s i 0) next r → well_formed s ≡ formed_after r (drop (i + 1) s)
    here f = h.so_far ∙ rw (drop_one s i l) (f.is (drop (i + 1) s))

    pub told_next : (after : Next) → r ≡ Some after → Follows (get_or s i 0) next r → Told s after (i + 1)
    told_next after q f = record { so_far = here f ∙ rw q }

    pub told_never : r ≡ None → Follows (get_or s i 0) next r → false ≡ well_formed s
    told_never q f = sym (here f ∙ rw q)

  pub told_end : length s ≤ i → eqb next.missing 0 ≡ well_formed s
  unfolding formed_from
  told_end l = ends next.missing (h.so_far ∙ rw (drop_done s i l))
    where
      ends : (n : ℕ) → well_formed s ≡ formed_from n next.low next.high [] → eqb n 0 ≡ well_formed s
      ends zero e = sym e
      ends (suc n) e = ne_eqb (suc n) 0 (omega arith) ∙ sym e

pub ruleset telling = (told_begin, told_next, told_never, told_end, rules)
