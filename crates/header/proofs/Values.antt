-- What the values of a block's fields are: octets, and no longer than the block.
--     by_fields        what holds at the end of a block, and in front of what it holds of, holds from each place on
--     ValuesOctets     each of several fields has a value of octets
--     values_total     how long their values are, each with one octet more
--     block_octets, total_block    what the two come to for the fields of a block
-- Assumes nothing.
use Prim.Native.Nat.{ℕ, zero, suc, ◌+◌, ◌-◌, ◌<◌, ◌≤◌, zero-le}
use mathlib.Core.Path.{◌≡◌, refl, sym, ◌∙◌}
use mathlib.Core.Logic.{⊎_elim}
use mathlib.Core.Bool.{Bool, true, false}
use mathlib.Core.List.{List, [], ◌∷◌}
use Rattle.std.specs.Prelude.{Option, Some, None}
use native.Mathlib.Omega.{arith}
use lib.ListN.{length, get_or, take, drop, length-take, length-drop}
use Rattle.octets.specs.Octets.{AllOctets}
use Rattle.octets.specs.Options.{in_front, IfSome, Each, total}
use Rattle.octets.proofs.Lists.{lt_or_le, drop_octets, take_octets}
use Rattle.octets.proofs.Options.{each_front, Takes, takes_front}
use Rattle.header.specs.Header.{FieldText, of_ending, unfolded, fields_of, limit}
use Rattle.header.specs.Answers.{fields_from, step_at, field_at}
use Rattle.header.specs.declared.Step.{Step}
use Rattle.header.specs.declared.Step.TheVariants.{Over, Broken, Field}
use Rattle.header.proofs.Unfolding.{unfolded_out, unfolded_in, unfolded_short}
use Rattle.header.proofs.Stepping.{Places, field_places}
use Rattle.header.proofs.Fields.{from_over, from_broken, from_field, fields_fit, fields_long}

-- a fact P on a place of s and the fields from there on
module _ (s : List ℕ) (P : ℕ → Option (List FieldText) → Type 0) (at_end : (at : ℕ) → P at (Some [])) (unread : (at : ℕ) → P at None)
    (front : (at n v e : ℕ) (o : Option (List FieldText)) → Places s at n v e → P e o → P at (in_front (field_at s at n v e) o)) where
  -- where less than k is left
  within : (k at : ℕ) → length s - at < k → P at (fields_from s at)
  within zero at l = absurd (omega arith)
  within (suc k) at l = go (λ e h. within k e h) (step_at s at) refl
    where
      go : ((e : ℕ) → length s - e < k → P e (fields_from s e)) → (r : Step) → r ≡ step_at s at → P at (fields_from s at)
      go more Over t = rw (from_over s at Over t refl) (at_end at)
      go more Broken t = rw (from_broken s at Broken t refl) (unread at)
      go more (Field n v e) t =
          let p : Places s at n v e = field_places s at n v e (Field n v e) t refl in
          rw (from_field s at (Field n v e) t n v e refl) (front at n v e (fields_from s e) p (more e (omega (arith, p))))

  pub by_fields : P 0 (fields_from s 0)
  by_fields = within (suc (length s)) 0 (omega arith)

-- B1: the fields of a block that is not too long
from_first : (s : List ℕ) (fs : List FieldText) → fields_of s ≡ Some fs → fields_from s 0 ≡ Some fs
from_first s fs e =
    ⊎_elim (λ (h : length s < suc limit). sym (fields_fit s (omega arith)) ∙ e)
    (λ (h : suc limit ≤ length s). let z : ◌≡◌ {A = ℕ} 0 1 = cc (fields_long s h) in absurd (omega arith))
    (lt_or_le (length s) (suc limit))

unfolded_octets : (s : List ℕ) → AllOctets s → AllOctets (unfolded s)
unfolding unfolded
unfolded_octets [] o = o
unfolded_octets (x ∷ s) o = go (unfolded_octets s (λ i. o (suc i))) (of_ending x (get_or s 0 0)) refl
  where
    front_octets : AllOctets (unfolded s) → AllOctets (x ∷ unfolded s)
    front_octets rest zero = o 0
    front_octets rest (suc i) = rest i

    go : AllOctets (unfolded s) → (b : Bool) → of_ending x (get_or s 0 0) ≡ b → AllOctets (unfolded (x ∷ s))
    go rest true e = rw (unfolded_out x s e) rest
    go rest false e = rw (unfolded_in x s e) (front_octets rest)

abbrev pub ValuesOctets : List FieldText → Type 0
ValuesOctets fs = Each (λ (f : FieldText). AllOctets f.value) fs

abbrev pub values_total : List FieldText → ℕ
values_total fs = total (λ (f : FieldText). f.value) fs

-- a field has a name of an octet at least and a colon, and its value is no longer than what stands there
field_room : (s : List ℕ) (at n v e : ℕ) → Places s at n v e → length (field_at s at n v e).value + 1 + (length s - e) ≤ length s - at
field_room s at n v e p =
    omega (arith, p, unfolded_short (take (e - v) (drop v s)), length-take (e - v) (drop v s), length-drop v s)

pub block_octets : (s : List ℕ) → AllOctets s → (fs : List FieldText) → fields_of s ≡ Some fs → ValuesOctets fs
unfolding Each
block_octets s o fs e =
    rw (from_first s fs e) at
    (by_fields s (λ (at : ℕ) (found : Option (List FieldText)). IfSome ValuesOctets found) (λ at. tt) (λ at. tt)
    (λ at n v e found p h.
    each_front (λ (f : FieldText). AllOctets f.value) (field_at s at n v e) found
    (unfolded_octets (take (e - v) (drop v s)) (take_octets (e - v) (drop v s) (drop_octets v s o))) h))

pub total_block : (s : List ℕ) (fs : List FieldText) → fields_of s ≡ Some fs → values_total fs ≤ length s
unfolding total
total_block s fs e =
    let fits : values_total fs ≤ length s - 0 =
    rw (from_first s fs e) at
    (by_fields s (λ (at : ℕ) (found : Option (List FieldText)). Takes (λ (f : FieldText). f.value) (length s - at) found) (λ at. zero-le) (λ at. tt)
    (λ at n v e found p h.
    takes_front (λ (f : FieldText). f.value) (length s - e) (length s - at) (field_at s at n v e) found (field_room s at n v e p) h))
    in
    omega arith
