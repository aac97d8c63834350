-- The fields of a block, and the values of those that are asked for.
--     fields_are, fields_read      the fields of a readable block
--     block_begin                  from its first line on they are readable
--     values_first, values_other   the values that are asked for, by the first field of some
--     values_in, values_out        those of a field in front of what stands behind it in a block
--     values_append                those of fields behind fields
--     values_by                    those from a place on, by the fields there
--     values_all, values_end       from the first line on they are those of the block, at its end there are none
--     fields_octets, only_octets   values of a block of octets are octets
-- Assumes nothing.
use Prim.Native.Nat.{ℕ}
use mathlib.Core.Path.{◌≡◌, refl, sym, ap, ◌∙◌}
use mathlib.Core.Bool.{Bool, true, false}
use mathlib.Core.List.{List, [], ◌∷◌, ◌++◌}
use Rattle.std.specs.Prelude.{Option, Some, None}
use lib.ListN.{length}
use lib.Seq.{drop-length}
use Rattle.octets.specs.Octets.{AllOctets}
use Rattle.octets.specs.Options.{in_front, is_some, or_else, only_one, Each}
use Rattle.octets.proofs.Options.{some_else, else_front, only_one_lem}
use Rattle.header.specs.Header.{FieldText, over, fields_of, readable}
use Rattle.header.specs.Answers.{fields_from}
use Rattle.header.proofs.Fields.{fields_over, fields_fit, clear_fits, clear_begin}
use Rattle.header.proofs.Values.{ValuesOctets, block_octets}
use Rattle.fields.specs.Fields.{fields_in, is_kind, values_of}
use Rattle.fields.specs.Answers.{values_from}
use Rattle.fields.specs.declared.Kind.{Kind}

pub fields_are : (s : List ℕ) (fs : List FieldText) → fields_of s ≡ Some fs → fields_in s ≡ fs
unfolding fields_in or_else
fields_are s fs e = rw e

pub fields_read : (s : List ℕ) → readable s ≡ true → fields_of s ≡ Some (fields_in s)
unfolding fields_in
fields_read s c = some_else [] (fields_of s) c

pub block_begin : (s : List ℕ) → readable s ≡ true → is_some (fields_from s 0) ≡ true
block_begin s c = clear_begin s true (sym c) refl

module _ (kind : Kind) (f : FieldText) where
  pub values_first : (fs : List FieldText) → is_kind kind f.name ≡ true → values_of kind (f ∷ fs) ≡ f.value ∷ values_of kind fs
  unfolding values_of
  values_first fs e = rw (values_of, e)

  pub values_other : (fs : List FieldText) → is_kind kind f.name ≡ false → values_of kind (f ∷ fs) ≡ values_of kind fs
  unfolding values_of
  values_other fs e = rw (values_of, e)

  -- in front of what stands behind it in a block
  pub values_in : (o : Option (List FieldText)) → is_kind kind f.name ≡ true → is_some o ≡ true
      → values_of kind (or_else [] (in_front f o)) ≡ f.value ∷ values_of kind (or_else [] o)
  values_in o e c = ap (values_of kind) (else_front f o c) ∙ values_first (or_else [] o) e

  pub values_out : (o : Option (List FieldText)) → is_kind kind f.name ≡ false → values_of kind (or_else [] (in_front f o)) ≡ values_of kind (or_else [] o)
  unfolding or_else in_front values_of
  values_out None e = refl
  values_out (Some fs) e = values_other fs e

pub values_append : (kind : Kind) (fs gs : List FieldText) → values_of kind (fs ++ gs) ≡ values_of kind fs ++ values_of kind gs
unfolding values_of
values_append kind [] gs = refl
values_append kind (f ∷ fs) gs = go (is_kind kind f.name) refl (values_append kind fs gs)
  where
    go : (b : Bool) → is_kind kind f.name ≡ b → values_of kind (fs ++ gs) ≡ values_of kind fs ++ values_of kind gs
        → values_of kind (f ∷ (fs ++ gs)) ≡ values_of kind (f ∷ fs) ++ values_of kind gs
    go true e h = rw (values_first kind f (fs ++ gs) e, values_first kind f fs e, h)
    go false e h = rw (values_other kind f (fs ++ gs) e, values_other kind f fs e, h)

module _ (kind : Kind) (s : List ℕ) where
  pub values_by : (at : ℕ) (o : Option (List FieldText)) → fields_from s at ≡ o → values_from kind s at ≡ values_of kind (or_else [] o)
  unfolding values_from
  values_by at o e = rw e

  pub values_all : readable s ≡ true → values_from kind s 0 ≡ values_of kind (fields_in s)
  unfolding fields_in
  values_all c = values_by 0 (fields_of s) (sym (fields_fit s (clear_fits s true (sym c) refl)))

  pub values_end : values_from kind s (length s) ≡ []
  unfolding values_from fields_from values_of or_else over
  values_end = rw (drop-length s, fields_over [] refl)

pub fields_octets : (s : List ℕ) → AllOctets s → ValuesOctets (fields_in s)
unfolding fields_in or_else Each
fields_octets s o = go (fields_of s) refl
  where
    go : (found : Option (List FieldText)) → fields_of s ≡ found → ValuesOctets (or_else [] (fields_of s))
    go None e = rw e tt
    go (Some fs) e = rw e (block_octets s o fs e)

values_octets : (kind : Kind) (fs : List FieldText) → ValuesOctets fs → Each AllOctets (values_of kind fs)
unfolding values_of Each
values_octets kind [] h = tt
values_octets kind (f ∷ fs) h = go (is_kind kind f.name) refl (values_octets kind fs h.1)
  where
    go : (b : Bool) → is_kind kind f.name ≡ b → Each AllOctets (values_of kind fs) → Each AllOctets (values_of kind (f ∷ fs))
    go true k rest = rw (values_first kind f fs k) (h.0, rest)
    go false k rest = rw (values_other kind f fs k) rest

-- the one value of its kind
pub only_octets : (kind : Kind) (fs : List FieldText) (v : List ℕ) → ValuesOctets fs → only_one (values_of kind fs) ≡ Some v → AllOctets v
unfolding Each
only_octets kind fs v h e = (rw (only_one_lem (values_of kind fs) v e) at (values_octets kind fs h)).0
