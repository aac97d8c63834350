-- A block that holds octets among other whole fields.
--     readable_fields    the fields of a readable block are those of its text
--     holding_fields     its fields, where the octets are read back as one
-- Assumes nothing.
use Prim.Native.Nat.{ℕ}
use mathlib.Core.Path.{◌≡◌, sym, ap, ◌∙◌}
use mathlib.Core.Bool.{Bool}
use mathlib.Core.List.{List, [], ◌∷◌, ◌++◌}
use Rattle.std.specs.Prelude.{Option, Some, None}
use native.Mathlib.Omega.{arith}
use lib.Dec.{leb}
use lib.ListN.{length}
use Rattle.octets.specs.Options.{in_front, or_else}
use Rattle.octets.proofs.Options.{front_some}
use Rattle.octets.proofs.Tests.{by_test}
use Rattle.header.specs.Header.{limit, FieldText, fields, fields_of}
use Rattle.trip.specs.RoundTrip.{in_front_all, ReadsBack, Holding, behind}

-- fields in front of a readable rest
all_in_front : (fs : List FieldText) (f : FieldText) (o : Option (List FieldText)) (all : List FieldText)
    → in_front_all fs (in_front f o) ≡ Some all → all ≡ fs ++ (f ∷ or_else [] o)
unfolding in_front_all or_else
all_in_front [] f o all e =
    let r = front_some f o all e in
    r.1.1 ∙ ap (λ (x : Option (List FieldText)). f ∷ or_else [] x) (sym r.1.0)
all_in_front (g ∷ fs) f o all e =
    let r = front_some g (in_front_all fs (in_front f o)) all e in
    r.1.1 ∙ ap (λ (x : List FieldText). g ∷ x) (all_in_front fs f o r.0 r.1.0)

pub readable_fields : (s : List ℕ) (fs : List FieldText) → fields_of s ≡ Some fs → fields s ≡ Some fs
unfolding fields_of
readable_fields s fs e =
    by_test (leb (length s) limit)
    (λ t. rw (fields_of, t) at e)
    (λ t. let k : None ≡ Some fs = rw (fields_of, t) at e in let z : ◌≡◌ {A = ℕ} 0 1 = cc in absurd (omega arith))

pub holding_fields : (name address key octets : List ℕ) (m : Bool) (r : ReadsBack name address key m octets) (block : List ℕ) (h : Holding block octets)
    (fs : List FieldText) → fields_of block ≡ Some fs → fs ≡ h.before ++ (r.found ∷ behind h)
unfolding behind
holding_fields name address key octets m r block h fs e =
    all_in_front h.before r.found (fields h.rest) fs
    (sym (r.among h.front h.before h.whole_fields h.rest h.no_continuation) ∙ ap fields (sym h.is) ∙ readable_fields block fs e)
