-- Calls on any form of table, one after the other, in two orders.
--     Delivers       what is asked of calls: on a sound table one leaves what its message does
--     map_stands     what stands in a list of changed elements
--     calls_run      the calls of a list are their messages, one after the other
--     calls_alike    two orders of the same calls lead to the same entries
-- Assumes nothing.
use mathlib.Core.Path.{◌≡◌, refl, sym, ap, ◌∙◌}
use mathlib.Core.Logic.{⊎_elim}
use mathlib.Core.Bool.{true}
use mathlib.Core.List.Permᴰ
use mathlib.Core.List.{List, [], ◌∷◌, map, Memᴰ, Permᴰ}
use Rattle.std.specs.Prelude.{Some, Err}
use Rattle.refusals.specs.declared.Refusal.TheVariants.{NoFreeSlot}
use Rattle.update.specs.Message.{Message}
use Rattle.order.specs.Fetching.{Form, after, fetched_in, fits, all_fit_in, Agree, Agreeing}
use Rattle.order.specs.Calls.{Call, OctetCall, Calling, left_by_all, answers_of}
use Rattle.order.proofs.Permuting.{permuted_stands}
use Rattle.order.proofs.Forms.{Lawful}
use Rattle.order.proofs.FetchOrder.{Alike, fetched_one, fetch_alike}

pub record Delivers {T : Type 0} (form : Form T) (calling : Calling T) : Type 0 where
  pub leaves : (t : T) → form.IsSound t → (c : Call) → calling.left t c ≡ after form t (calling.brings c)
  pub fitting : (t : T) → form.IsSound t → (c : Call) → (Err NoFreeSlot ≡ calling.answer t c → ⊥) → fits form t (calling.brings c) ≡ true
  pub good : (c : Call) → OctetCall c → (m : Message) → calling.brings c ≡ Some m → form.IsGood m

-- what stands in a list of changed elements was made of an element
map_stands : {A B : Type 0} (f : A → B) (list : List A) (y : B) → Memᴰ y (map f list) → (x : A) × Memᴰ x list × (y ≡ f x)
map_stands f [] y i = absurd (mathlib.Core.List.Memᴰ.not-nil i)
map_stands f (a ∷ rest) y i =
    ⊎_elim
    (λ q. (a, mathlib.Core.List.Memᴰ.head refl, q))
    (λ j. let r = map_stands f rest y j in (r.0, mathlib.Core.List.Memᴰ.tail r.1, r.2))
    (mathlib.Core.List.Memᴰ.cases_cons i)

module _ {T : Type 0} (form : Form T) (law : Lawful form) (calling : Calling T) (d : Delivers form calling) where
  -- where none is refused for room
  calls_run : (cs : List Call) (t : T) → form.IsSound t → ((c : Call) → Memᴰ c cs → OctetCall c)
      → (Memᴰ (Err NoFreeSlot) (answers_of calling t cs) → ⊥)
      → (left_by_all calling t cs ≡ fetched_in form t (map calling.brings cs)) × (all_fit_in form t (map calling.brings cs) ≡ true)
  unfolding left_by_all answers_of fetched_in all_fit_in
  calls_run [] t s octets n = (refl, refl)
  calls_run (c ∷ rest) t s octets n =
      let fit : fits form t (calling.brings c) ≡ true = d.fitting t s c (λ q. n (mathlib.Core.List.Memᴰ.head q)) in
      let one = fetched_one form law t (calling.brings c) s (d.good c (octets c (mathlib.Core.List.Memᴰ.head refl))) fit in
      let e : calling.left t c ≡ after form t (calling.brings c) = d.leaves t s c in
      let more : Memᴰ (Err NoFreeSlot) (answers_of calling (after form t (calling.brings c)) rest) → ⊥ =
      λ i. n (mathlib.Core.List.Memᴰ.tail (rw e i)) in
      let others = calls_run rest (after form t (calling.brings c)) one.sound (λ x i. octets x (mathlib.Core.List.Memᴰ.tail i)) more in
      (ap (λ (u : T). left_by_all calling u rest) e ∙ others.0, rw fit others.1)

  pub calls_alike : (t : T) (cs ds : List Call) → form.IsSound t → ((c : Call) → Memᴰ c cs → OctetCall c) → Permᴰ cs ds
      → (Memᴰ (Err NoFreeSlot) (answers_of calling t cs) → ⊥) → (Memᴰ (Err NoFreeSlot) (answers_of calling t ds) → ⊥)
      → ((c d : Call) → Memᴰ c cs → Memᴰ d cs → (m n : Message) → calling.brings c ≡ Some m → calling.brings d ≡ Some n → Agree m n)
      → Alike form (left_by_all calling t cs) (left_by_all calling t ds)
  unfolding Agreeing
  calls_alike t cs ds s octets p n₁ n₂ agree =
      let first = calls_run cs t s octets n₁ in
      let second = calls_run ds t s (λ c i. octets c (permuted_stands c (Permᴰ.symm p) i)) n₂ in
      rw (first.0, second.0)
      (fetch_alike form law t (map calling.brings cs) (map calling.brings ds) s
      (λ m i. let r = map_stands calling.brings cs (Some m) i in d.good r.0 (octets r.0 r.1) m (sym r.2))
      (Permᴰ.map calling.brings p) first.1 second.1
      (λ m n i j.
      let r = map_stands calling.brings cs (Some m) i in
      let q = map_stands calling.brings cs (Some n) j in
      agree r.0 q.0 r.1 q.1 m n (sym r.2) (sym q.2)))
