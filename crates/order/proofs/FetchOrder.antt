-- C11: the order of fetching does not matter.
--     step, fetched_well    a run from a sound table: its tables are sound, and each entry goes its own way
--     Alike, fetch_alike    two orders lead to sound tables with the same entry of every address, in any form of table
--     say_the_same          sound tables of slots with the same entries give the same recommendations and target keys
--     fetch_order           the whole of C11 for slots
-- Assumes nothing.
use Prim.Native.Nat.{ℕ}
use mathlib.Core.Path.{◌≡◌, refl, sym, ap, ◌∙◌}
use mathlib.Core.Bool.{true}
use mathlib.Core.List.Permᴰ
use mathlib.Core.List.{List, [], ◌∷◌, Memᴰ, Permᴰ}
use Rattle.std.specs.Prelude.{Option, Some, None}
use Rattle.octets.specs.Octets.{AllOctets}
use Rattle.octets.proofs.Tests.{and_left, and_right}
use Rattle.heads.specs.Entry.{Entry}
use Rattle.table.specs.Table.{checked}
use Rattle.table.specs.declared.Checked.TheVariants.{Sound}
use Rattle.update.specs.Message.{Message, entry_after, GoodMessage}
use Rattle.recommend.proofs.SameEntries.{recommended_alike, quick_alike, key_alike}
use Rattle.order.specs.Fetching.{Form, after, fetched_in, fits, all_fit_in, slot_form, fetched, all_fit, Agreeing, SayTheSame}
use Rattle.order.proofs.Permuting.{permuted_stands, folded, Steps, folded_permuted}
use Rattle.order.proofs.Shares.{Known}
use Rattle.order.proofs.EntryOrder.{entry_keeps, entry_swap}
use Rattle.order.proofs.Forms.{Lawful, slots_lawful}

-- what a call does to the entry of an address
unfoldable pub step : List ℕ → Option Message → Option Entry → Option Entry
step b None e = e
step b (Some m) e = entry_after m b e

-- a run from t to u: u is a sound table, and each address has what its entry in t becomes, message by message
pub record Fetched {T : Type 0} (form : Form T) (t u : T) (list : List (Option Message)) : Type 0 where
  pub sound : form.IsSound u
  pub entries : (b : List ℕ) → form.entry u b ≡ folded (step b) list (form.entry t b)

pub record Alike {T : Type 0} (form : Form T) (t u : T) : Type 0 where
  pub sound : form.IsSound t
  pub sound_too : form.IsSound u
  pub entry : (a : List ℕ) → form.entry t a ≡ form.entry u a

module _ {T : Type 0} (form : Form T) (law : Lawful form) where
  module _ (list : List (Option Message)) (good : (m : Message) → Memᴰ (Some m) list → form.IsGood m) (agree : Agreeing list) where
    call_keeps : (b : List ℕ) (c : Option Message) → Memᴰ c list → (e : Option Entry) → Known e → Known (step b c e)
    unfolding step
    call_keeps b None i e k = k
    call_keeps b (Some m) i e k = entry_keeps m b e (law.stamped m (good m i)) k

    call_swaps : (b : List ℕ) (c d : Option Message) → Memᴰ c list → Memᴰ d list → (e : Option Entry) → Known e
        → step b d (step b c e) ≡ step b c (step b d e)
    unfolding step Agreeing
    call_swaps b None d i j e k = refl
    call_swaps b (Some m) None i j e k = refl
    call_swaps b (Some m) (Some n) i j e k = entry_swap m n (law.stamped m (good m i)) (law.stamped n (good n j)) (agree m n i j) b e k

    calls_steps : (b : List ℕ) → Steps (step b) Known list
    calls_steps b = record { keeps = call_keeps b; swaps = call_swaps b }

  pub fetched_one : (t : T) (c : Option Message) → form.IsSound t → ((m : Message) → c ≡ Some m → form.IsGood m) → fits form t c ≡ true
      → Fetched form t (after form t c) (c ∷ [])
  unfolding after fits step folded
  fetched_one t None s good r = record { sound = s; entries = λ b. refl }
  fetched_one t (Some m) s good r = record { sound = law.kept t m s (good m refl) r; entries = law.entries t m s (good m refl) r }

  pub fetched_well : (list : List (Option Message)) (t : T) → form.IsSound t → ((m : Message) → Memᴰ (Some m) list → form.IsGood m)
      → all_fit_in form t list ≡ true → Fetched form t (fetched_in form t list) list
  unfolding fetched_in all_fit_in folded
  fetched_well [] t s good r = record { sound = s; entries = λ b. refl }
  fetched_well (c ∷ rest) t s good r =
      let one : Fetched form t (after form t c) (c ∷ []) =
      fetched_one t c s (λ m q. good m (Memᴰ.head (sym q))) (and_left (fits form t c) (all_fit_in form (after form t c) rest) r) in
      let others : Fetched form (after form t c) (fetched_in form (after form t c) rest) rest =
      fetched_well rest (after form t c) one.sound (λ m i. good m (Memᴰ.tail i))
      (and_right (fits form t c) (all_fit_in form (after form t c) rest) r) in
      record { sound = others.sound; entries = λ b. others.entries b ∙ ap (folded (step b) rest) (one.entries b) }

  pub fetch_alike : (t : T) (ms ns : List (Option Message)) → form.IsSound t → ((m : Message) → Memᴰ (Some m) ms → form.IsGood m)
      → Permᴰ ms ns → all_fit_in form t ms ≡ true → all_fit_in form t ns ≡ true → Agreeing ms → Alike form (fetched_in form t ms) (fetched_in form t ns)
  fetch_alike t ms ns s good p r q agree =
      let first : Fetched form t (fetched_in form t ms) ms = fetched_well ms t s good r in
      let second : Fetched form t (fetched_in form t ns) ns = fetched_well ns t s (λ m i. good m (permuted_stands (Some m) (Permᴰ.symm p) i)) q in
      record {
        sound = first.sound;
        sound_too = second.sound;
        entry = λ a.
            first.entries a
            ∙ folded_permuted (step a) Known ms ns p (calls_steps ms good agree a) (form.entry t a) (law.known t s a)
            ∙ sym (second.entries a);
      }

-- recommending asks for entries only
pub say_the_same : (t u : List ℕ) → Alike slot_form t u → SayTheSame t u
say_the_same t u h =
    record {
      entry = h.entry;
      recommendation = λ recipients. recommended_alike t u h.sound.sound h.sound_too.sound recipients h.entry;
      quick = λ recipients. quick_alike t u h.sound.sound h.sound_too.sound recipients h.entry;
      target_key_same = λ recipients. key_alike t u h.sound.sound h.sound_too.sound recipients h.entry;
    }

-- C11: from one sound table, two orders of the same messages lead to tables that say the same, where neither order refuses one for room and any two
-- that bring an address something at the same date bring it the same.
pub fetch_order : (t : List ℕ) (ms ns : List (Option Message)) → AllOctets t → checked t ≡ Sound
    → ((m : Message) → Memᴰ (Some m) ms → GoodMessage m) → Permᴰ ms ns → all_fit t ms ≡ true → all_fit t ns ≡ true → Agreeing ms
    → SayTheSame (fetched t ms) (fetched t ns)
fetch_order t ms ns o s good p r q agree =
    say_the_same (fetched t ms) (fetched t ns)
    (fetch_alike slot_form slots_lawful t ms ns (record { octets = o; sound = s }) good p r q agree)
