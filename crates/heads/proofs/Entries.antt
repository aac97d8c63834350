-- Entries and their heads.
--     present_is .. half_holds    what may be absent, beside what stands for it
--     changed_address .. changed_gossip    what a writer changes in an entry, it changes in its head
-- Assumes nothing.
use Prim.Native.Nat.{ℕ}
use mathlib.Core.Path.{◌≡◌, refl}
use mathlib.Core.Bool.{Bool, true, false}
use Rattle.std.specs.Prelude.{Option, Some, None}
use mathlib.Core.List.{List}
use lib.ListN.{length}
use Rattle.octets.specs.Options.{or_else, is_some, IfSome}
use Rattle.heads.specs.Head.{head_address, head_seen, head_direct, head_gossip}
use Rattle.heads.specs.Entry.{Direct, Gossip, Entry, present, head_for, renamed, seen_by, with_direct, with_gossip}

-- a part that may be absent
pub present_is : {A : Type 0} (b : Bool) (x : A) → is_some (present b x) ≡ b
unfolding is_some
present_is true x = refl
present_is false x = refl

pub present_or : {A B : Type 0} (f : A → B) (d x : A) (b : Bool) → (b ≡ false → f d ≡ f x) → f (or_else d (present b x)) ≡ f x
unfolding or_else
present_or f d x true h = refl
present_or f d x false h = h refl

pub present_back : {A : Type 0} (d : A) (o : Option A) → present (is_some o) (or_else d o) ≡ o
unfolding is_some or_else
present_back d None = refl
present_back d (Some x) = refl

-- what holds of a part that is there and of what stands for one that is not
pub half_holds : {A : Type 0} (P Q : A → Type 0) (d : A) → Q d → ((x : A) → P x → Q x) → (o : Option A) → IfSome P o → Q (or_else d o)
unfolding or_else
half_holds P Q d z f None g = z
half_holds P Q d z f (Some x) g = f x g

pub changed_address : (e : Entry) (a : List ℕ) → head_for (renamed a e) ≡ head_address (length a) (head_for e)
unfolding head_for renamed
changed_address e a = refl

pub changed_seen : (e : Entry) (date : ℕ) → head_for (seen_by date e) ≡ head_seen date (head_for e)
unfolding head_for seen_by is_some or_else
changed_seen e date = refl

pub changed_direct : (e : Entry) (d : Direct) → head_for (with_direct d e) ≡ head_direct d.timestamp (length d.key) d.«mutual» (head_for e)
unfolding head_for with_direct is_some or_else
changed_direct e d = refl

pub changed_gossip : (e : Entry) (g : Gossip) → head_for (with_gossip g e) ≡ head_gossip g.timestamp (length g.key) (head_for e)
unfolding head_for with_gossip is_some or_else
changed_gossip e g = refl
