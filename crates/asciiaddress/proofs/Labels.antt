-- The domain: what a loop knows that reads it label by label.
--     labels                        a label is a run of its octets with a label's length and ends; a dot (46) is no such octet
--     Labels s at i                 whether a domain stands from `at` on comes to whether one stands from i on
--     labels_begin .. labels_end    the loop's steps
-- Assumes nothing.
use Prim.Native.Nat.{ℕ, ◌+◌, ◌-◌, ◌<◌, ◌≤◌}
use mathlib.Core.Path.{◌≡◌, refl, sym, ◌∙◌}
use mathlib.Core.Bool.{Bool, true, false, ◌&&◌, and_assoc, and_comm}
use mathlib.Core.List.{List, append-nil}
use native.Mathlib.Omega.{arith}
use borrow.Author.Rules.{rules}
use lib.ListN.{length, get_or, take, drop}
use Rattle.octets.proofs.Lists.{drop_one, drop_done}
use Rattle.octets.specs.Tests.{every, one_to}
use Rattle.runs.specs.Runs.{belongs, run_length}
use Rattle.runs.specs.declared.Class.TheVariants.{Label}
use Rattle.runs.proofs.Running.{Ran, ran, run_zero}
use Rattle.pieces.specs.Pieces.{pieces}
use Rattle.asciiaddress.specs.Ascii.{longest_label, free_ends, ascii_label, ascii_domain}
use Rattle.asciiaddress.specs.Answers.{label_shape}
use Rattle.pieces.proofs.Joined.{Cut, all_end, all_on, all_bad, all_shapeless}

is_label : (p : List ℕ) → ascii_label p ≡ (label_shape p && every (belongs Label) p)
unfolding ascii_label label_shape
is_label p =
    let l : Bool = one_to longest_label (length p) in
    and_assoc l (every (belongs Label) p) (free_ends p) ∙ rw (and_comm (every (belongs Label) p) (free_ends p)) (sym (and_assoc l (free_ends p) (every (belongs Label) p)))

pub labels : Cut (belongs Label) 46 ascii_label label_shape
unfolding belongs
labels = record { out = refl; is = is_label }

pub record Labels (s : List ℕ) (at i : ℕ) : Type 0 where
  pub so_far : ascii_domain (drop at s) ≡ ascii_domain (drop i s)

pub labels_begin : (s : List ℕ) (at : ℕ) → Labels s at at
labels_begin s at = record { so_far = refl }

module _ (s : List ℕ) (at i : ℕ) (h : Labels s at i) where
  pub labels_end : length s ≤ i → false ≡ ascii_domain (drop at s)
  unfolding ascii_domain pieces every ascii_label
  labels_end l = sym (h.so_far ∙ rw (drop_done s i l))

  module _ (e : ℕ) (l : i < length s) (r : e ≡ i + run_length Label (drop i s)) where
    here : Ran (belongs Label) s i e
    here = ran (belongs Label) s i e (omega arith) r

    abbrev piece : List ℕ
    piece = take (e - i) (drop i s)

    pub label_from : i ≤ e
    label_from = here.from

    pub label_upto : e ≤ length s
    label_upto = here.upto

    module _ (b : Bool) (p : b ≡ label_shape piece) where
      pub label_shapeless : b ≡ false → false ≡ ascii_domain (drop at s)
      unfolding ascii_domain
      label_shapeless n =
          sym
          (h.so_far
          ∙ rw here.split
          (all_shapeless labels piece (drop e s) here.all here.stop (sym p ∙ n)))

      pub label_last : b ≡ true → length s ≤ e → true ≡ ascii_domain (drop at s)
      unfolding ascii_domain
      label_last n k =
          sym
          (h.so_far
          ∙ rw (here.split, drop_done s e k, append-nil)
          (all_end labels piece here.all ∙ sym p ∙ n))

      pub label_next : b ≡ true → e < length s → get_or s e 0 ≡ 46 → Labels s at (e + 1)
      unfolding ascii_domain
      label_next n k d =
          record {
            so_far =
                h.so_far
                ∙ rw (here.split, drop_one s e k, d)
                (all_on labels piece (drop (e + 1) s) here.all ∙ rw (sym p ∙ n));
          }

    pub label_stop : e < length s → (get_or s e 0 ≡ 46 → ⊥) → false ≡ ascii_domain (drop at s)
    unfolding ascii_domain
    label_stop k n =
        sym
        (h.so_far
        ∙ rw (here.split, drop_one s e k)
        (all_bad labels piece (drop (e + 1) s) (get_or s e 0) here.all n
        (run_zero (belongs Label) (get_or s e 0) (drop (e + 1) s) (rw (drop_one s e k) at here.stop))))

pub ruleset labelling = (labels_begin, label_from, label_upto, label_shapeless, label_last, label_next, label_stop, labels_end, rules)
