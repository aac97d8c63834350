-- How an address is shown, where it is written.
--     labels_shown                    what is shown of labels, written label by label
--     head_end .. head_labels         an address in canonical form: up to the `@` as it is, and then its labels
--     front_none .. front_kept        a text at the front of lent memory
--     never_written .. made_kept      what is shown of the form there
--     none_written .. its_kept        and of the address
-- Assumes nothing.
use Prim.Native.Nat.{ℕ, ◌+◌, ◌<◌, ◌≤◌}
use mathlib.Core.Path.{◌≡◌, refl, sym, ap, ◌∙◌}
use mathlib.Core.Bool.{true}
use mathlib.Core.List.{List, [], ◌∷◌, ◌++◌, map, append-nil, append_assoc}
use native.Mathlib.Nat.{zero-add, sub-zero}
use native.Mathlib.Omega.{arith}
use borrow.Author.Rules.{rules}
use mir.Syntax.{w64}
use mir.Val.{Fits}
use lib.ListN.{length, take, drop, length-append}
use lib.Seq.{take_at, length-take-le}
use Rattle.octets.specs.Finding.{length_before}
use Rattle.octets.specs.Written.{put_at, onto}
use Rattle.octets.specs.Options.{in_front}
use Rattle.octets.specs.Puts.{Written, TooLong, Puts, PutsText}
use Rattle.octets.proofs.Puts.{wrote_then, wrote_long, full_then, wrote_before, full_before}
use Rattle.std.specs.Prelude.{Some, Option, None}
use Rattle.pieces.specs.Pieces.{pieces, before, behind}
use Rattle.pieces.proofs.Pieces.{sides_join, before_long, behind_drop}
use Rattle.address.specs.Address.{plain, canonical}
use Rattle.address.specs.Answers.{each_of, labels_by, written_of, onto_if_fits}
use Rattle.address.proofs.Room.{written_fits, written_none, onto_fits, onto_none}
use Rattle.address.proofs.Forming.{form_never, form_there, form_end}
use Rattle.address.proofs.Spelling.{right, plain_canonical, canonical_most}
use Rattle.address.proofs.Sides.{counted}
use Rattle.showing.specs.Showing.{shown, displayed}
use Rattle.showing.specs.Answers.{shown_labels, shown_form}
use Rattle.showing.proofs.Typing.{displayed_most}

-- what is shown of labels, label by label
each_shown : (ps : List (List ℕ)) → each_of (λ p. Some (shown p)) ps ≡ Some (map shown ps)
unfolding each_of in_front
each_shown [] = refl
each_shown (p ∷ ps) = rw (each_of, each_shown ps)

shown_by_labels : (t : List ℕ) → labels_by (λ p. Some (shown p)) t ≡ Some (shown_labels t)
unfolding labels_by shown_labels
shown_by_labels t = rw (labels_by, each_shown (pieces 46 t))

some_puts : (d e : List ℕ) (at : ℕ) (w : List ℕ) (r : Option ℕ) → PutsText d e at (Some w) r → Puts d e at w r
some_puts d e at w (Some m) h =
    let k : w ≡ h.text = cc (h.is) in
    record { octets = w; splits = sym (append-nil w); writes = rw k h.writes; counts = rw k h.counts; room = h.room }
some_puts d e at w None h = record { long = h.long w refl; same = h.same }

pub labels_shown :
    (d e : List ℕ) (at : ℕ) (t : List ℕ) (r : Option ℕ) → PutsText d e at (labels_by (λ p. Some (shown p)) t) r → Puts d e at (shown_labels t) r
labels_shown d e at t r h = some_puts d e at (shown_labels t) r (rw shown_by_labels at h)

-- an address in canonical form: n is the place of its `@`
module _ (s : List ℕ) (l : length (before 64 s) < length s) (n : ℕ) (r : n ≡ 0 + length_before 64 (drop 0 s)) where
  place : n ≡ length (before 64 s)
  place = r ∙ zero-add _ ∙ sym (before_long 64 s)

  pub head_end : n + 1 ≤ length s
  head_end = omega (arith, place)

  pub head_sum : length s ≤ 254 → Fits w64 (n + 1)
  head_sum m = omega (arith, place)

  pub head_count : n + 1 ≡ length (take (n + 1) s)
  head_count = sym (length-take-le (n + 1) s head_end)

  head : take (n + 1) s ≡ before 64 s ++ 64 ∷ []
  head =
      ap (take (n + 1)) (sides_join 64 s l ∙ sym (append_assoc (before 64 s) (64 ∷ []) (behind 64 s)))
      ∙ take_at (before 64 s ++ 64 ∷ []) (behind 64 s) (n + 1) (rw length-append (omega (arith, place)))

  whole : shown_form s ≡ take (n + 1) s ++ shown_labels (drop (n + 1) s)
  unfolding shown_form
  whole =
      let rest : behind 64 s ≡ drop (n + 1) s = behind_drop 64 s ∙ rw (← place) in
      rw (head, ← rest) (sym (append_assoc (before 64 s) (64 ∷ []) _))

  module _ (d e : List ℕ) (g : Option ℕ) (p : Puts d e 0 (take (n + 1) s) g) where
    pub head_none : g ≡ None → TooLong d 0 e (shown_form s)
    head_none q =
        let k : TooLong d 0 e (take (n + 1) s) = rw q at p in
        rw whole (full_before d 0 e (take (n + 1) s) _ k)

    module _ (to : ℕ) (q : g ≡ Some to) where
      begun : Written d 0 e to (shown_form s) (shown_labels (drop (n + 1) s))
      begun =
          let k : Written d 0 e to (take (n + 1) s) [] = rw q at p in
          rw whole (wrote_before d 0 e to (take (n + 1) s) (shown_labels (drop (n + 1) s)) k)

      pub head_room : to ≤ length e
      head_room = omega (arith, begun.room, wrote_long d 0 e to _ _ begun)

      pub head_labels : (f : List ℕ) (o : Option ℕ) → Puts e f to (shown_labels (drop (n + 1) s)) o → Puts d f 0 (shown_form s) o
      head_labels f (Some m) h = wrote_then d 0 e to (shown_form s) _ begun f m [] h
      head_labels f None h = full_then d 0 e to (shown_form s) _ begun f h

pub ruleset putting_address = (head_end, head_sum, head_count, head_none, head_room, head_labels, rules)

-- a text that is written to the front of lent memory
module _ (t d : List ℕ) where
  module _ (l : length d < length t) where
    pub front_none : None ≡ written_of t (length d)
    front_none = sym (written_none t (length d) l)

    pub front_same : d ≡ onto_if_fits t d
    front_same = sym (onto_none t d l)

  module _ (l : length t ≤ length d) where
    pub front_written : Some (length t) ≡ written_of t (length d)
    front_written = sym (written_fits t (length d) l)

    pub front_kept : (out : List ℕ) → out ≡ put_at d 0 t → out ≡ onto_if_fits t d
    unfolding put_at onto
    front_kept out e = e ∙ rw zero-add (sym (onto_fits t d l))

pub ruleset putting_front = (front_none, front_same, front_written, front_kept, rules)

-- what is shown of the form s, made in x₀, which is then x
module _ (s x₀ x d : List ℕ) (most : length (shown_form s) ≤ 1016) (l : length x₀ ≡ 1016) (r : Option ℕ) (h : Puts x₀ x 0 (shown_form s) r) where
  module _ (q : r ≡ None) where
    never : ⊥
    never = let k : TooLong x₀ 0 x (shown_form s) = rw q at h in omega (arith, k.long)

    pub never_written : None ≡ written_of (shown_form s) (length d)
    never_written = absurd never

    pub never_kept : d ≡ onto_if_fits (shown_form s) d
    never_kept = absurd never

  module _ (n : ℕ) (q : r ≡ Some n) where
    made : Written x₀ 0 x n (shown_form s) []
    made = rw q at h

    pub made_end : n ≤ length x
    made_end = omega (arith, made.room, wrote_long x₀ 0 x n _ _ made)

    pub made_count : n ≡ length (take n x)
    made_count = sym (length-take-le n x made_end)

    made_is : take n x ≡ shown_form s
    unfolding put_at
    made_is =
        ap (take n) made.writes
        ∙ take_at made.octets (drop (0 + length made.octets) x₀) n (sym (made.counts ∙ zero-add _))
        ∙ sym (made.splits ∙ append-nil made.octets)

    pub made_written : (g : Option ℕ) → g ≡ written_of (take n x) (length d) → g ≡ written_of (shown_form s) (length d)
    made_written g e = e ∙ rw made_is

    pub made_kept : (out : List ℕ) → out ≡ onto_if_fits (take n x) d → out ≡ onto_if_fits (shown_form s) d
    made_kept out e = e ∙ rw made_is

pub ruleset showing_form = (never_written, never_kept, made_end, made_count, made_written, made_kept, rules)

-- a plain address s, whose form is written into f₀, which is then f
module _ (s f₀ f d : List ℕ) (p : plain s ≡ true) (l : length f₀ ≡ 254) (g : Option ℕ) (w : g ≡ written_of (canonical s) (length f₀)) where
  module _ (q : g ≡ None) where
    fits : ⊥
    fits = form_never s p (length f₀) (omega arith) g w q

    pub none_written : None ≡ written_of (displayed s) (length d)
    none_written = absurd fits

    pub none_kept : d ≡ onto_if_fits (displayed s) d
    none_kept = absurd fits

  module _ (n : ℕ) (q : g ≡ Some n) (o : f ≡ onto_if_fits (canonical s) f₀) where
    its : take n f ≡ canonical s
    its = rw sub-zero at (form_there s p (length f₀) (omega arith) g w n q f₀ f o refl)

    is_displayed : shown_form (take n f) ≡ displayed s
    unfolding shown_form shown_labels displayed
    is_displayed = rw its

    pub its_end : n ≤ length f
    its_end = form_end s p (length f₀) (omega arith) g w n q f₀ f o refl

    pub its_count : n ≡ length (take n f)
    its_count = sym (length-take-le n f its_end)

    pub its_sides : length (before 64 (take n f)) < length (take n f)
    its_sides = rw its (omega (arith, counted (canonical s) (right (canonical s) (plain_canonical s p))))

    pub its_short : length (take n f) ≤ 254
    its_short = rw its (canonical_most s p)

    pub its_most : length (shown_form (take n f)) ≤ 1016
    its_most = rw is_displayed (displayed_most s p)

    pub its_written : (h : Option ℕ) → h ≡ written_of (shown_form (take n f)) (length d) → h ≡ written_of (displayed s) (length d)
    its_written h e = e ∙ rw is_displayed

    pub its_kept : (out : List ℕ) → out ≡ onto_if_fits (shown_form (take n f)) d → out ≡ onto_if_fits (displayed s) d
    its_kept out e = e ∙ rw is_displayed

pub ruleset showing_address = (none_written, none_kept, its_end, its_count, its_sides, its_short, its_most, its_written, its_kept, rules)
