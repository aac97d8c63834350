-- The labels of a domain, written one by one, whatever is written of each.
--     last_by, more_by                      what is made of the labels, by the first
--     Joins text d out s from at i to       what is made of the labels from `from` on is what is written from `at` up to `to`, and
--                                           what is made of those from i on
--     join_begin .. join_next               the loop's steps. d is the buffer as it came, out as it is before a label and e behind it.
--     domain_of_lem, of_domain              what `domain_of` gives
--     domain_by                             the form of a domain, label by label
-- Assumes nothing.
use Prim.Native.Nat.{ℕ, ◌+◌, ◌-◌, ◌<◌, ◌≤◌}
use mathlib.Core.Path.{◌≡◌, refl, sym, ap, ◌∙◌}
use mathlib.Core.Bool.{true, false, cond}
use mathlib.Core.List.{List, [], ◌∷◌, ◌++◌, map, append-nil, append_assoc}
use Rattle.std.specs.Prelude.{Option, Some, None}
use Rattle.std.specs.Option.{option_map}
use mathlib.Core.Logic.{⊎_elim}
use native.Mathlib.Omega.{arith}
use lib.ListN.{length, take, drop, set, length-append, length-drop, length-set}
use lib.Seq.{drop-drop}
use Rattle.octets.specs.Finding.{length_before}
use Rattle.octets.specs.Options.{in_front}
use Rattle.octets.specs.Written.{put_at}
use Rattle.octets.specs.Puts.{Told, Untold, PutsText}
use Rattle.octets.specs.Tests.{every}
use Rattle.octets.proofs.Finding.{by, before_short}
use Rattle.octets.proofs.Lists.{lt_or_le}
use Rattle.octets.proofs.Options.{by_option}
use Rattle.octets.proofs.Putting.{over_none, over_one, put_both}
use Rattle.octets.proofs.Puts.{told_long}
use Rattle.octets.proofs.Tests.{by_test}
use Rattle.pieces.specs.Pieces.{pieces, before, behind, following, joined}
use Rattle.pieces.proofs.Pieces.{others, pieces_first, pieces_sides, pieces_last, place_before, before_long, behind_drop}
use Rattle.labels.specs.Labels.{label, labelled}
use Rattle.labels.specs.Answers.{label_of}
use Rattle.labels.proofs.Forming.{label_of_lem}
use Rattle.address.specs.Address.{domain, domain_form}
use Rattle.address.specs.Answers.{each_of, labels_by, domain_of}

-- a text behind another, where there is one
unfoldable pub behind_of : List ℕ → Option (List ℕ) → Option (List ℕ)
behind_of w None = None
behind_of w (Some v) = Some (w ++ v)

behind_nothing : (o : Option (List ℕ)) → o ≡ behind_of [] o
unfolding behind_of
behind_nothing None = refl
behind_nothing (Some v) = refl

behind_both : (w v : List ℕ) (o : Option (List ℕ)) → behind_of w (behind_of v o) ≡ behind_of (w ++ v) o
unfolding behind_of
behind_both w v None = refl
behind_both w v (Some u) = ap Some (sym (append_assoc w v u))

behind_some : (w : List ℕ) (o : Option (List ℕ)) (x : List ℕ) → behind_of w o ≡ Some x → (v : List ℕ) × ((o ≡ Some v) × (x ≡ w ++ v))
unfolding behind_of
behind_some w None x e = let z : ◌≡◌ {A = ℕ} 0 1 = cc in absurd (omega arith)
behind_some w (Some v) x e = (v, (refl, cc))

-- what is made of the labels, by the first
module _ (text : List ℕ → Option (List ℕ)) (t : List ℕ) where
  pub last_by : length t ≤ length (before 46 t) → labels_by text t ≡ text (before 46 t)
  unfolding labels_by each_of in_front joined following
  last_by l =
      by_option (text (before 46 t))
      (λ e. rw (labels_by, pieces_last 46 t l, each_of, e))
      (λ w e. rw (labels_by, pieces_last 46 t l, each_of, e) (ap Some (append-nil w)))

  module _ (l : length (before 46 t) < length t) where
    pub none_by : text (before 46 t) ≡ None → labels_by text t ≡ None
    unfolding labels_by each_of
    none_by e = rw (labels_by, pieces_sides 46 t l, each_of, e)

    pub more_by : (w : List ℕ) → text (before 46 t) ≡ Some w → labels_by text t ≡ behind_of (w ++ 46 ∷ []) (labels_by text (behind 46 t))
    unfolding labels_by each_of in_front joined following behind_of
    more_by w e =
        rw (labels_by, pieces_sides 46 t l, each_of, e, pieces_first 46 (behind 46 t))
        (go (text (before 46 (behind 46 t))) (each_of text (others 46 (behind 46 t))))
      where
        go : (o : Option (List ℕ)) (r : Option (List (List ℕ)))
            → option_map (joined 46) (in_front w (elim o [ None ↦ None | Some u ↦ in_front u r ]))
            ≡ behind_of (w ++ 46 ∷ []) (option_map (joined 46) (elim o [ None ↦ None | Some u ↦ in_front u r ]))
        go None r = refl
        go (Some u) None = refl
        go (Some u) (Some vs) = ap Some (sym (append_assoc w (46 ∷ []) (joined 46 (u ∷ vs))))

  -- what the first label comes to is not longer than the whole
  pub first_by : (x : List ℕ) → labels_by text t ≡ Some x → (w : List ℕ) × ((text (before 46 t) ≡ Some w) × (length w ≤ length x))
  first_by x e =
      ⊎_elim
      (λ (l : length (before 46 t) < length t).
      by_option (text (before 46 t))
      (λ q. absurd (let z : ◌≡◌ {A = Option (List ℕ)} None (Some x) = sym (none_by l q) ∙ e in let y : ◌≡◌ {A = ℕ} 0 1 = cc in omega arith))
      (λ w q.
      let y : (v : List ℕ) × ((labels_by text (behind 46 t) ≡ Some v) × (x ≡ (w ++ 46 ∷ []) ++ v)) = behind_some (w ++ 46 ∷ []) _ x (sym (more_by l w q) ∙ e) in
      (w, (q, rw (y.1.1, length-append, length-append) (omega arith)))))
      (λ (l : length t ≤ length (before 46 t)). (x, (sym (last_by l) ∙ e, omega arith)))
      (lt_or_le (length (before 46 t)) (length t))

put_behind :
    (d out : List ℕ) (at to : ℕ) (w v : List ℕ) → out ≡ put_at d at w → to ≡ at + length w → at + (length w + length v) ≤ length d
    → put_at out to v ≡ put_at d at (w ++ v)
put_behind d out at to w v e c l = rw (e, c) (put_both d at w v (rw length-append l))

pub record Joins (text : List ℕ → Option (List ℕ)) (d out s : List ℕ) (from at i to : ℕ) : Type 0 where
  pub written : List ℕ
  pub writes : out ≡ put_at d at written
  pub counts : to ≡ at + length written
  pub so_far : labels_by text (drop from s) ≡ behind_of written (labels_by text (drop i s))

pub record Bounded (d out s : List ℕ) (i to : ℕ) : Type 0 where
  pub upto : i ≤ length s
  pub kept : length out ≡ length d
  pub room : to ≤ length d

pub bounds_begin : (d s : List ℕ) (i to : ℕ) → i ≤ length s → to ≤ length d → Bounded d d s i to
bounds_begin d s i to l m = record { upto = l; kept = refl; room = m }

module _ (d out s : List ℕ) (i to : ℕ) (b : Bounded d out s i to) (end : ℕ) where
  pub bounds_next : (e : List ℕ) (m : ℕ) → length e ≡ length out → end < length s → m < length e → Bounded d (set e m 46) s (end + 1) (m + 1)
  bounds_next e m k l f =
      record { upto = omega arith; kept = length-set e m 46 ∙ k ∙ b.kept; room = omega (arith, b.kept) }

  module _ (r : end ≡ i + length_before 46 (drop i s)) where
    pub part_from : i ≤ end
    part_from = omega arith

    pub part_within : end ≤ length s
    part_within = omega (arith, before_short (by 46 (drop i s)), length-drop i s, b.upto)

module _ (text : List ℕ → Option (List ℕ)) where
  pub join_begin : (d s : List ℕ) (from at : ℕ) → Joins text d d s from at from at
  join_begin d s from at =
      record {
        written = [];
        writes = over_none d at;
        counts = omega arith;
        so_far = behind_nothing (labels_by text (drop from s));
      }

  module _ (d out s : List ℕ) (from at i to : ℕ) (b : Bounded d out s i to) (h : Joins text d out s from at i to) (end : ℕ) (r : end ≡ i + length_before 46 (drop i s)) where
    abbrev t : List ℕ
    t = drop i s

    abbrev piece : List ℕ
    piece = take (end - i) t

    first : before 46 t ≡ piece
    first = let n : end - i ≡ length_before 46 t = omega arith in rw n (sym (place_before 46 t))

    first_long : length (before 46 t) ≡ end - i
    first_long = before_long 46 t ∙ omega arith

    -- what a caller has of the whole
    whole : (x : List ℕ) → labels_by text (drop from s) ≡ Some x → (v : List ℕ) × ((labels_by text t ≡ Some v) × (x ≡ h.written ++ v))
    whole x e = behind_some h.written (labels_by text t) x (sym h.so_far ∙ e)

    module _ (e : List ℕ) (g : Option ℕ) (p : PutsText out e to (text piece) g) where
      pub join_none : g ≡ None → Untold d at e (labels_by text (drop from s))
      join_none q =
          let k : Untold out to e (text piece) = rw q at p in
          record {
            long = λ x y.
                let v = whole x y in
                let w : (w : List ℕ) × ((text (before 46 t) ≡ Some w) × (length w ≤ length v.0)) = first_by text t v.0 v.1.0 in
                let z : length x ≡ length h.written + length v.0 = ap length v.1.1 ∙ length-append h.written v.0 in
                omega (arith, k.long w.0 (rw first at w.1.0), w.1.1, z, h.counts, b.kept);
            same = k.same ∙ b.kept;
          }

      module _ (m : ℕ) (q : g ≡ Some m) where
        told : Told out to e m (text piece)
        told = rw q at p

        long : length e ≡ length d
        long = told_long out to e m _ told ∙ b.kept

        counted : m ≡ at + (length h.written + length told.text)
        counted = told.counts ∙ omega (arith, h.counts)

        onto : e ≡ put_at d at (h.written ++ told.text)
        onto =
            told.writes
            ∙ put_behind d out at to h.written told.text h.writes h.counts (omega (arith, counted, told.room, b.kept))

        is : text (before 46 t) ≡ Some told.text
        is = rw first told.is

        pub join_last : length s ≤ end → Told d at e m (labels_by text (drop from s))
        unfolding behind_of
        join_last l =
            let k : length t ≤ length (before 46 t) = omega (arith, first_long, length-drop i s) in
            record {
              text = h.written ++ told.text;
              is = h.so_far ∙ ap (behind_of h.written) (last_by text t k ∙ is);
              writes = onto;
              counts = counted ∙ rw length-append;
              room = omega (arith, told.room, b.kept);
            }

        module _ (l : end < length s) where
          k : length (before 46 t) < length t
          k = omega (arith, first_long, length-drop i s)

          rest : behind 46 t ≡ drop (end + 1) s
          rest =
              let n : i + (end - i + 1) ≡ end + 1 = omega arith in
              behind_drop 46 t ∙ rw (first_long, drop-drop, n)

          on : labels_by text (drop from s) ≡ behind_of (h.written ++ (told.text ++ 46 ∷ [])) (labels_by text (drop (end + 1) s))
          on =
              h.so_far
              ∙ ap (behind_of h.written) (more_by text t k told.text is ∙ rw rest)
              ∙ behind_both h.written (told.text ++ 46 ∷ []) _

          pub join_full : length e ≤ m → Untold d at e (labels_by text (drop from s))
          join_full f =
              record {
                long = λ x y.
                    let v = behind_some _ (labels_by text (drop (end + 1) s)) x (sym on ∙ y) in
                    let z : length x ≡ length h.written + (length told.text + 1) + length v.0 = ap length v.1.1 ∙ rw (length-append, length-append, length-append) in
                    omega (arith, z, counted, long);
                same = long;
              }

          pub join_next : m < length e → Joins text d (set e m 46) s from at (end + 1) (m + 1)
          join_next f =
              record {
                written = h.written ++ (told.text ++ 46 ∷ []);
                writes =
                    over_one e m 46 (omega arith)
                    ∙ put_behind d e at m (h.written ++ told.text) (46 ∷ []) onto (counted ∙ rw length-append) (rw length-append (omega (arith, counted, long)))
                    ∙ ap (put_at d at) (append_assoc h.written told.text (46 ∷ []));
                counts = rw (length-append, length-append) (omega (arith, counted));
                so_far = on;
              }

-- a domain that has a form
pub domain_of_lem : (t w : List ℕ) → domain_of t ≡ Some w → (domain t ≡ true) × (w ≡ domain_form t)
unfolding domain_of
domain_of_lem t w e =
    by_test (domain t)
    (λ h. (h, let p : Some w ≡ Some (domain_form t) = sym e ∙ rw h in cc))
    (λ h. absurd (let p : None ≡ Some w = rw h at e in let z : ◌≡◌ {A = ℕ} 0 1 = cc in omega arith))

pub of_domain : (t w : List ℕ) → domain t ≡ true → domain_form t ≡ w → domain_of t ≡ Some w
unfolding domain_of
of_domain t w h e = rw (h, e)

not_label : (p : List ℕ) → label p ≡ false → label_of p ≡ None
unfolding label_of
not_label p h = rw h

-- what is made of its labels is its form
each_label : (ps : List (List ℕ)) → each_of label_of ps ≡ cond (every label ps) (Some (map labelled ps)) None
unfolding each_of every in_front
each_label [] = refl
each_label (p ∷ ps) =
    by_test (label p)
    (λ h. rw (each_of, label_of_lem p h, every, h, each_label ps) (by_test (every label ps) (λ k. rw k) (λ k. rw k)))
    (λ h. rw (each_of, not_label p h, every, h))

pub domain_by : (t : List ℕ) → labels_by label_of t ≡ domain_of t
unfolding labels_by domain_of domain domain_form
domain_by t = rw (labels_by, each_label (pieces 46 t)) (by_test (every label (pieces 46 t)) (λ h. rw h) (λ h. rw h))
