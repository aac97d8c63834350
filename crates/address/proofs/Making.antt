-- The canonical form where it is written, and where it is compared.
--     form_of_lem, of_form            what `form_of` gives
--     part_none .. part_domain        the form of an address, side by side
--     local_of_lem                    what `local_of` gives of it
--     wide_long .. plain_first        whether a text is a plain address
--     canonical_is                    whether it is canonical
--     wide_made, wide_never           the form in a buffer of which only the front counts
--     kept_room .. kept_made          and that of an ASCII address
--     none_written .. form_kept       what is written to the front of lent memory
--     wide_hasnt .. known_other       whether a text has a form
-- Assumes nothing.
use Prim.Native.Nat.{ℕ, ◌+◌, ◌<◌, ◌≤◌}
use mathlib.Core.Path.{◌≡◌, refl, sym, ap, ◌∙◌}
use mathlib.Core.Bool.{Bool, true, false, false≢true}
use mathlib.Core.List.{List, [], ◌∷◌, ◌++◌, append_assoc}
use Rattle.std.specs.Prelude.{Some, None, Option}
use native.Mathlib.Nat.{zero-add, sub-zero}
use native.Mathlib.Omega.{arith}
use borrow.Author.Rules.{rules}
use borrow.Author.Tests.{le-leb, lt-ltb, ltb-true}
use mir.Syntax.{w64}
use mir.Val.{Fits}
use lib.Dec.{ltb}
use lib.ListN.{length, take, drop, set, length-append, length-set}
use lib.Seq.{take_at, length-take-le}
use Rattle.octets.specs.Octets.{same_octets, same_name, lowered}
use Rattle.octets.specs.Written.{put_at, onto}
use Rattle.octets.specs.Puts.{Told, Untold, PutsText}
use Rattle.octets.proofs.Putting.{over_one, put_long, put_both}
use Rattle.octets.proofs.Puts.{told_long, told_front, text_long}
use Rattle.octets.proofs.Comparing.{same_true}
use Rattle.octets.proofs.Letters.{length_lowered}
use Rattle.octets.proofs.Tests.{by_test, and_left, and_right}
use Rattle.utf8.specs.Lowering.{lower_text}
use Rattle.utf8.specs.Steps.{all_ascii}
use Rattle.utf8.proofs.Alike.{alike_length, alike_lowered, alike_ascii}
use Rattle.utf8.proofs.Lowering.{alike_text}
use Rattle.pieces.specs.Pieces.{before, behind}
use Rattle.pieces.proofs.Pieces.{behind_drop, before_long, place_before}
use Rattle.asciiaddress.specs.Ascii.{local_part, ascii_domain, ascii_plain}
use Rattle.asciiaddress.specs.Answers.{local_of, ascii_canonical}
use Rattle.asciiaddress.proofs.Plain.{opens, is_part, part_is, plain_whole}
use Rattle.asciiaddress.proofs.Sides.{local_most}
use Rattle.asciiaddress.proofs.Alike.{plain_alike}
use Rattle.asciiaddress.proofs.Before.{was_plain, was_same}
use Rattle.address.specs.Address.{domain, domain_form, address_form, plain, canonical, is_canonical}
use Rattle.address.specs.Answers.{domain_of, form_of, Fronts, written_of, onto_if_fits}
use Rattle.address.proofs.Room.{written_fits, written_none, onto_fits, onto_none}
use Rattle.address.proofs.Spelling.{short, left, right, canonical_form, not_plain, plain_is_canonical, canonical_plain}
use Rattle.address.proofs.Sides.{counted}
use Rattle.address.proofs.Ascii.{plain_ascii, ascii_canonical_lem, is_canonical_ascii, was_canonical_lem}
use Rattle.address.proofs.Growing.{plain_long}
use Rattle.address.proofs.Joining.{domain_of_lem, of_domain}

module _ (s : List ℕ) where
  pub form_of_lem : plain s ≡ true → form_of s ≡ Some (canonical s)
  unfolding form_of
  form_of_lem p = rw p

  pub of_form : (w : List ℕ) → form_of s ≡ Some w → (plain s ≡ true) × (w ≡ canonical s)
  unfolding form_of
  of_form w e =
      by_test (plain s)
      (λ p. (p, let q : Some w ≡ Some (canonical s) = sym e ∙ form_of_lem p in cc))
      (λ p. absurd (let q : None ≡ Some w = rw p at e in let z : ◌≡◌ {A = ℕ} 0 1 = cc in omega arith))

  -- a plain address has a local part, with an "@" behind it
  pub local_of_lem : plain s ≡ true → local_of s ≡ Some (length (before 64 s))
  local_of_lem p =
      let n : length (before 64 s) < length s = omega (arith, counted s (right s p)) in
      is_part s (rw (lt-ltb (length (before 64 s)) (length s) n, left s p))

-- the form of an address: d is the buffer as it came, and g what was found of the local part
module _ (s d : List ℕ) (l : length d ≡ 254) (g : Option ℕ) (e : g ≡ local_of s) where
  pub part_none : g ≡ None → Untold d 0 d (form_of s)
  part_none q =
      record {
        long = λ w x. absurd (let z : ◌≡◌ {A = ℕ} 0 1 = cc (local_of_lem s (of_form s w x).0) in omega arith);
        same = refl;
      }

  module _ (n : ℕ) (q : g ≡ Some n) where
    is : (opens s ≡ true) × (n ≡ length (before 64 s))
    is = part_is s g e n q

    good : local_part (before 64 s) ≡ true
    good = and_right (ltb (length (before 64 s)) (length s)) _ is.0

    pub part_within : n < length s
    part_within =
        omega (arith, is.1, ltb-true (length (before 64 s)) (length s) (and_left (ltb (length (before 64 s)) (length s)) _ is.0))

    most : n ≤ 64
    most = omega (arith, is.1, local_most (before 64 s) good)

    part : take n s ≡ before 64 s
    part = rw (is.1, before_long) (place_before 64 s)

    pub part_upto : n ≤ length s
    part_upto = omega (arith, part_within)

    pub part_sum : Fits w64 (n + 1)
    part_sum = omega (arith, most)

    pub part_room : 0 + length (take n s) ≤ length d
    part_room = rw part (omega (arith, is.1, most))

    pub part_behind : n + 1 ≤ length s
    part_behind = omega (arith, part_within)

    module _ (u : List ℕ) (p : u ≡ put_at d 0 (lower_text (take n s))) where
      small_long : length (lower_text (before 64 s)) ≡ n
      small_long = alike_length (alike_text (before 64 s)) ∙ sym is.1

      kept : length u ≡ length d
      kept = rw (p, part) (put_long d 0 (lower_text (before 64 s)) (omega (arith, small_long, most)))

      pub part_at : n < length u
      part_at = omega (arith, kept, most)

      pub part_next : n + 1 ≤ length (set u n 64)
      part_next = rw length-set (omega (arith, kept, most))

      pub part_kept : length (set u n 64) ≡ length d
      part_kept = length-set u n 64 ∙ kept

      front : set u n 64 ≡ put_at d 0 (lower_text (before 64 s) ++ 64 ∷ [])
      front =
          over_one u n 64 (omega (arith, part_at))
          ∙ rw (p, part, ← small_long)
          (ap (λ i. put_at (put_at d 0 (lower_text (before 64 s))) i (64 ∷ [])) (sym (zero-add (length (lower_text (before 64 s)))))
          ∙ put_both d 0 (lower_text (before 64 s)) (64 ∷ []) (rw length-append (omega (arith, small_long, most))))

      rest : drop (n + 1) s ≡ behind 64 s
      rest = rw is.1 (sym (behind_drop 64 s))

      form_long : length (address_form s) ≡ n + 1 + length (domain_form (behind 64 s))
      unfolding address_form
      form_long = rw length-append (omega (arith, small_long))

      place : n + 1 ≡ 0 + length (lower_text (before 64 s) ++ 64 ∷ [])
      place = rw length-append (omega (arith, small_long))

      whole : domain (behind 64 s) ≡ true → length (address_form s) ≤ 254 → plain s ≡ true
      unfolding plain
      whole b o = rw (le-leb (length (address_form s)) 254 o, good, b)

      pub part_domain : (v : List ℕ) (r : Option ℕ) → PutsText (set u n 64) v (n + 1) (domain_of (drop (n + 1) s)) r → PutsText d v 0 (form_of s) r
      unfolding address_form
      part_domain v (Some m) h =
          let y = domain_of_lem (drop (n + 1) s) h.text h.is in
          let k : h.text ≡ domain_form (behind 64 s) = y.1 ∙ ap domain_form rest in
          let c : m ≡ length (address_form s) = h.counts ∙ rw k (sym form_long) in
          let f : plain s ≡ true = whole (ap domain (sym rest) ∙ y.0) (omega (arith, c, h.room, part_kept)) in
          record {
            text = address_form s;
            is = form_of_lem s f ∙ ap Some (canonical_form s f);
            writes =
                h.writes
                ∙ rw (k, front)
                (ap (λ i. put_at (put_at d 0 (lower_text (before 64 s) ++ 64 ∷ [])) i (domain_form (behind 64 s))) place
                ∙ put_both d 0 (lower_text (before 64 s) ++ 64 ∷ []) (domain_form (behind 64 s)) (rw append_assoc (omega (arith, c, h.room, part_kept)))
                ∙ rw append_assoc);
            counts = c ∙ sym (zero-add (length (address_form s)));
            room = omega (arith, h.room, part_kept);
          }
      part_domain v None h =
          record {
            long = λ w x.
                let y = of_form s w x in
                let k = h.long (domain_form (behind 64 s)) (of_domain (drop (n + 1) s) _ (ap domain rest ∙ right s y.0) (ap domain_form rest)) in
                omega (arith, k, form_long, ap length (y.1 ∙ canonical_form s y.0), part_kept);
            same = h.same ∙ part_kept;
          }

-- the buffer keeps its length
pub part_long : (d u v : List ℕ) (n : ℕ) → length v ≡ length (set u n 64) → length u ≡ length d → length v ≡ length d
part_long d u v n p q = p ∙ length-set u n 64 ∙ q

pub ruleset putting_form =
    (part_none, part_within, part_upto, part_sum, part_room, part_behind, part_at, part_next, part_long, part_domain, rules)

module _ (s : List ℕ) where
  pub wide_long : 1016 < length s → false ≡ plain s
  wide_long l = by_test (plain s) (λ p. absurd (omega (arith, plain_long s p))) (λ p. sym p)

  module _ (d e : List ℕ) (r : Option ℕ) (h : PutsText d e 0 (form_of s) r) where
    pub wide_form : (m : ℕ) → r ≡ Some m → true ≡ plain s
    wide_form m q = let k : Told d 0 e m (form_of s) = rw q at h in sym (of_form s k.text k.is).0

    pub wide_none : r ≡ None → length d ≡ 254 → false ≡ plain s
    wide_none q l =
        let k : Untold d 0 e (form_of s) = rw q at h in
        by_test (plain s)
        (λ p. absurd (omega (arith, k.long (canonical s) (form_of_lem s p), short s p, ap length (canonical_form s p))))
        (λ p. sym p)

  pub plain_none : (g : Option ℕ) → g ≡ None → g ≡ local_of s → false ≡ plain s
  plain_none g q e =
      by_test (plain s) (λ p. absurd (let z : ◌≡◌ {A = ℕ} 0 1 = cc (local_of_lem s p) in omega arith)) (λ p. sym p)

  pub plain_part : (g : Option ℕ) (n : ℕ) → g ≡ Some n → g ≡ local_of s → local_of s ≡ Some n
  plain_part g n q e = sym e ∙ q

  module _ (n : ℕ) (e : local_of s ≡ Some n) where
    pub plain_sum : Fits w64 (n + 1)
    plain_sum =
        let h = part_is s (local_of s) refl n e in
        omega (arith, h.1, local_most (before 64 s) (and_right (ltb (length (before 64 s)) (length s)) _ h.0))

    pub plain_first : (b : Bool) → length s ≤ 254 → b ≡ true → b ≡ ascii_domain (drop (n + 1) s) → true ≡ plain s
    plain_first b l t d = sym (plain_ascii s (sym (plain_whole s (local_of s) refl n b l e d) ∙ t))

  pub canonical_is : (b : Bool) → b ≡ ascii_canonical s → b ≡ is_canonical s
  canonical_is b e = e ∙ sym (is_canonical_ascii s)

pub ruleset being_wide = (wide_long, wide_form, wide_none, rules)

pub ruleset being_plain = (plain_none, plain_part, plain_sum, plain_first, rules)

pub ruleset being_canonical = (canonical_is, rules)

-- in a buffer of which only the front counts: f as it came, and e
module _ (s : List ℕ) (p : plain s ≡ true) where
  module _ (f e : List ℕ) (l : length f ≡ 254) (r : Option ℕ) (h : PutsText f e 0 (form_of s) r) where
    pub wide_made : (n : ℕ) → r ≡ Some n → Fronts (canonical s) e n
    wide_made n q =
        let k : Told f 0 e n (form_of s) = rw q at h in
        record {
          there = rw sub-zero at (told_front f e n _ k) ∙ (of_form s k.text k.is).1;
          within = omega (arith, told_long f 0 e n _ k, k.room);
        }

    pub wide_never : r ≡ None → Fronts (canonical s) e 0
    wide_never q = absurd (false≢true (wide_none s f e r h q l ∙ p))

  module _ (m : length s ≤ 254) (f : List ℕ) (l : length f ≡ 254) where
    pub kept_room : 0 + length s ≤ length f
    kept_room = omega arith

    module _ (e : List ℕ) (w : e ≡ put_at f 0 (lowered s)) where
      pub kept_long : length e ≡ 254
      kept_long = rw w (put_long f 0 (lowered s) (rw length_lowered (omega arith)) ∙ l)

      pub kept_made : (b : Bool) → b ≡ true → b ≡ all_ascii s → Fronts (canonical s) e (length s)
      unfolding put_at
      kept_made b t a =
          record {
            there =
                rw (w, ascii_canonical_lem s (sym a ∙ t) p)
                (take_at (lowered s) (drop (0 + length (lowered s)) f) (length s) (length_lowered s));
            within = omega (arith, kept_long);
          }

pub ruleset making = (wide_made, wide_never, kept_room, kept_long, kept_made, text_long, rules)

-- a text that is written in lower case
module _ (s d : List ℕ) where
  module _ (l : length d < length s) where
    pub none_written : None ≡ written_of (lowered s) (length d)
    none_written = sym (written_none (lowered s) (length d) (rw length_lowered l))

    pub none_kept : d ≡ onto_if_fits (lowered s) d
    none_kept = sym (onto_none (lowered s) d (rw length_lowered l))

  module _ (l : length s ≤ length d) where
    pub room_front : 0 + length s ≤ length d
    room_front = omega arith

    pub room_written : Some (length s) ≡ written_of (lowered s) (length d)
    room_written = ap Some (sym (length_lowered s)) ∙ sym (written_fits (lowered s) (length d) (rw length_lowered l))

    pub room_kept : (out : List ℕ) → out ≡ put_at d 0 (lowered s) → out ≡ onto_if_fits (lowered s) d
    unfolding put_at onto
    room_kept out e = e ∙ rw zero-add (sym (onto_fits (lowered s) d (rw length_lowered l)))

pub ruleset putting_small = (none_written, none_kept, room_front, room_written, room_kept, rules)

-- the canonical form of a plain address has no capital
form_small : (s : List ℕ) → plain s ≡ true → lowered (canonical s) ≡ canonical s
form_small s p = was_same (canonical s) (was_canonical_lem (canonical s) (plain_is_canonical s p))

module _ (s d : List ℕ) (p : plain s ≡ true) where
  module _ (b : Bool) (t : b ≡ true) (a : b ≡ all_ascii s) where
    pub small_written : (g : Option ℕ) → g ≡ written_of (lowered s) (length d) → g ≡ written_of (canonical s) (length d)
    small_written g e = e ∙ rw (ascii_canonical_lem s (sym a ∙ t) p)

    pub small_kept : (out : List ℕ) → out ≡ onto_if_fits (lowered s) d → out ≡ onto_if_fits (canonical s) d
    small_kept out e = e ∙ rw (ascii_canonical_lem s (sym a ∙ t) p)

  module _ (f₀ f : List ℕ) (l : length f₀ ≡ 254) (r : Option ℕ) (h : PutsText f₀ f 0 (form_of s) r) where
    module _ (q : r ≡ None) where
      never : plain s ≡ false
      never = sym (wide_none s f₀ f r h q l)

      pub never_written : None ≡ written_of (canonical s) (length d)
      never_written = absurd (false≢true (sym never ∙ p))

      pub never_kept : d ≡ onto_if_fits (canonical s) d
      never_kept = absurd (false≢true (sym never ∙ p))

    module _ (n : ℕ) (q : r ≡ Some n) where
      told : Told f₀ 0 f n (form_of s)
      told = rw q at h

      pub form_end : n ≤ length f
      form_end = omega (arith, told_long f₀ 0 f n _ told, told.room)

      pub form_count : n ≡ length (take n f)
      form_count = sym (length-take-le n f form_end)

      is_front : lowered (take n f) ≡ canonical s
      is_front = rw (rw sub-zero at (told_front f₀ f n _ told), (of_form s told.text told.is).1) (form_small s p)

      pub form_written : (g : Option ℕ) → g ≡ written_of (lowered (take n f)) (length d) → g ≡ written_of (canonical s) (length d)
      form_written g e = e ∙ rw is_front

      pub form_kept : (out : List ℕ) → out ≡ onto_if_fits (lowered (take n f)) d → out ≡ onto_if_fits (canonical s) d
      form_kept out e = e ∙ rw is_front

pub ruleset writing_canonical = (small_written, small_kept, never_written, never_kept, form_end, form_count, form_written, form_kept, rules)

-- whether a text has a form
module _ (s form : List ℕ) (c : is_canonical form ≡ true) where
  -- a text that is no plain address has none
  other : plain s ≡ false → false ≡ same_octets (canonical s) form
  other p =
      by_test (same_octets (canonical s) form)
      (λ h.
      let e : s ≡ form = sym (not_plain s p) ∙ same_true (canonical s) form h in
      absurd (false≢true (sym p ∙ ap plain e ∙ canonical_plain form c)))
      (λ h. sym h)

  module _ (f₀ f : List ℕ) (l : length f₀ ≡ 254) (r : Option ℕ) (h : PutsText f₀ f 0 (form_of s) r) where
    pub wide_hasnt : r ≡ None → false ≡ same_octets (canonical s) form
    wide_hasnt q = other (sym (wide_none s f₀ f r h q l))

    module _ (n : ℕ) (q : r ≡ Some n) where
      own : Told f₀ 0 f n (form_of s)
      own = rw q at h

      pub wide_end : n ≤ length f
      wide_end = omega (arith, told_long f₀ 0 f n _ own, own.room)

      pub wide_count : n ≡ length (take n f)
      wide_count = sym (length-take-le n f wide_end)

      pub wide_has : (b : Bool) → b ≡ same_octets (take n f) form → b ≡ same_octets (canonical s) form
      wide_has b e = e ∙ rw (rw sub-zero at (told_front f₀ f n _ own), (of_form s own.text own.is).1)

  module _ (b : Bool) (e : b ≡ same_name s form) where
    small : b ≡ same_octets (lowered s) form
    unfolding same_name
    small = e ∙ rw (was_same form (was_canonical_lem form c))

    pub known_same : (a : Bool) → a ≡ true → a ≡ all_ascii form → b ≡ true → true ≡ same_octets (canonical s) form
    known_same a t q u =
        let k : lowered s ≡ form = same_true (lowered s) form (sym small ∙ u) in
        let w : all_ascii s ≡ true = sym (alike_ascii (alike_lowered s)) ∙ ap all_ascii k ∙ sym q ∙ t in
        let o : ascii_plain s ≡ true = sym (plain_alike (alike_lowered s)) ∙ ap ascii_plain k ∙ was_plain form (was_canonical_lem form c) in
        sym (ap (λ v. same_octets v form) (ascii_canonical_lem s w (plain_ascii s o)) ∙ sym small ∙ u)

    pub known_other : (a : Bool) → b ≡ false → a ≡ true → a ≡ all_ascii s → false ≡ same_octets (canonical s) form
    known_other a u t q =
        by_test (plain s)
        (λ p. sym (ap (λ v. same_octets v form) (ascii_canonical_lem s (sym q ∙ t) p) ∙ sym small ∙ u))
        (λ p. other p)

pub ruleset having_wide_form = (wide_hasnt, wide_end, wide_count, wide_has, rules)

pub ruleset having_form = (known_same, known_other, rules)
