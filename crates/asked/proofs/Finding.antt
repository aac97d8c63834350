-- The pieces of a name from a place on: the first of them. (`;` is 59.)
--     values_in, values_out         one piece, and those behind it
--     rest_on .. last_alone         what is behind the piece that ends at a place
--     Seeking what s at place       no such piece stands from `at` up to `place`, and the last piece is the same from both on
--     seek_begin .. seek_over       the steps of the loop that looks for the first one
--     found_first .. found_none     what a caller asks of the answer
--     last_over, last_found         whether there is none behind a piece
--     saying_all                    all pieces are those from the beginning on
--     occurs_found                  whether there is one at all
--     the rulesets                  seeking for `find`, ending for `is_last_such`, occurring for `occurs`
-- Assumes nothing.
use Prim.Native.Nat.{ℕ, ◌+◌, ◌<◌, ◌≤◌}
use mathlib.Core.Path.{◌≡◌, refl, sym, ap, ◌∙◌}
use mathlib.Core.Logic.{⊎_elim}
use mathlib.Core.Bool.{Bool, true, false, not}
use mathlib.Core.List.{List, [], ◌∷◌}
use Rattle.std.specs.Prelude.{Option, Some, None}
use Rattle.std.specs.Option.{is_some}
use Rattle.octets.proofs.Options.{by_option}
use native.Mathlib.Omega.{arith}
use borrow.Author.Rules.{rules}
use borrow.Author.Tests.{lt-ltb, le-ltb, not-true, not-false}
use lib.ListN.{length}
use Rattle.octets.proofs.Lists.{lt_or_le}
use Rattle.pieces.specs.Pieces.{pieces}
use Rattle.pieces.proofs.Pieces.{pieces_first}
use Rattle.attributes.specs.Answers.{part, Within, FirstAt}
use Rattle.attributes.specs.declared.Bounds.{Bounds}
use Rattle.attributes.proofs.Parts.{part_rest}
use Rattle.attributes.proofs.Cutting.{cut_pieces, cut_last}
use Rattle.asked.specs.Asked.{is_empty, is_called, value_of, values_called, saying, occurs, last_of}
use Rattle.asked.specs.Answers.{ValueAs, saying_from, rest_from, last_from, last_behind, FoundAt, FoundAs}
use Rattle.asked.specs.declared.Called.{Called}
use Rattle.asked.specs.declared.Found.{Found}

-- a piece, and those behind it
module _ (what : Called) (p : List ℕ) (rest : List (List ℕ)) where
  pub values_in : is_called what p ≡ true → values_called what (p ∷ rest) ≡ value_of p ∷ values_called what rest
  unfolding values_called
  values_in e = rw (values_called, e)

  pub values_out : is_called what p ≡ false → values_called what (p ∷ rest) ≡ values_called what rest
  unfolding values_called
  values_out e = rw (values_called, e)

-- there are always pieces behind a `;`, and the last of them is the last of all
last_later : (p : List ℕ) (d : ℕ) (t : List ℕ) → last_of (p ∷ pieces d t) ≡ last_of (pieces d t)
unfolding last_of
last_later p d t = rw (pieces_first d t)

-- what is behind a piece that ends at the place `end`
module _ (what : Called) (s : List ℕ) (end : ℕ) where
  pub rest_on : end < length s → rest_from what s end ≡ saying_from what s (end + 1)
  unfolding rest_from
  rest_on l = rw (lt-ltb end (length s) l)

  pub rest_over : length s ≤ end → rest_from what s end ≡ []
  unfolding rest_from
  rest_over l = rw (le-ltb end (length s) l)

  pub last_on : end < length s → last_behind what s end ≡ last_from what s (end + 1)
  unfolding last_behind
  last_on l = rw (lt-ltb end (length s) l)

  pub last_alone : length s ≤ end → last_behind what s end ≡ true
  unfolding last_behind
  last_alone l = rw (le-ltb end (length s) l)

pub record Seeking (what : Called) (s : List ℕ) (at place : ℕ) : Type 0 where
  pub same : saying_from what s at ≡ saying_from what s place
  pub last : last_from what s at ≡ last_from what s place
  pub upto : place ≤ length s

pub seek_begin : (what : Called) (s : List ℕ) (at : ℕ) → at ≤ length s → Seeking what s at at
seek_begin what s at l = record { same = refl; last = refl; upto = l }

module _ (what : Called) (s : List ℕ) (at place : ℕ) (h : Seeking what s at place) where
  pub seek_left : Within s place (length s)
  seek_left = record { order = h.upto; upto = omega arith }

  module _ (end : ℕ) (f : FirstAt s place (length s) 59 end) where
    pub seek_within : Within s place end
    seek_within = record { order = omega (arith, f.is); upto = f.upto }

    -- the pieces from the place on, and which of them is last
    module _ (rest : List (List ℕ)) (q : pieces 59 (part s place (length s)) ≡ part s place end ∷ rest) where
      saying_by : saying_from what s at ≡ values_called what (part s place end ∷ rest)
      unfolding saying_from
      saying_by = h.same ∙ rw q

      last_by : last_from what s at ≡ is_called what (last_of (part s place end ∷ rest))
      unfolding last_from
      last_by = h.last ∙ rw q

    more : end < length s → pieces 59 (part s place (length s)) ≡ part s place end ∷ pieces 59 (part s (end + 1) (length s))
    more l = cut_pieces s place (length s) 59 end seek_left f l

    alone : length s ≤ end → pieces 59 (part s place (length s)) ≡ part s place end ∷ []
    alone l = cut_last s place (length s) 59 end seek_left f l

    last_more : end < length s → last_from what s at ≡ last_from what s (end + 1)
    unfolding last_from
    last_more l = last_by _ (more l) ∙ ap (is_called what) (last_later (part s place end) 59 (part s (end + 1) (length s)))

    module _ (b : Bool) (c : b ≡ is_called what (part s place end)) where
      module _ (y : b ≡ true) (v : Bounds) (t : ValueAs s place end v) where
        first_on : end < length s → saying_from what s at ≡ part s v.from v.to ∷ rest_from what s end
        unfolding saying_from
        first_on l = saying_by _ (more l) ∙ values_in what _ _ (sym c ∙ y) ∙ rw (rest_on what s end l, t.is)

        first_alone : length s ≤ end → saying_from what s at ≡ part s v.from v.to ∷ rest_from what s end
        unfolding values_called
        first_alone l = saying_by [] (alone l) ∙ values_in what (part s place end) [] (sym c ∙ y) ∙ rw (rest_over what s end l, t.is)

        found_last : length s ≤ end → last_from what s at ≡ last_behind what s end
        unfolding last_of
        found_last l = last_by [] (alone l) ∙ sym c ∙ y ∙ sym (last_alone what s end l)

        pub seek_found : FoundAs what s at (Some (record { value = v; end = end }))
        unfolding FoundAs
        seek_found =
            ⊎_elim
            (λ (l : end < length s). record { first = first_on l; last = last_more l ∙ sym (last_on what s end l); within = t.within; upto = f.upto })
            (λ (l : length s ≤ end). record { first = first_alone l; last = found_last l; within = t.within; upto = f.upto })
            (lt_or_le end (length s))

      module _ (n : b ≡ false) where
        pub seek_next : end < length s → Seeking what s at (end + 1)
        unfolding saying_from
        seek_next l =
            record { same = saying_by _ (more l) ∙ values_out what _ _ (sym c ∙ n); last = last_more l; upto = omega arith }

        pub seek_over : length s ≤ end → FoundAs what s at None
        unfolding FoundAs values_called
        seek_over l = saying_by [] (alone l) ∙ values_out what (part s place end) [] (sym c ∙ n)

pub ruleset seeking = (seek_begin, seek_left, seek_within, seek_found, seek_next, seek_over, rules)

-- `find`'s answer, read
module _ (what : Called) (s : List ℕ) (at : ℕ) (k : Option Found) (p : FoundAs what s at k) where
  module _ (f : Found) (q : k ≡ Some f) where
    found : FoundAt what s at f.value.from f.value.to f.end
    unfolding FoundAs
    found = rw q at p

    pub found_first : saying_from what s at ≡ part s f.value.from f.value.to ∷ rest_from what s f.end
    found_first = found.first

    pub found_behind : last_from what s at ≡ last_behind what s f.end
    found_behind = found.last

    pub found_order : f.value.from ≤ f.value.to
    found_order = found.within.order

    pub found_upto : f.value.to ≤ length s
    found_upto = found.within.upto

    pub found_end : f.end ≤ length s
    found_end = found.upto

  pub found_none : k ≡ None → saying_from what s at ≡ []
  unfolding FoundAs
  found_none q = rw q at p

-- `is_last_such`
pub last_over : (what : Called) (s : List ℕ) (end : ℕ) → length s ≤ end → true ≡ is_empty (rest_from what s end)
unfolding is_empty
last_over what s end l = rw (rest_over what s end l)

module _ (what : Called) (s : List ℕ) (end : ℕ) (k : Option Found) (p : FoundAs what s (end + 1) k) (l : end < length s) where
  pub last_found : (b : Bool) → is_some k ≡ not b → b ≡ is_empty (rest_from what s end)
  unfolding is_empty
  last_found b e =
      by_option k
      (λ q. rw (rest_on what s end l, found_none what s (end + 1) k p q) (not-false b (sym (rw q at e))))
      (λ f q. rw (rest_on what s end l, found_first what s (end + 1) k p f q) (not-true b (sym (rw q at e))))

pub ruleset ending = (last_over, last_found, rules)

-- all pieces are those from the beginning on
pub saying_all : (what : Called) (s : List ℕ) → saying what s ≡ saying_from what s 0
unfolding saying saying_from
saying_all what s = rw (part_rest s 0)

-- `occurs`
module _ (what : Called) (s : List ℕ) (k : Option Found) (p : FoundAs what s 0 k) where
  pub occurs_found : (b : Bool) → b ≡ is_some k → b ≡ occurs what s
  unfolding occurs is_empty
  occurs_found b e =
      by_option k
      (λ q. rw (saying_all what s, found_none what s 0 k p q) (rw q at e))
      (λ f q. rw (saying_all what s, found_first what s 0 k p f q) (rw q at e))

pub ruleset occurring = (occurs_found, rules)
