-- Key data that is last, and Base64.
--     none_last, last_without      where no piece has a name, the last has it not
--     key_last                     the last of all pieces is the last from the beginning on
--     data_none .. data_told       the answer of `has_key_data`
--     the ruleset                  telling, for `has_key_data`
-- Assumes nothing.
use Prim.Native.Nat.{ℕ, ◌+◌, ◌-◌, ◌<◌, ◌≤◌}
use mathlib.Core.Path.{◌≡◌, sym, ◌∙◌}
use mathlib.Core.Bool.{Bool, true, false, ◌&&◌, false≢true, and-false}
use mathlib.Core.List.{List, [], ◌∷◌}
use Rattle.std.specs.Prelude.{Option, Some, None}
use borrow.Author.Rules.{rules}
use lib.ListN.{length, take, drop}
use Rattle.octets.specs.Octets.{without_blanks}
use Rattle.octets.specs.Options.{is_some, only_one}
use Rattle.octets.proofs.Tests.{by_test}
use Rattle.letters.specs.Base64.{decode}
use Rattle.pieces.proofs.Pieces.{pieces_first}
use Rattle.attributes.specs.Answers.{part}
use Rattle.attributes.proofs.Parts.{part_rest}
use Rattle.asked.specs.Asked.{is_empty, is_called, values_called, saying, last_of, is_base64, has_key_data}
use Rattle.asked.specs.Answers.{saying_from, rest_from, last_from, last_behind, FoundAs}
use Rattle.asked.specs.declared.Called.{Called}
use Rattle.asked.specs.declared.Called.TheVariants.{Keydata}
use Rattle.asked.specs.declared.Found.{Found}
use Rattle.asked.proofs.Finding.{values_in, values_out, rest_on, last_on, last_alone, found_behind, found_order, found_upto, last_over}
use Rattle.asked.proofs.Single.{only_none, only_more, only_one_lem}

module _ (what : Called) where
  none_first : (p : List ℕ) (rest : List (List ℕ)) → is_empty (values_called what (p ∷ rest)) ≡ true → is_called what p ≡ false
  unfolding is_empty
  none_first p rest e =
      by_test (is_called what p) (λ y. absurd (let z : false ≡ true = rw (values_in what p rest y) at e in false≢true z)) (λ n. n)

  none_last : (p : List ℕ) (rest : List (List ℕ)) → is_empty (values_called what (p ∷ rest)) ≡ true → is_called what (last_of (p ∷ rest)) ≡ false
  unfolding last_of
  none_last p [] e = none_first p [] e
  none_last p (q ∷ rest) e = none_last q rest (rw (values_out what p (q ∷ rest) (none_first p (q ∷ rest) e)) at e)

  last_without : (s : List ℕ) (at : ℕ) → is_empty (saying_from what s at) ≡ true → last_from what s at ≡ false
  unfolding saying_from last_from
  last_without s at e = rw (pieces_first 59 (part s at (length s))) (none_last _ _ (rw (pieces_first 59 (part s at (length s))) at e))

key_last : (s : List ℕ) → has_key_data s ≡ (last_from Keydata s 0 && is_base64 (only_one (saying Keydata s)))
unfolding has_key_data last_from
key_last s = rw (part_rest s 0)

-- no `keydata`, or more than one
not_one : (s : List ℕ) → only_one (saying Keydata s) ≡ None → false ≡ has_key_data s
unfolding is_base64
not_one s e = sym (key_last s ∙ rw e (and-false (last_from Keydata s 0)))

module _ (s : List ℕ) (k : Option Found) (p : FoundAs Keydata s 0 k) where
  pub data_none : k ≡ None → false ≡ has_key_data s
  data_none q = not_one s (only_none Keydata s k p q)

  module _ (f : Found) (q : k ≡ Some f) where
    last_is : last_from Keydata s 0 ≡ last_behind Keydata s f.end
    last_is = found_behind Keydata s 0 k p f q

    -- among the pieces behind it is another `keydata`, or their last is none
    module _ (l : f.end < length s) where
      last_other : is_empty (rest_from Keydata s f.end) ≡ true → last_from Keydata s 0 ≡ false
      last_other y = last_is ∙ last_on Keydata s f.end l ∙ last_without Keydata s (f.end + 1) (rw (rest_on Keydata s f.end l) at y)

      pub data_early : false ≡ has_key_data s
      data_early =
          by_test (is_empty (rest_from Keydata s f.end))
          (λ y. sym (key_last s ∙ rw (last_other y)))
          (λ n. not_one s (only_more Keydata s k p f q n))

    pub data_told : length s ≤ f.end → (b : Bool) → b ≡ is_some (decode (without_blanks (take (f.value.to - f.value.from) (drop f.value.from s)))) → b ≡ has_key_data s
    unfolding is_base64 part
    data_told l b u =
        let one = only_one_lem Keydata s k p f q (sym (last_over Keydata s f.end l)) in
        u ∙ sym (key_last s ∙ rw (last_is, last_alone Keydata s f.end l, one))

pub ruleset telling = (data_none, data_early, data_told, found_order, found_upto, rules)
