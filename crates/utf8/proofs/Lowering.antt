-- Lower case of a text (L21).
--     text_some                   by its code points
--     text_formed, text_broken    by whether it is well formed
--     alike_text                  a text and its lower case are alike
--     formed_front                what stands in front of code points makes no difference
--     text_twice                  what is in lower case stays as it is
--     text_ascii                  a text in ASCII
--     text_small                  a text that stays as it is has no ASCII capital
-- Assumes nothing.
use Prim.Native.Nat.{ℕ, zero, suc, ◌+◌, ◌-◌, ◌*◌, ◌<◌, ◌≤◌}
use mathlib.Core.Path.{◌≡◌, refl, sym, ap, ◌∙◌}
use mathlib.Core.Bool.{true, false, ◌&&◌, false≢true}
use mathlib.Core.List.{List, [], ◌∷◌}
use Rattle.std.specs.Prelude.{Some, None, Option}
use mathlib.Core.Logic.{⊎_elim}
use native.Mathlib.Omega.{arith}
use borrow.Author.Tests.{lt-leb}
use lib.Dec.{leb}
use Rattle.octets.specs.Octets.{lower, lowered, same_octets}
use Rattle.octets.specs.Options.{is_some}
use Rattle.octets.proofs.Lists.{lt_or_le}
use Rattle.octets.proofs.Tests.{by_test}
use Rattle.octets.proofs.Letters.{by_case, lower_above, lowered_twice}
use Rattle.octets.proofs.Comparing.{same_refl, same_true}
use Rattle.octets.proofs.Options.{by_option, some_front}
use Rattle.utf8.specs.Utf8.{lead_of, tails, points, well_formed, encoded}
use Rattle.utf8.specs.Lowering.{lower_points, lower_text}
use Rattle.utf8.specs.Steps.{all_ascii, octetwise}
use Rattle.utf8.specs.declared.Lead.{Lead}
use Rattle.utf8.proofs.Leading.{lead_ascii, lead_low}
use Rattle.utf8.proofs.RoundTrip.{tails_none, points_encoded}
use Rattle.utf8.proofs.Scalars.{points_scalars}
use Rattle.utf8.proofs.Back.{encoded_points}
use Rattle.utf8.proofs.Mapping.{lower_points_twice, lower_points_scalar}
use Rattle.utf8.proofs.Octetwise.{octetwise_form, octetwise_ascii, steady_small}
use Rattle.utf8.proofs.Alike.{Alike, alike_lowered, alike_octetwise}

module _ (s : List ℕ) where
  text_none : points s ≡ None → lower_text s ≡ lowered s
  unfolding lower_text
  text_none e = rw (lower_text, e)

  pub text_some : (ps : List ℕ) → points s ≡ Some ps → lower_text s ≡ encoded (lower_points ps)
  unfolding lower_text
  text_some ps e = rw (lower_text, e)

  pub text_formed : well_formed s ≡ true → lower_text s ≡ octetwise 0 s
  unfolding well_formed is_some
  text_formed e =
      by_option (points s)
      (λ q. absurd (false≢true (rw q at e)))
      (λ ps q.
      text_some ps q
      ∙ sym (octetwise_form ps (points_scalars s ps q) 0 (omega arith))
      ∙ ap (octetwise 0) (encoded_points s ps q))

  pub text_broken : well_formed s ≡ false → lower_text s ≡ lowered s
  unfolding well_formed is_some
  text_broken e = by_option (points s) text_none (λ ps q. absurd (false≢true (sym (rw q at e))))

  pub alike_text : Alike s (lower_text s)
  alike_text =
      by_test (well_formed s)
      (λ e. rw (text_formed e) (alike_octetwise 0 s))
      (λ e. rw (text_broken e) (alike_lowered s))

  pub text_ascii : all_ascii s ≡ true → lower_text s ≡ lowered s
  text_ascii e = by_test (well_formed s) (λ f. text_formed f ∙ octetwise_ascii 0 s e) text_broken

  pub text_small : lower_text s ≡ s → lowered s ≡ s
  text_small e =
      by_test (well_formed s)
      (λ f. same_true (lowered s) s (steady_small 0 s (ap (λ w. same_octets w s) (sym (text_formed f) ∙ e) ∙ same_refl s)))
      (λ f. sym (text_broken f) ∙ e)

-- ASCII capitals made small leave an ill-formed text ill-formed
lower_ascii : (x : ℕ) → x < 0x80 → lower x < 0x80
lower_ascii x h = by_case (λ y. y < 0x80) x (λ _. h) (λ _. h) (λ _ k. omega arith)

formed_tails : (s : List ℕ) (n l h p q : ℕ) → (0 < n → 0x80 ≤ l) → is_some (tails (lowered s) n l h q) ≡ is_some (tails s n l h p)
unfolding tails is_some lowered
formed_tails [] zero l h p q e = refl
formed_tails [] (suc n) l h p q e = refl
formed_tails (x ∷ s) (suc n) l h p q e =
    ⊎_elim
    (λ (a : x < 0x80).
    let b : 0x80 ≤ l = e (omega arith) in
    rw (tails, tails, lt-leb l x (omega arith), lt-leb l (lower x) (omega (arith, lower_ascii x a))))
    (λ (a : 0x80 ≤ x).
    rw (← lower_above x (omega arith))
    (by_test (leb l x && leb x h)
    (λ t. rw (tails, tails, t) (formed_tails s n 0x80 0xBF (p * 64 + (x - 0x80)) (q * 64 + (x - 0x80)) (λ _. omega arith)))
    (λ t. rw (tails, tails, t))))
    (lt_or_le x 0x80)
formed_tails (x ∷ s) zero l h p q e = go (λ m l h p q e. formed_tails s m l h p q e)
  where
    go : ((m l h p q : ℕ) → (0 < m → 0x80 ≤ l) → is_some (tails (lowered s) m l h q) ≡ is_some (tails s m l h p))
        → is_some (tails (lower x ∷ lowered s) 0 l h q) ≡ is_some (tails (x ∷ s) 0 l h p)
    go later =
        ⊎_elim
        (λ (a : x < 0x80).
        rw (tails, tails, ← lead_ascii x (omega arith), ← lead_ascii (lower x) (omega (arith, lower_ascii x a)))
        (some_front q _ ∙ later 0 0 0 x (lower x) (λ z. absurd (omega arith)) ∙ sym (some_front p _)))
        (λ (a : 0x80 ≤ x). rw (← lower_above x (omega arith)) (same (lead_of x) refl))
        (lt_or_le x 0x80)
      where
        same : (o : Option Lead) → lead_of x ≡ o → is_some (tails (x ∷ lowered s) 0 l h q) ≡ is_some (tails (x ∷ s) 0 l h p)
        same None o = rw (tails, tails, o)
        same (Some f) o =
            rw (tails, tails, o)
            (some_front q (tails (lowered s) f.following f.low f.high f.bits)
            ∙ later f.following f.low f.high f.bits f.bits (lead_low x f o)
            ∙ sym (some_front p (tails s f.following f.low f.high f.bits)))

-- a text is well formed just where there is something in front of its code points
pub formed_front : (s : List ℕ) → is_some (tails s 0 0 0 0) ≡ well_formed s
unfolding well_formed
formed_front s = ap is_some (tails_none s 0 0 0) ∙ some_front 0 (points s)

formed_lowered : (s : List ℕ) → well_formed (lowered s) ≡ well_formed s
formed_lowered s = sym (formed_front (lowered s)) ∙ formed_tails s 0 0 0 0 0 (λ z. absurd (omega arith)) ∙ formed_front s

pub text_twice : (s : List ℕ) → lower_text (lower_text s) ≡ lower_text s
unfolding well_formed is_some
text_twice s =
    by_option (points s)
    (λ e. rw (text_none s e) (text_broken (lowered s) (formed_lowered s ∙ rw e) ∙ lowered_twice s))
    (λ ps e.
    rw (text_some s ps e)
    (text_some (encoded (lower_points ps)) (lower_points ps) (points_encoded (lower_points ps) (lower_points_scalar ps (points_scalars s ps e)))
    ∙ ap encoded (lower_points_twice ps)))
