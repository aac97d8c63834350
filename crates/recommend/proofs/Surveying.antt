-- One walk over the list of recipients.
--     follows                       what comes behind some addresses, if it is readable
--     Surveying t s m reply least count looked here     what the loop of `survey` knows
--     survey_begin .. survey_unread     its steps
--     the ruleset                   surveying, for `survey`
-- Assumes nothing.
use Prim.Native.Nat.{ℕ, suc, ◌+◌, ◌≤◌}
use mathlib.Core.Path.{◌≡◌, refl, sym, ap, ◌∙◌}
use mathlib.Core.Bool.{Bool, true, false, not, false≢true, and-false}
use mathlib.Core.List.{List, [], ◌∷◌, ◌++◌, append-nil, append_assoc, map-append}
use Rattle.std.specs.Prelude.{Option, Some, None}
use native.Mathlib.Omega.{arith}
use native.Mathlib.Numerals.{add-one}
use borrow.Author.Rules.{rules}
use borrow.Author.Tests.{lt-leb, le-leb, not-false}
use lib.ListN.{length, length-append, length-map}
use mir.Syntax.{w64}
use mir.Val.{Fits}
use Rattle.octets.specs.Options.{or_else, in_front}
use Rattle.octets.proofs.Tests.{by_test}
use Rattle.addresslist.specs.List.{addresses}
use Rattle.addresslist.specs.Answers.{between, beginning, left, Hands}
use Rattle.addresslist.specs.declared.ListCursor.{ListCursor}
use Rattle.addresslist.specs.declared.NextAddress.{NextAddress}
use Rattle.addresslist.specs.declared.NextAddress.TheVariants.{Address, End, Unreadable}
use Rattle.addresslist.proofs.Handing.{left_beginning, hand_gives, hand_plain, hand_from, hand_upto, hand_less, hand_end, hand_unread}
use Rattle.advice.specs.Advice.{any_disable, all_encrypt, overall, first_disable, advice_in, advised}
use Rattle.advice.specs.contracts.AdviceOrd.TheImpl as order
use Rattle.advice.specs.contracts.AdvicePartialEq.TheImpl as equality
use Rattle.std.specs.Ordering.{ord_min}
use Rattle.advice.specs.declared.Advice.{Advice}
use Rattle.advice.specs.declared.Advice.TheVariants.{Disable, Encrypt}
use Rattle.advice.proofs.First.{disable_is, overall_any, any_overall, still_disable, first_stays, first_grows}
use Rattle.advice.proofs.Overall.{overall_last, least_is, disable_told}
use Rattle.recommend.specs.Recommending.{most_recipients, recipient_list, survey_of}

-- addresses, and those behind them if these can be read
unfoldable pub follows : List (List ℕ) → Option (List (List ℕ)) → Option (List (List ℕ))
follows front None = None
follows front (Some rest) = Some (front ++ rest)

follows_nothing : (o : Option (List (List ℕ))) → o ≡ follows [] o
unfolding follows
follows_nothing None = refl
follows_nothing (Some rest) = refl

follows_one : (front : List (List ℕ)) (a : List ℕ) (o : Option (List (List ℕ))) → follows front (in_front a o) ≡ follows (front ++ a ∷ []) o
unfolding follows in_front
follows_one front a None = refl
follows_one front a (Some rest) = ap Some (sym (append_assoc front (a ∷ []) rest))

-- R10: more than 100, whatever follows
too_many : (front : List (List ℕ)) (o : Option (List (List ℕ))) → most_recipients + 1 ≤ length front → recipient_list (follows front o) ≡ false
unfolding follows recipient_list
too_many front None h = refl
too_many front (Some rest) h = rw (lt-leb (length (front ++ rest)) most_recipients (simp length-append (omega arith)), and-false)

-- The loop: these addresses were handed out, and this is what they come to.
pub record Surveying (t s : List ℕ) (m reply : Bool) (least : Advice) (count looked : ℕ) (here : ListCursor) : Type 0 where
  pub front : List (List ℕ)
  pub behind : addresses s ≡ follows front (left s here)
  pub many : count ≡ length front
  pub few : count ≤ most_recipients
  pub so_far : least ≡ overall (advised t m reply front)
  pub seen : looked ≡ first_disable (advised t m reply front)

module _ (t s : List ℕ) (m reply : Bool) where
  module _ (o : Option (List (List ℕ))) where
    unfit : recipient_list o ≡ false → None ≡ survey_of t m reply o
    unfolding survey_of
    unfit e = rw (survey_of, e)

    fit : recipient_list o ≡ true
        → Some (record { advice = overall (advised t m reply (or_else [] o)); looked_up = first_disable (advised t m reply (or_else [] o)) }) ≡ survey_of t m reply o
    unfolding survey_of
    fit e = rw (survey_of, e)

  pub survey_begin : (here : ListCursor) → here ≡ beginning → Surveying t s m reply Encrypt 0 0 here
  unfolding overall any_disable all_encrypt first_disable advised
  survey_begin here e =
      record {
        front = [];
        behind = follows_nothing (addresses s) ∙ ap (follows []) (sym (left_beginning s here e));
        many = refl;
        few = omega arith;
        so_far = refl;
        seen = refl;
      }

  module _ (least : Advice) (count looked : ℕ) (here : ListCursor) (k : NextAddress) (h : Surveying t s m reply least count looked here) (p : Hands s here k) where
    abbrev found : List Advice
    found = advised t m reply h.front

    module _ (from to : ℕ) (next : ListCursor) (q : k ≡ Address from to next) where
      abbrev one_more : List (List ℕ)
      one_more = h.front ++ between s from to ∷ []

      given : addresses s ≡ follows one_more (left s next)
      given = h.behind ∙ ap (follows h.front) (hand_gives s here k p from to next q) ∙ follows_one h.front (between s from to) (left s next)

      longer : count + 1 ≡ length one_more
      longer = simp length-append (omega (arith, h.many))

      -- R10: a 101st address
      pub survey_many : count ≡ most_recipients → None ≡ survey_of t m reply (addresses s)
      survey_many e = unfit (addresses s) (rw given (too_many one_more (left s next) (omega (arith, longer))))

      module _ (d : count ≡ most_recipients → ⊥) where
        room : count + 1 ≤ most_recipients
        room = omega (arith, h.few)

        pub survey_room : Fits w64 (count + 1)
        survey_room = record { fits = omega (arith, room) }

        more : advised t m reply one_more ≡ found ++ advice_in t m reply (between s from to) ∷ []
        unfolding advised
        more = map-append (advice_in t m reply) h.front (between s from to ∷ [])

        module _ (b : Bool) (f : b ≡ not ((equality.ghosts).eq least Disable)) where
          -- A12: behind the first disable an address is only read
          pub survey_passed : b ≡ false → Surveying t s m reply least (count + 1) looked next
          survey_passed y =
              let disabled : least ≡ Disable = disable_is least (rw disable_told at (not-false _ (sym f ∙ y))) in
              let low : overall found ≡ Disable = sym h.so_far ∙ disabled in
              record {
                front = one_more;
                behind = given;
                many = longer;
                few = room;
                so_far = disabled ∙ sym (ap overall more ∙ still_disable found _ low);
                seen = h.seen ∙ sym (ap first_disable more ∙ first_stays found _ (overall_any found low));
              }

          pub survey_looked :
              b ≡ true → (one low : Advice) → one ≡ advice_in t m reply (between s from to) → low ≡ ord_min (order.ghosts).cmp least one
              → Surveying t s m reply low (count + 1) (count + 1) next
          unfolding advised
          survey_looked n one low e g =
              let longer_found : count + 1 ≡ suc (length found) =
              ap (λ (n : ℕ). n + 1) (h.many ∙ sym (length-map h.front (advice_in t m reply))) ∙ add-one (length found) in
              let nobody : any_disable found ≡ false =
              by_test (any_disable found)
              (λ y. let d : least ≡ Disable = h.so_far ∙ any_overall found y in absurd (false≢true (rw d at (sym f ∙ n))))
              (λ z. z) in
              record {
                front = one_more;
                behind = given;
                many = longer;
                few = room;
                so_far = g ∙ least_is least one ∙ rw (e, h.so_far) (sym (ap overall more ∙ overall_last found _));
                seen = longer_found ∙ sym (ap first_disable more ∙ first_grows found _ nobody);
              }

    ended : k ≡ End → addresses s ≡ Some h.front
    unfolding follows
    ended q = h.behind ∙ rw (hand_end s here k p q, append-nil)

    pub survey_none : k ≡ End → count ≡ 0 → None ≡ survey_of t m reply (addresses s)
    unfolding recipient_list
    survey_none q z = unfit (addresses s) (rw (ended q, sym h.many, z))

    pub survey_all : k ≡ End → (count ≡ 0 → ⊥) → Some (record { advice = least; looked_up = looked }) ≡ survey_of t m reply (addresses s)
    unfolding recipient_list or_else
    survey_all q d =
        let in_range : recipient_list (Some h.front) ≡ true =
        rw (le-leb 1 (length h.front) (omega (arith, h.many)), le-leb (length h.front) most_recipients (omega (arith, h.many, h.few))) in
        cc (h.so_far, h.seen) ∙ fit (Some h.front) in_range ∙ ap (survey_of t m reply) (sym (ended q))

    pub survey_unread : k ≡ Unreadable → None ≡ survey_of t m reply (addresses s)
    unfolding recipient_list follows
    survey_unread q = unfit (addresses s) (rw (h.behind, hand_unread s here k p q))

pub ruleset surveying = (survey_begin, survey_many, survey_room, survey_passed, survey_looked, hand_plain, hand_from, hand_upto, hand_less, survey_none, survey_all, survey_unread, rules)
