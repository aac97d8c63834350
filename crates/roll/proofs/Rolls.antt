-- Laws of rolls.
--     entry_length                    an entry has an octet more than its address
--     rolled_none .. rolled_length    the equations of `rolled`, of one address alone, and how long it is
--     rolled_append .. rolled_add     the roll of two lists, and of one address more
--     not_ender                       no octet of an address is the one that ends it
--     unrolled_none, unrolled_entry   the equations of `unrolled`
--     unrolled_rolled                 a roll of plain addresses gives back what was rolled
--     Opens, opens                    the first address of a roll: its octets, where it ends, and the others
--     listed_readable, listed_unreadable, listed_plain    what a list adds
-- Assumes nothing.
use Prim.Native.Nat.{ℕ, suc, ◌+◌, ◌<◌}
use mathlib.Core.Path.{◌≡◌, refl, sym, ◌∙◌}
use mathlib.Core.Bool.{true, false, false≢true}
use mathlib.Core.List.{List, [], ◌∷◌, ◌++◌, append_assoc, append-nil}
use Rattle.std.specs.Prelude.{Option, Some, None}
use native.Mathlib.Omega.{arith}
use borrow.Author.Tests.{eqb-true, ne_eqb}
use lib.Dec.{eqb}
use lib.ListN.{length, get_or, take, drop, length-append}
use Rattle.octets.specs.Options.{or_else}
use Rattle.octets.specs.Tests.{every}
use Rattle.octets.specs.Finding.{length_before}
use Rattle.octets.proofs.Tests.{by_test, and_left, and_right}
use Rattle.octets.proofs.Finding.{before_here, before_on}
use Rattle.address.specs.Address.{address_octet, plain}
use Rattle.address.proofs.Sides.{plain_octets, low_apart}
use Rattle.addresslist.specs.List.{addresses}
use Rattle.addresslist.proofs.Readable.{readable_at}
use Rattle.roll.specs.Roll.{entry, rolled, lengthened, unrolled, listed_in}

pub entry_length : (a : List ℕ) → length (entry a) ≡ length a + 1
unfolding entry
entry_length a = length-append a (0 ∷ [])

pub rolled_none : rolled [] ≡ []
unfolding rolled
rolled_none = refl

pub rolled_one : (a : List ℕ) (rest : List (List ℕ)) → rolled (a ∷ rest) ≡ entry a ++ rolled rest
unfolding rolled
rolled_one a rest = refl

pub rolled_alone : (a : List ℕ) → rolled (a ∷ []) ≡ entry a
unfolding rolled
rolled_alone a = append-nil (entry a)

pub rolled_length : (a : List ℕ) (rest : List (List ℕ)) → length (rolled (a ∷ rest)) ≡ length a + 1 + length (rolled rest)
rolled_length a rest = rw (rolled_one a rest, length-append, entry_length a)

pub rolled_append : (xs ys : List (List ℕ)) → rolled (xs ++ ys) ≡ rolled xs ++ rolled ys
unfolding rolled
rolled_append [] ys = refl
rolled_append (a ∷ xs) ys = rw (rolled_append xs ys) (sym (append_assoc (entry a) (rolled xs) (rolled ys)))

pub rolled_append_length : (xs ys : List (List ℕ)) → length (rolled (xs ++ ys)) ≡ length (rolled xs) + length (rolled ys)
rolled_append_length xs ys = rw (rolled_append xs ys, length-append)

pub rolled_add : (xs : List (List ℕ)) (a : List ℕ) → rolled (xs ++ (a ∷ [])) ≡ rolled xs ++ entry a
rolled_add xs a = rw (rolled_append xs (a ∷ []), rolled_alone a)

-- what can stand in an address does not end it
pub not_ender : (x : ℕ) → address_octet x ≡ true → eqb x 0 ≡ false
not_ender x o = ne_eqb x 0 (λ e. false≢true (sym (low_apart 0 (omega arith)) ∙ rw e at o))

-- an address of such octets, and what stands behind its entry
module _ (s : List ℕ) where
  unrolled_octets : (a : List ℕ) → every address_octet a ≡ true → unrolled (entry a ++ s) ≡ a ∷ unrolled s
  unfolding every entry unrolled lengthened
  unrolled_octets [] e = refl
  unrolled_octets (x ∷ a) e =
      rw (
        unrolled,
        not_ender x (and_left (address_octet x) (every address_octet a) e),
        unrolled_octets a (and_right (address_octet x) (every address_octet a) e),
      )

  pub unrolled_entry : (a : List ℕ) → plain a ≡ true → unrolled (entry a ++ s) ≡ a ∷ unrolled s
  unrolled_entry a p = unrolled_octets a (plain_octets a p)

pub unrolled_none : unrolled [] ≡ []
unfolding unrolled
unrolled_none = refl

pub unrolled_rolled : (list : List (List ℕ)) → every plain list ≡ true → unrolled (rolled list) ≡ list
unfolding rolled every
unrolled_rolled [] e = unrolled_none
unrolled_rolled (a ∷ rest) e =
    rw (unrolled_entry (rolled rest) a (and_left (plain a) (every plain rest) e), unrolled_rolled rest (and_right (plain a) (every plain rest) e))

-- a roll s that has addresses: a is the first of them
pub record Opens (s a : List ℕ) (rest : List (List ℕ)) : Type 0 where
  pub there : 0 < length s
  pub text : take (length a) s ≡ a
  pub ends : length_before 0 s ≡ length a
  pub others : unrolled (drop (suc (length a)) s) ≡ rest

-- an octet that ends the empty address
opens_here : (x : ℕ) (s a : List ℕ) (rest : List (List ℕ)) → x ≡ 0 → [] ∷ unrolled s ≡ a ∷ rest → Opens (x ∷ s) a rest
opens_here x s a rest e q =
    let n : a ≡ [] = cc in
    let m : unrolled s ≡ rest = cc in
    rw (n, e) (record { there = omega arith; text = refl; ends = before_here 0 s; others = m })

-- an octet in front of an address
module _ (x : ℕ) (s : List ℕ) (o : eqb x 0 ≡ false) where
  opens_on : (b : List ℕ) (rest : List (List ℕ)) → Opens s b rest → Opens (x ∷ s) (x ∷ b) rest
  opens_on b rest h =
      record {
        there = omega arith;
        text = rw h.text;
        ends = before_on 0 x s o ∙ rw h.ends;
        others = h.others;
      }

pub opens : (s a : List ℕ) (rest : List (List ℕ)) → unrolled s ≡ a ∷ rest → Opens s a rest
unfolding unrolled lengthened
opens [] a rest e = let z : ◌≡◌ {A = ℕ} 0 1 = cc in absurd (omega arith)
opens (x ∷ s) a rest e =
    by_test (eqb x 0)
    (λ p. opens_here x s a rest (eqb-true x 0 p) (rw (unrolled, p) at e))
    (λ p. go p (λ b r q. opens s b r q) (unrolled s) refl)
  where
    go : eqb x 0 ≡ false → ((b : List ℕ) (r : List (List ℕ)) → unrolled s ≡ b ∷ r → Opens s b r) → (l : List (List ℕ)) → unrolled s ≡ l → Opens (x ∷ s) a rest
    go p h [] q =
        let f : [] ≡ a ∷ rest = rw (unrolled, p, q) at e in
        let z : ◌≡◌ {A = ℕ} 0 1 = cc in
        absurd (omega arith)
    go p h (b ∷ r) q =
        let f : (x ∷ b) ∷ r ≡ a ∷ rest = rw (unrolled, p, q) at e in
        let n : a ≡ x ∷ b = cc in
        let m : rest ≡ r = cc in
        rw (n, m) (opens_on x s p b r (h b r q))

module _ (s : List ℕ) where
  pub listed_readable : (list : List (List ℕ)) → addresses s ≡ Some list → listed_in s ≡ list
  unfolding listed_in or_else
  listed_readable list e = rw (listed_in, e)

  pub listed_unreadable : addresses s ≡ None → listed_in s ≡ []
  unfolding listed_in or_else
  listed_unreadable e = rw (listed_in, e)

every_plain : (list : List (List ℕ)) → ((i : ℕ) → i < length list → plain (get_or list i []) ≡ true) → every plain list ≡ true
unfolding every
every_plain [] h = refl
every_plain (a ∷ list) h = rw (h 0 (omega arith)) (every_plain list (λ i l. h (suc i) (omega arith)))

pub listed_plain : (s : List ℕ) → every plain (listed_in s) ≡ true
unfolding every
listed_plain s = go (addresses s) refl
  where
    go : (o : Option (List (List ℕ))) → addresses s ≡ o → every plain (listed_in s) ≡ true
    go None e = rw (listed_unreadable s e)
    go (Some list) e = rw (listed_readable s list e) (every_plain list (readable_at s list e))
