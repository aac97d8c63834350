-- How much room the addresses of a list take, each with one octet in front.
--     total_room     all addresses of a readable list take at most one octet more than the list
-- Assumes nothing.
use Prim.Native.Nat.{ℕ, suc, ◌+◌, ◌≤◌, zero-le}
use mathlib.Core.Path.{◌≡◌, ap}
use mathlib.Core.Bool.{Bool}
use mathlib.Core.List.{List}
use Rattle.std.specs.Prelude.{Option, Some}
use native.Mathlib.Omega.{arith}
use lib.ListN.{length, length-append}
use Rattle.octets.specs.Options.{total}
use Rattle.octets.proofs.Options.{Takes, takes_more, takes_front}
use Rattle.tokens.proofs.Places.{suffix_length}
use Rattle.grammar.specs.Grammar.{after_address}
use Rattle.addresslist.specs.List.{addresses}
use Rattle.grammar.specs.declared.Stage.{Stage}
use Rattle.grammar.specs.declared.Stage.TheVariants.{Place, Opened, Phrase, Angle, Closing, Behind}
use Rattle.addresslist.proofs.Listing.{by_tokens}

-- Behind an address another octet must come before the next one: there its own octet is paid for already.
abbrev spare : Stage → ℕ
spare Place = 1
spare Opened = 1
spare Phrase = 1
spare Angle = 1
spare Closing = 0
spare Behind = 0

spare_most : (stage : Stage) → spare stage ≤ 1
spare_most Place = omega arith
spare_most Opened = omega arith
spare_most Phrase = omega arith
spare_most Angle = omega arith
spare_most Closing = omega arith
spare_most Behind = omega arith

-- an address stands where there is one to spare, and leaves none
spare_taken : (stage next : Stage) (inside inner : Bool) → after_address stage inside ≡ Some (next, inner) → spare stage ≡ suc (spare next)
unfolding after_address
spare_taken Place next inside inner e = let n : ◌≡◌ {A = Stage × Bool} (Behind, inside) (next, inner) = cc in rw (← ap (λ (p : Stage × Bool). p.0) n)
spare_taken Opened next inside inner e = let n : ◌≡◌ {A = Stage × Bool} (Behind, inside) (next, inner) = cc in rw (← ap (λ (p : Stage × Bool). p.0) n)
spare_taken Phrase next inside inner e = let z : ◌≡◌ {A = ℕ} 0 1 = cc in absurd (omega arith)
spare_taken Angle next inside inner e = let n : ◌≡◌ {A = Stage × Bool} (Closing, inside) (next, inner) = cc in rw (← ap (λ (p : Stage × Bool). p.0) n)
spare_taken Closing next inside inner e = let z : ◌≡◌ {A = ℕ} 0 1 = cc in absurd (omega arith)
spare_taken Behind next inside inner e = let z : ◌≡◌ {A = ℕ} 0 1 = cc in absurd (omega arith)

-- the addresses themselves are their texts
abbrev pub addresses_total : List (List ℕ) → ℕ
addresses_total list = total (λ (a : List ℕ). a) list

pub total_room : (s : List ℕ) (list : List (List ℕ)) → addresses s ≡ Some list → addresses_total list ≤ length s + 1
unfolding total
total_room s list e =
    rw e at
    (by_tokens (λ (stage : Stage) (t : List ℕ) (o : Option (List (List ℕ))). Takes (λ (a : List ℕ). a) (length t + spare stage) o) (λ stage t. zero-le)
    (λ stage t. tt)
    (λ stage next inside inner t a rest o g l p h.
    takes_front (λ (a : List ℕ). a) (length rest + spare next) (length t + spare stage) a o
    (omega (arith, suffix_length l, length-append a rest, spare_taken stage next inside inner g)) h)
    (λ stage next t rest o l k h.
    takes_more (λ (a : List ℕ). a) (length rest + spare next) (length t + spare stage) o (omega (arith, k, spare_most next)) h) s)
