-- The first octet of a code point.
--     lead_ascii .. lead_past    what some of them tell, by its range
--     rightly, lead_rightly      what it tells is right, held to at each of the 256 octets
--     lead_low                   what follows it is no ASCII
-- Assumes nothing.
use Prim.Native.Nat.{ℕ, suc, zero, ◌+◌, ◌-◌, ◌*◌, ◌<◌, ◌≤◌}
use mathlib.Core.Path.{◌≡◌, refl, sym, ap, ◌∙◌}
use mathlib.Core.Bool.{Bool, true, false, ◌&&◌, false≢true}
use mathlib.Core.Logic.{⊎_elim}
use native.Mathlib.Omega.{arith}
use borrow.Author.Tests.{leb-true, le-leb, lt-leb, ne_eqb}
use lib.Dec.{leb, ltb, eqb}
use Rattle.octets.proofs.Lists.{lt_or_le}
use Rattle.octets.proofs.Tests.{and_left, all_below_lem}
use Rattle.std.specs.Prelude.{Option, Some, None}
use Rattle.utf8.specs.Utf8.{lead, lead_of}
use Rattle.utf8.specs.declared.Lead.{Lead}

module _ (x : ℕ) where
  pub lead_ascii : x ≤ 0x7F → Some (lead 0 0 0 x) ≡ lead_of x
  unfolding lead_of
  lead_ascii h = rw (le-leb x 0x7F h)

  pub lead_two : 0xC2 ≤ x → x ≤ 0xDF → Some (lead 1 0x80 0xBF (x - 0xC0)) ≡ lead_of x
  unfolding lead_of
  lead_two a b = rw (lt-leb x 0x7F (omega arith), le-leb 0xC2 x a, le-leb x 0xDF b)

  pub lead_past : 0xF3 < x → (x ≡ 0xF4 → ⊥) → None ≡ lead_of x
  unfolding lead_of
  lead_past a b =
      rw (
        lt-leb x 0x7F (omega arith),
        le-leb 0xC2 x (omega arith),
        lt-leb x 0xDF (omega arith),
        ne_eqb x 0xE0 (omega arith),
        ne_eqb x 0xED (omega arith),
        le-leb 0xE1 x (omega arith),
        lt-leb x 0xEF (omega arith),
        ne_eqb x 0xF0 (omega arith),
        le-leb 0xF1 x (omega arith),
        lt-leb x 0xF3 a,
        ne_eqb x 0xF4 b,
      )

-- the range of the next octet lies within that of all that follow
unfoldable pub tailing : ℕ → ℕ → Bool
tailing l h = leb 0x80 l && leb h 0xBF

-- what a first octet tells gives the octet again, and the least code point that it can begin needs so many octets
unfoldable pub rightly : ℕ → ℕ → ℕ → ℕ → ℕ → Bool
rightly zero l h q x = eqb q x && ltb x 0x80
rightly (suc zero) l h q x = tailing l h && (eqb (0xC0 + q) x && (leb 2 q && ltb q 32))
rightly (suc (suc zero)) l h q x = tailing l h && (eqb (0xE0 + q) x && (leb 0x800 (q * 4096 + (l - 0x80) * 64) && ltb q 16))
rightly (suc (suc (suc zero))) l h q x = tailing l h && (eqb (0xF0 + q) x && leb 0x10000 (q * 262144 + (l - 0x80) * 4096))
rightly (suc (suc (suc (suc n)))) l h q x = false

-- a test of what an octet tells, which holds at each octet because it is computed there, and above them since those tell nothing
pub at_leads : (test : Option Lead → ℕ → Bool) → ((x : ℕ) → x < 256 → test (lead_of x) x ≡ true) → ((x : ℕ) → test None x ≡ true) → (x : ℕ) → test (lead_of x) x ≡ true
at_leads test below none x =
    ⊎_elim
    (λ (l : x < 256). below x l)
    (λ (l : 256 ≤ x). rw (← lead_past x (omega arith) (omega arith)) (none x))
    (lt_or_le x 256)

told : Option Lead → ℕ → Bool
told None x = true
told (Some f) x = rightly f.following f.low f.high f.bits x

lead_told : (x : ℕ) → told (lead_of x) x ≡ true
unfolding lead_of told rightly tailing
lead_told = at_leads told (all_below_lem (λ x. told (lead_of x) x) 256 refl) (λ x. refl)

module _ (x : ℕ) (f : Lead) (e : lead_of x ≡ Some f) where
  pub lead_rightly : rightly f.following f.low f.high f.bits x ≡ true
  unfolding told
  lead_rightly = ap (λ o. told o x) (sym e) ∙ lead_told x

rightly_low : (m l h q x : ℕ) → rightly m l h q x ≡ true → 0 < m → 0x80 ≤ l
unfolding rightly tailing
rightly_low zero l h q x e k = absurd (omega arith)
rightly_low (suc zero) l h q x e k = leb-true 0x80 l (and_left (leb 0x80 l) (leb h 0xBF) (and_left (tailing l h) _ e))
rightly_low (suc (suc zero)) l h q x e k = leb-true 0x80 l (and_left (leb 0x80 l) (leb h 0xBF) (and_left (tailing l h) _ e))
rightly_low (suc (suc (suc zero))) l h q x e k = leb-true 0x80 l (and_left (leb 0x80 l) (leb h 0xBF) (and_left (tailing l h) _ e))
rightly_low (suc (suc (suc (suc n)))) l h q x e k = absurd (false≢true e)

pub lead_low : (x : ℕ) (f : Lead) → lead_of x ≡ Some f → 0 < f.following → 0x80 ≤ f.low
lead_low x f e = rightly_low f.following f.low f.high f.bits x (lead_rightly x f e)
