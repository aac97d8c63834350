-- SCOPE, L23: Punycode. A list of code points becomes a text: those below 128 as they are, and behind them, for each of the others,
-- a number that says which one it is and where it stands. Numbers have no width here, and a list may be of any length.
--     base .. delimiter           the numbers that are fixed
--     digit, value                the letter of a digit, and the digit of a letter
--     threshold                   how large the last digit of a number may be
--     settled, scaled, adapt      the bias that the next number is written with
--     below, delimited            the code points below 128, and the delimiter behind them
--     integer                     a number as digits
--     smaller, least              the next code point that is to be written
--     pass, passes                one code point wherever it stands, and all from 128 on
--     numbers, encode             the numbers of code points, and their text
--     front, consumed, all_basic  what stands before the last delimiter, and how much of the text that is
--     inserted, landed            a code point put in, and a number that ends
--     run, runs                   the rest of a text, and all its numbers
--     decode                      the code points of a text, where there are any
use Rattle.std.specs.Prelude.{ℕ, zero, suc, ◌+◌, ◌-◌, ◌*◌, ◌/◌, ◌%◌, Bool, true, false, cond, List, [], ◌∷◌, ◌++◌, leb, ltb, eqb, length, take, drop}
use Rattle.std.specs.Prelude.{Option, Some, None}
use Rattle.octets.specs.Octets.{octet}
use Rattle.octets.specs.Finding.{holds}
use Rattle.octets.specs.Tests.{every}
use Rattle.utf8.specs.Utf8.{between, scalar}

-- L23: a digit is worth less than that
abbrev pub base : ℕ
base = 36

-- L23: the smallest threshold
abbrev pub tmin : ℕ
tmin = 1

-- L23: the largest one
abbrev pub tmax : ℕ
tmax = 26

-- L23: how slowly the bias grows with the numbers
abbrev pub skew : ℕ
skew = 38

-- L23: what the first number is divided by, before the bias is found from it
abbrev pub damp : ℕ
damp = 700

-- L23: the bias of the first number
abbrev pub initial_bias : ℕ
initial_bias = 72

-- L23: the first code point that is written as a number
abbrev pub initial_n : ℕ
initial_n = 128

-- L23: what stands between the two parts of a text
abbrev pub delimiter : ℕ
delimiter = octet "-"

-- L23: the digits are a to z, and then 0 to 9
unfoldable pub digit : ℕ → ℕ
digit v = cond (ltb v 26) (octet "a" + v) (octet "0" + (v - 26))

-- L23: capitals are read as small letters; what is neither letter nor figure is no digit
unfoldable pub value : ℕ → Option ℕ
value c =
    cond (between (octet "a") (octet "z") c) (Some (c - octet "a"))
    (cond (between (octet "A") (octet "Z") c) (Some (c - octet "A"))
    (cond (between (octet "0") (octet "9") c) (Some (c - octet "0" + 26))
    None))

-- L23: a digit below the threshold ends its number. k is 36 at the first digit, and 36 more at each further one.
unfoldable pub threshold : ℕ → ℕ → ℕ
threshold k bias = cond (leb k bias) tmin (cond (leb (bias + tmax) k) tmax (k - bias))

-- L23: the bias, where delta is small enough
abbrev pub settled : ℕ → ℕ → ℕ
settled delta k = k + (base - tmin + 1) * delta / (delta + skew)

-- L23: as long as delta is above 455, it is divided by 35. The first argument bounds the turns, and delta of them are enough.
unfoldable pub scaled : ℕ → ℕ → ℕ → ℕ
scaled zero delta k = settled delta k
scaled (suc f) delta k =
    elim (ltb ((base - tmin) * tmax / 2) delta) [ true ↦ scaled f (delta / (base - tmin)) (k + base) | false ↦ settled delta k ]

-- L23: the bias behind a number delta, when there are so many code points. The first number counts for much less than the others.
unfoldable pub adapt : ℕ → ℕ → Bool → ℕ
adapt delta points first =
    let d = cond first (delta / damp) (delta / 2) in
    let e = d + d / points in
    scaled e e 0

-- L23: the code points below n, in their order
unfoldable pub below : ℕ → List ℕ → List ℕ
below n [] = []
below n (c ∷ s) = elim (ltb c n) [ true ↦ c ∷ below n s | false ↦ below n s ]

-- L23: the delimiter stands only behind something
unfoldable pub delimited : List ℕ → List ℕ
delimited [] = []
delimited (x ∷ s) = (x ∷ s) ++ delimiter ∷ []

-- L23: the digits of a number, the least one first. Each has a weight of its own, by its threshold. The first argument bounds the
-- turns, and q of them are enough.
unfoldable pub integer : ℕ → ℕ → ℕ → ℕ → List ℕ
integer zero bias k q = digit q ∷ []
integer (suc f) bias k q =
    let t = threshold k bias in
    elim (ltb q t) [
      | true ↦ digit q ∷ []
      | false ↦ digit (t + (q - t) % (base - t)) ∷ integer f bias (k + base) ((q - t) / (base - t))
    ]

-- L23: the smaller of c and what was found behind it
abbrev pub smaller : ℕ → Option ℕ → Option ℕ
smaller c None = Some c
smaller c (Some m) = Some (cond (ltb c m) c m)

-- L23: the smallest code point from n on
unfoldable pub least : ℕ → List ℕ → Option ℕ
least n [] = None
least n (c ∷ s) = elim (ltb c n) [ true ↦ least n s | false ↦ smaller c (least n s) ]

-- L23: the code point n, wherever it stands in a list. `delta` counts the places that lie before it: one for each code point below n,
-- from the place of the last n on. Where n stands, delta is written as a number, with the bias for it. By then h code points are
-- written, and before the first number b were. At the end of the list it goes on with `after`, one place further.
unfoldable pub pass : (ℕ → ℕ → ℕ → List ℕ) → ℕ → ℕ → List ℕ → ℕ → ℕ → ℕ → List ℕ
pass after b n [] delta bias h = after (delta + 1) bias h
pass after b n (c ∷ s) delta bias h =
    elim (ltb c n) [
      | true ↦ pass after b n s (delta + 1) bias h
      | false ↦
          elim (eqb c n) [
            | true ↦ integer delta bias base delta ++ pass after b n s 0 (adapt delta (h + 1) (eqb h b)) (h + 1)
            | false ↦ pass after b n s delta bias h
          ]
    ]

-- L23: a pass for each different code point from n on, the smallest first. Each number between n and that one has h + 1 places, which
-- are counted as well. The first argument bounds the passes, and as many as there are code points are enough.
unfoldable pub passes : ℕ → List ℕ → ℕ → ℕ → ℕ → ℕ → ℕ → List ℕ
passes zero ps b n delta bias h = []
passes (suc f) ps b n delta bias h =
    elim (least n ps) [
      | None ↦ []
      | Some m ↦ pass (passes f ps b (m + 1)) b m ps (delta + (m - n) * (h + 1)) bias h
    ]

-- L23: the numbers of code points, of which b are below 128
abbrev pub numbers : List ℕ → ℕ → List ℕ
numbers ps b = passes (length ps) ps b initial_n 0 initial_bias b

-- L23: the Punycode of code points
unfoldable pub encode : List ℕ → List ℕ
encode ps = delimited (below initial_n ps) ++ numbers ps (length (below initial_n ps))

-- L23: what stands before the last delimiter; where there is none, nothing
unfoldable pub front : List ℕ → List ℕ
front [] = []
front (c ∷ s) = elim (holds delimiter s) [ true ↦ c ∷ front s | false ↦ [] ]

-- L23: how much of a text the front is, with its delimiter. One in the first place is none.
unfoldable pub consumed : List ℕ → ℕ
consumed [] = 0
consumed (x ∷ s) = suc (suc (length s))

-- L23: the front holds nothing from 128 on
abbrev pub all_basic : List ℕ → Bool
all_basic s = every (λ c. ltb c initial_n) s

-- L23: x comes to stand at the place i
unfoldable pub inserted : ℕ → ℕ → List ℕ → List ℕ
inserted x i out = take i out ++ (x ∷ drop i out)

-- L23: a number has ended, and i is what it comes to. It counts all places of `out` for the code point n, from the first one on, then
-- all of them for n + 1, and so on: so it leads to one code point and its place. What is no code point (L20) is not put in, and the
-- text stands for nothing. Else it goes on with `after`, which counts from behind that place and is at the first digit of a number.
unfoldable pub landed : (ℕ → ℕ → ℕ → List ℕ → ℕ → ℕ → ℕ → Option (List ℕ)) → ℕ → ℕ → List ℕ → ℕ → Option (List ℕ)
landed after n old out i =
    let places = length out + 1 in
    let point = n + i / places in
    let next = i % places + 1 in
    elim (scalar point) [
      | false ↦ None
      | true ↦ after point next (adapt (i - old) places (eqb old 0)) (inserted point (i % places) out) next 1 base
    ]

-- L23: the numbers of a text, a digit a turn. `out` are the code points so far, n is the one that was put in last, and `old` the place
-- behind it. i is what the number comes to so far, and w is what its next digit counts. What is no digit, and an end inside a number,
-- make that the text stands for nothing.
unfoldable pub run : List ℕ → ℕ → ℕ → ℕ → List ℕ → ℕ → ℕ → ℕ → Option (List ℕ)
run [] n old bias out i w k = cond (eqb k base) (Some out) None
run (c ∷ s) n old bias out i w k =
    elim (value c) [
      | None ↦ None
      | Some d ↦
          elim (ltb d (threshold k bias)) [
            | true ↦ landed (run s) n old out (i + d * w)
            | false ↦ run s n old bias out (i + d * w) (w * (base - threshold k bias)) (k + base)
          ]
    ]

-- L23: the numbers of a text, behind the code points `out`
abbrev pub runs : List ℕ → List ℕ → Option (List ℕ)
runs s out = run s initial_n 0 initial_bias out 0 1 base

-- L23: the code points that a text stands for, or none
unfoldable pub decode : List ℕ → Option (List ℕ)
decode t =
    elim (all_basic (front t)) [
      | false ↦ None
      | true ↦ runs (drop (consumed (front t)) t) (front t)
    ]
