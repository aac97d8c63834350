-- A written field (W2) behind another field, as a text of whole fields. Assumes nothing.
use mathlib.Core.Path.{refl}
use mathlib.Core.List.{[], ◌∷◌}
use native.Mathlib.Omega.{arith}
use Rattle.octets.specs.Octets.{ascii, blank}
use Rattle.runs.specs.Runs.{belongs, run}
use Rattle.header.specs.Header.{closes, of_ending, unfolded}
use Rattle.header.specs.Blocks.{is_raw}
use Rattle.trip.specs.RoundTrip.{Lines, none, one}

two_fields : Lines (ascii "To: x@y\r\nAutocrypt: addr=a@b.example; keydata=\r\n Zm9v\r\n")
    (record { name = ascii "To"; value = ascii " x@y" } ∷ record { name = ascii "Autocrypt"; value = ascii " addr=a@b.example; keydata= Zm9v" } ∷ [])
unfolding belongs blank run closes of_ending unfolded is_raw
two_fields =
    one (ascii "To") (ascii " x@y\r\n") (ascii "Autocrypt: addr=a@b.example; keydata=\r\n Zm9v\r\n") _ refl (omega arith) refl
    (one (ascii "Autocrypt") (ascii " addr=a@b.example; keydata=\r\n Zm9v\r\n") [] [] refl (omega arith) refl none)
