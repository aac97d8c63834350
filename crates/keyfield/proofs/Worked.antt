-- Worked examples of page F, by computing the definitions. Assumes nothing.
use Prim.Native.Nat.{ℕ}
use mathlib.Core.Path.{◌≡◌, refl}
use mathlib.Core.Bool.{Bool, true, false}
use mathlib.Core.List.{List, [], ◌∷◌}
use Rattle.std.specs.Prelude.{Option, Some, None}
use Rattle.octets.specs.Octets.{ascii, lower, lowered, same_octets, starts_with, blank}
use Rattle.octets.specs.Options.{only_one, in_front, or_else}
use Rattle.octets.specs.Finding.{holds}
use Rattle.octets.specs.Tests.{every, without}
use Rattle.runs.specs.Runs.{belongs}
use Rattle.letters.specs.Base64 as base64
use Rattle.utf8.specs.Utf8 as utf8
use Rattle.utf8.specs.Lowering as lowering
use Rattle.pieces.specs.Pieces.{on_first, pieces, before, behind, from, following, joined}
use Rattle.asciiaddress.specs.Ascii.{atom, local_part, free_ends}
use Rattle.labels.specs.Labels as labels
use Rattle.address.specs.Address.{domain, domain_form, address_form, plain, canonical}
use Rattle.attributes.specs.Attribute.{trimmed_front, trimmed_back, trimmed, name_of, attribute, attribute_of}
use Rattle.attributes.specs.Step.{with_address, with_preference, step}
use Rattle.keyfield.specs.Field.{said_with, if_last, said_from, said_of, limited, key_of, Field, with_key, field_by, field_of, naming, valid_for, chosen, valid_fields, counted}

-- the field of a@b.example with the key `foo`, and those of a@b with the key `f`
abbrev pub foo : Field
foo = record { address = ascii "a@b.example"; is_mutual = false; key = ascii "foo" }

abbrev pub plain_f : Field
plain_f = record { address = ascii "a@b"; is_mutual = false; key = ascii "f" }

abbrev pub mutual_f : Field
mutual_f = record { address = ascii "a@b"; is_mutual = true; key = ascii "f" }

-- F13, C14: one valid field counts, also with an ignored attribute (F5) and beside fields that are not valid. An unknown attribute (F5), a `;` at
-- the end (F8) and a second valid field, even an equal one, leave none.
abbrev pub Counts : Option Field → List (List ℕ) → Type 0
Counts f values = counted 2048 values (canonical (ascii "A@B.example")) ≡ f

abbrev pub WhatCounts : Type 0
WhatCounts =
    Counts (Some foo) (ascii "addr=a@b.example; keydata=Zm9v" ∷ [])
    × Counts None (ascii "addr=a@b.example; type=1; keydata=Zm9v" ∷ [])
    × Counts (Some foo) (ascii "addr=a@b.example; _type=1; keydata=Zm9v" ∷ [])
    × Counts None (ascii "addr=a@b.example; keydata=Zm9v;" ∷ [])
    × Counts None (ascii "addr=a@b.example; keydata=Zm9v" ∷ ascii "addr=a@b.example; keydata=Zm9v" ∷ [])
    × Counts (Some foo) (ascii "addr=c@d; keydata=Zm9v" ∷ ascii "addr=a@b.example; keydata=Zm9v" ∷ ascii "spoiled" ∷ [])

-- F9, C14: unused bits have to be zero, and padding has to be there
abbrev pub KeyData : Type 0
KeyData =
    (field_of 2048 (ascii "addr=a@b;keydata=Zg==") ≡ Some plain_f)
    × (field_of 2048 (ascii "addr=a@b;keydata=Zh==") ≡ None)
    × (field_of 2048 (ascii "addr=a@b;keydata=Zg") ≡ None)

-- F10: a key of as many octets as the limit says is one, and a key of one octet more is none
abbrev Limits : Type 0
Limits =
    (field_of 3 (ascii "addr=a@b.example;keydata=Zm9v") ≡ Some foo)
    × (field_of 2 (ascii "addr=a@b.example;keydata=Zm9v") ≡ None)

-- F2, F5, F7, F9: blanks around names and values and in key data, another value of `prefer-encrypt`, ignored names, an address with `=`
abbrev GoodOnes : Type 0
GoodOnes =
    (field_of 2048 (ascii " addr = A@b\t; prefer-encrypt\t= mutual ;keydata= Z g=\t= ") ≡ Some mutual_f)
    × (field_of 2048 (ascii "addr=a@b; prefer-encrypt=Mutual; keydata=Zg==") ≡ Some plain_f)
    × (field_of 2048 (ascii "_=; _=1; addr=a@b; _x=y=z; _=; keydata=Zg==") ≡ Some plain_f)
    × (field_of 2048 (ascii "addr=a=b@c; keydata=Zg==") ≡ Some (record { address = ascii "a=b@c"; is_mutual = false; key = ascii "f" }))

-- what spoils a field: F1 to F8, and empty key data (F10)
spoiled_ones : List (List ℕ)
spoiled_ones =
    ascii ""
    ∷ ascii "addr=a@b"
    ∷ ascii "keydata=Zg=="
    ∷ ascii "addr=a@b (c); keydata=Zg=="
    ∷ ascii "_x=(;); addr=a@b; keydata=Zg=="
    ∷ ascii "addr=a@b; keydata=Zg==; _x=1"
    ∷ ascii "keydata=Zg==; addr=a@b"
    ∷ ascii "addr=a@b; keydata=Zg==; keydata=Zg=="
    ∷ ascii "Addr=a@b; keydata=Zg=="
    ∷ ascii "addr=a@b; KEYDATA=Zg=="
    ∷ ascii "addr=a@b; key data=Zg=="
    ∷ ascii "addr=a@b; addr=a@b; keydata=Zg=="
    ∷ ascii "addr=a@b; prefer-encrypt=mutual; prefer-encrypt=mutual; keydata=Zg=="
    ∷ ascii "addr=a@b; _x; keydata=Zg=="
    ∷ ascii "addr=a@b; =1; keydata=Zg=="
    ∷ ascii "addr=a@b;; keydata=Zg=="
    ∷ ascii "addr=a; keydata=Zg=="
    ∷ ascii "addr=a@b; keydata="
    ∷ []

is_spoiled : Option Field → Bool
is_spoiled None = true
is_spoiled (Some f) = false

worked : WhatCounts × KeyData × Limits × GoodOnes × (every (λ s. is_spoiled (field_of 2048 s)) spoiled_ones ≡ true)
unfolding spoiled_ones is_spoiled counted only_one valid_fields chosen valid_for naming field_of field_by with_key key_of limited said_of said_from if_last said_with step with_address with_preference attribute_of holds attribute name_of trimmed trimmed_back trimmed_front blank every on_first pieces before behind plain local_part atom domain domain_form address_form labels.label_octet labels.label_form labels.fits labels.label labels.labelled belongs free_ends canonical from lowering.lower_text lowering.lower_points lowering.lower_point utf8.points utf8.tails utf8.lead_of utf8.encoded utf8.encoded_one in_front lowered lower same_octets starts_with base64.decode base64.follow base64.before base64.at_end base64.grouped base64.closed base64.sign_of without following joined or_else
worked = ((refl, refl, refl, refl, refl, refl), (refl, refl, refl), (refl, refl), (refl, refl, refl, refl), refl)

pub counts : WhatCounts
counts = worked.0

pub the_key : KeyData
the_key = worked.1
