-- SCOPE, pages U, D and G: what the outer block of a message says besides keys, by its fields.
--     sender_in        the sender; none where the message is to be refused with 5
--     is_reported      a Content-Type says that the message is a report
--     said_date        the Date, where it is available
--     date_in          the effective date
--     recipients_in    the addresses of all readable To, Cc and Reply-To fields
use Rattle.std.specs.Prelude.{ℕ, Bool, false, ◌||◌, List, [], ◌∷◌, ◌++◌}
use Rattle.std.specs.Prelude.{Option, Some, None}
use Rattle.octets.specs.Options.{or_else, only_one}
use Rattle.header.specs.Header.{FieldText, is_report}
use Rattle.address.specs.Address.{canonical}
use Rattle.addresslist.specs.List.{addresses}
use Rattle.date.specs.Date.{date_of, effective_date}
use Rattle.fields.specs.Fields.{values_of}
use Rattle.fields.specs.declared.Kind.TheVariants.{From, ContentType, Date, Recipients}

-- an address, if there is one, in canonical form
unfoldable pub canonical_of : Option (List ℕ) → Option (List ℕ)
canonical_of None = None
canonical_of (Some a) = Some (canonical a)

-- U3, R5: the one address that the value of From gives as a list, in canonical form; an unreadable list gives none (L18)
unfoldable pub sender_by : Option (List ℕ) → Option (List ℕ)
sender_by None = None
sender_by (Some v) = canonical_of (only_one (or_else [] (addresses v)))

-- U3, R5: the sender, by the one From field; with no From field or several there is none
unfoldable pub sender_in : List FieldText → Option (List ℕ)
sender_in fs = sender_by (only_one (values_of From fs))

-- R6: one value that is a report is enough
unfoldable pub any_report : List (List ℕ) → Bool
any_report [] = false
any_report (v ∷ rest) = is_report v || any_report rest

-- R6: some Content-Type field is a report, be it one of several
unfoldable pub is_reported : List FieldText → Bool
is_reported fs = any_report (values_of ContentType fs)

-- D1: the Date by the value of the one Date field; unavailable where there is none, or where it does not read as a date
unfoldable pub date_by : Option (List ℕ) → Option ℕ
date_by None = None
date_by (Some v) = date_of v

-- D1: the Date of a message, which has to have exactly one Date field
abbrev pub said_date : List FieldText → Option ℕ
said_date fs = date_by (only_one (values_of Date fs))

-- D2: Date or receipt time, whichever is smaller; the receipt time where the Date is unavailable
unfoldable pub date_in : List FieldText → ℕ → ℕ
date_in fs receipt = effective_date (said_date fs) receipt

-- G4: the addresses of each value that is a readable list, as they stand there; an unreadable one hides none of another's
unfoldable pub addresses_in : List (List ℕ) → List (List ℕ)
addresses_in [] = []
addresses_in (v ∷ rest) = or_else [] (addresses v) ++ addresses_in rest

-- G4: the addresses of all To, Cc and Reply-To fields that are readable lists
unfoldable pub recipients_in : List FieldText → List (List ℕ)
recipients_in fs = addresses_in (values_of Recipients fs)
