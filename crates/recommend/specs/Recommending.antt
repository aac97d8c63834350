-- SCOPE, page A, with refusals 1, 2 and 10: what `recommend` and `recommend_quick` answer, and the key that the call for a target key hands back.
-- What is advised for a recipient, and which key is its target key, is said by the crate `advice`.
--     most_recipients, recipient_list           a list that is readable and gives 1 to 100 addresses
--     recommending_rows, refused_recommending   rows 1, 2 and 10
--     Admits                                    the answer on them, with the tags of the table where none holds
--     survey_of                                 what one walk over the list finds
--     recommended_of                            the answer
--     looked_up_of, quick_of                    how many recipients `recommend_quick` looks up, and what it answers
--     target_part_of, target_key_of             the part of the table that is handed back, and the key that it is
use Rattle.std.specs.Prelude.{ℕ, ◌≡◌, Bool, true, false, List, [], ◌∷◌, ◌++◌, length, get_or, Result, Ok, Err}
use Rattle.std.specs.Prelude.{Option, Some, None}
use Rattle.advice.specs.declared.Advice.{Advice}
use Rattle.octets.specs.Tests.{one_to}
use Rattle.octets.specs.Options.{or_else}
use Rattle.refusals.specs.Rows.{Row, ◌unless◌, first_of, answered_by, answer_of, unless_refused}
use Rattle.refusals.specs.declared.Refusal.{Refusal}
use Rattle.refusals.specs.declared.Refusal.TheVariants.{Recipients}
use Rattle.addresslist.specs.List.{addresses}
use Rattle.table.specs.Tagged.{Open}
use Rattle.inspect.specs.Inspecting.{table_rows}
use Rattle.advice.specs.Advice.{overall, first_disable, advised, targets}
use Rattle.advice.specs.Places.{no_part, target_at}
use Rattle.advice.specs.declared.Part.{Part}
use Rattle.recommend.specs.declared.Quick.{Quick}
use Rattle.recommend.specs.declared.Surveyed.{Surveyed}

-- R10: at most 100 addresses
abbrev pub most_recipients : ℕ
most_recipients = 100

-- R10: the list is readable and gives 1 to 100 addresses, each counted as often as it stands
unfoldable pub recipient_list : Option (List (List ℕ)) → Bool
recipient_list None = false
recipient_list (Some list) = one_to most_recipients (length list)

-- A1, R10: behind rows 1 and 2, 10 for the list, which is read as it is, not unfolded (L19)
unfoldable pub recommending_rows : List ℕ → List ℕ → List Row
recommending_rows table recipients = table_rows table ++ ((Recipients unless recipient_list (addresses recipients)) ∷ [])

-- A1, R31: the first of these rows that holds
unfoldable pub refused_recommending : List ℕ → List ℕ → Option Refusal
refused_recommending table recipients = first_of (recommending_rows table recipients)

-- the answer on these rows; the tags are handed on where there is nothing to refuse
pub record Admits (table tags recipients : List ℕ) (r : Result (Unit {0}) Refusal) : Type 0 where
  pub answer : r ≡ answer_of (refused_recommending table recipients)
  pub opens : r ≡ Ok tt → Open table tags

-- R10, A5, A13: what a walk over the list finds: the advice for all, and how many recipients are looked up; or that it is no such list
unfoldable pub survey_of : List ℕ → Bool → Bool → Option (List (List ℕ)) → Option Surveyed
survey_of table is_mutual reply list =
    let all = advised table is_mutual reply (or_else [] list) in
    elim (recipient_list list) [ true ↦ Some (record { advice = overall all; looked_up = first_disable all }) | false ↦ None ]

-- A1, A5: what `recommend` answers: a refusal, or the advice for the whole list
unfoldable pub recommended_of : List ℕ → List ℕ → Bool → Bool → Result Advice Refusal
recommended_of table recipients is_mutual reply =
    answered_by (refused_recommending table recipients) Err (Ok (overall (advised table is_mutual reply (or_else [] (addresses recipients)))))

-- A13, A14: how many recipients `recommend_quick` looks up; 0 where `recommend` refuses
unfoldable pub looked_up_of : List ℕ → List ℕ → Bool → Bool → ℕ
looked_up_of table recipients is_mutual reply =
    unless_refused (refused_recommending table recipients) 0 (first_disable (advised table is_mutual reply (or_else [] (addresses recipients))))

-- A12: what `recommend_quick` answers: the answer of `recommend`, and that count
unfoldable pub quick_of : List ℕ → List ℕ → Bool → Bool → Quick
quick_of table recipients is_mutual reply =
    record { answer = recommended_of table recipients is_mutual reply; looked_up = looked_up_of table recipients is_mutual reply }

-- A6, A7: the target key at a place of the list, as a part of the table; an empty part where `recommend` refuses. Neither the advice for the list
-- (A8) nor preference and reply (A9) change it
unfoldable pub target_part_of : List ℕ → List ℕ → ℕ → Part
target_part_of table recipients place = unless_refused (refused_recommending table recipients) no_part (target_at table (or_else [] (addresses recipients)) place)

-- A6, A7: the octets of that part: the target key of the entry, and none where the part is empty
unfoldable pub target_key_of : List ℕ → List ℕ → ℕ → List ℕ
target_key_of table recipients place =
    unless_refused (refused_recommending table recipients) [] (get_or (targets table (or_else [] (addresses recipients))) place [])
