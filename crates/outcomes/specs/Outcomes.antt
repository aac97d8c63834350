-- SCOPE, C2: what the contracts of the public functions ask of an outcome: of the answer r, and of what the memory lent for writing holds
-- afterwards. Each is the list of what a contract ensures, clause by clause, in the words of the sources; that the contract is this list is shown
-- in proofs/Contracts.
--     Meets                              an outcome of a function that is lent memory for writing: two equations
--     Number, Index, Check               number, index, check
--     Convert                            convert
--     Process, Entry                     process, entry
--     Recommend, RecommendQuick          recommend, recommend_quick
--     TargetPart, TargetKey              target_part, target_key
--     WriteAutocrypt, WriteGossip        write_autocrypt, write_gossip
--     Display                            display
--     Lint                               lint
-- Number and values of an answer come from one definition for each call (C5).
use Rattle.std.specs.Prelude.{ℕ, ◌≡◌, Bool, false, List, [], ◌∷◌, length, Result}
use Rattle.advice.specs.declared.Advice.{Advice}
use Rattle.advice.specs.Places.{octets_at}
use Rattle.advice.specs.declared.Part.{Part}
use Rattle.refusals.specs.Refusals.{number_of, index_of}
use Rattle.refusals.specs.Rows.{first_of, answer_of}
use Rattle.refusals.specs.declared.Refusal.{Refusal}
use Rattle.inspect.specs.Inspecting.{table_rows, refused_showing, left_by_showing}
use Rattle.convert.specs.Converting.{refused_converting, left_by_converting}
use Rattle.process.specs.Processing.{refused_processing, left_by_processing}
use Rattle.settings.specs.declared.Gossip.{Gossip}
use Rattle.recommend.specs.Recommending.{recommended_of, looked_up_of, target_part_of, target_key_of}
use Rattle.recommend.specs.declared.Quick.{Quick}
use Rattle.names.specs.Names.{autocrypt as autocrypt_name, gossip as gossip_name}
use Rattle.write.specs.Writing.{written_of, left_by_writing}
use Rattle.display.specs.Displaying.{displayed_of, left_by_displaying}
use Rattle.lint.specs.Linting.{linted_of, left_by_linting}

-- C2: the answer is the one that is promised, and so is what the memory holds
abbrev pub Meets : {A : Type 0} → A → List ℕ → A → List ℕ → List (Type 0)
Meets answer memory r left = (r ≡ answer) ∷ (left ≡ memory) ∷ []

-- R33: what `number` gives for a refusal
abbrev pub Number : Refusal → ℕ → List (Type 0)
Number refusal r = (r ≡ number_of refusal) ∷ []

-- R33: what `index` gives for a refusal
abbrev pub Index : Refusal → ℕ → List (Type 0)
Index refusal r = (r ≡ index_of refusal) ∷ []

-- T13: what `check` answers
abbrev pub Check : List ℕ → Result (Unit {0}) Refusal → List (Type 0)
Check table r = (r ≡ answer_of (first_of (table_rows table))) ∷ []

-- T16, T17: what `convert` answers, and the table that it leaves
abbrev pub Convert : List ℕ → Result (Unit {0}) Refusal → List ℕ → List (Type 0)
Convert table r left = Meets (answer_of (refused_converting table)) (left_by_converting table) r left

-- U2: what `process` answers, and the table that it leaves
abbrev pub Process : List ℕ → ℕ → List ℕ → List ℕ → Gossip → Result (Unit {0}) Refusal → List ℕ → List (Type 0)
Process table receipt outer payload gossip r left =
    Meets (answer_of (refused_processing table receipt outer payload gossip)) (left_by_processing table receipt outer payload gossip) r left

-- T14: what `entry` answers for the numbers that are lent, and the numbers that it leaves
abbrev pub Entry : List ℕ → ℕ → List ℕ → Result (Unit {0}) Refusal → List ℕ → List (Type 0)
Entry table slot numbers r left = Meets (answer_of (refused_showing table (length numbers))) (left_by_showing table slot numbers) r left

-- A1: what `recommend` answers
abbrev pub Recommend : List ℕ → List ℕ → Bool → Bool → Result Advice Refusal → List (Type 0)
Recommend table recipients is_mutual reply r = (r ≡ recommended_of table recipients is_mutual reply) ∷ []

-- A12, A13: what `recommend_quick` answers: what `recommend` does, and the count
abbrev pub RecommendQuick : List ℕ → List ℕ → Bool → Bool → Quick → List (Type 0)
RecommendQuick table recipients is_mutual reply r =
    (r.answer ≡ recommended_of table recipients is_mutual reply) ∷ (r.looked_up ≡ looked_up_of table recipients is_mutual reply) ∷ []

-- A6, A7, A9: the part that `target_part` answers, which does not depend on preference and reply
abbrev pub TargetPart : List ℕ → List ℕ → Bool → Bool → ℕ → Part → List (Type 0)
TargetPart table recipients is_mutual reply place r = (r ≡ target_part_of table recipients place) ∷ []

-- A6, A7, A9: the octets that `target_key` hands back: what they are, and which of the table's they are
abbrev pub TargetKey : List ℕ → List ℕ → Bool → Bool → ℕ → List ℕ → List (Type 0)
TargetKey table recipients is_mutual reply place r =
    (r ≡ target_key_of table recipients place) ∷ (r ≡ octets_at table (target_part_of table recipients place)) ∷ []

-- W1, W6: what `write_autocrypt` answers, and the output that it leaves
abbrev pub WriteAutocrypt : List ℕ → List ℕ → Bool → List ℕ → Result ℕ Refusal → List ℕ → List (Type 0)
WriteAutocrypt address key is_mutual out r left =
    Meets (written_of autocrypt_name address is_mutual key (length out)) (left_by_writing autocrypt_name address is_mutual key out) r left

-- W1, W6: what `write_gossip` answers, and the output that it leaves; it has no preference (W3)
abbrev pub WriteGossip : List ℕ → List ℕ → List ℕ → Result ℕ Refusal → List ℕ → List (Type 0)
WriteGossip address key out r left =
    Meets (written_of gossip_name address false key (length out)) (left_by_writing gossip_name address false key out) r left

-- W11: what `display` answers, and the output that it leaves
abbrev pub Display : List ℕ → List ℕ → Result ℕ Refusal → List ℕ → List (Type 0)
Display address out r left = Meets (displayed_of address (length out)) (left_by_displaying address out) r left

-- O1: what `lint` answers, and the list that it leaves
abbrev pub Lint : List ℕ → List ℕ → List ℕ → Result ℕ Refusal → List ℕ → List (Type 0)
Lint outer payload list r left = Meets (linted_of outer payload (length list)) (left_by_linting outer payload list) r left
