-- SCOPE, C2: what the contracts of the functions of include/vienghulac.h ask of an outcome, in the words of cabi/src: as in Outcomes.antt, with the
-- answers in numbers.
--     VienghulacCheck, VienghulacProcess                 vienghulac_check, vienghulac_process
--     VienghulacConvert                                  vienghulac_convert
--     VienghulacEntry                                    vienghulac_entry
--     VienghulacRecommend, VienghulacRecommendQuick      vienghulac_recommend, vienghulac_recommend_quick
--     VienghulacTargetKey                                vienghulac_target_key
--     VienghulacWriteAutocrypt, VienghulacWriteGossip    vienghulac_write_autocrypt, vienghulac_write_gossip
--     VienghulacDisplay                                  vienghulac_display
--     VienghulacLint                                     vienghulac_lint
use Rattle.std.specs.Prelude.{ℕ, ◌≡◌, Bool, false, List, [], ◌∷◌, length}
use Rattle.refusals.specs.Rows.{first_of, answer_of}
use Rattle.inspect.specs.Inspecting.{table_rows, refused_showing, left_by_showing}
use Rattle.convert.specs.Converting.{refused_converting, left_by_converting}
use Rattle.process.specs.Processing.{refused_processing, left_by_processing}
use Rattle.recommend.specs.Recommending.{recommended_of, quick_of, target_part_of}
use Rattle.names.specs.Names.{autocrypt as autocrypt_name, gossip as gossip_name}
use Rattle.write.specs.Writing.{written_of, left_by_writing}
use Rattle.display.specs.Displaying.{displayed_of, left_by_displaying}
use Rattle.lint.specs.Linting.{linted_of, left_by_linting}
use Rattle.cabi.specs.Numbers.{in_numbers, written_in_numbers, setting_of, advice_in_numbers, quick_in_numbers, part_in_numbers, linted_in_numbers}
use Rattle.cabi.specs.declared.numbers.Answer.{Answer}
use Rattle.cabi.specs.declared.numbers.Advice.{Advice}
use Rattle.cabi.specs.declared.numbers.Linted.{Linted}
use Rattle.cabi.specs.declared.numbers.Part.{Part}
use Rattle.cabi.specs.declared.numbers.Quick.{Quick}
use Rattle.cabi.specs.declared.numbers.Written.{Written}
use Rattle.outcomes.specs.Outcomes.{Meets}

-- T13, R33: what `vienghulac_check` answers
abbrev pub VienghulacCheck : List ℕ → Answer → List (Type 0)
VienghulacCheck table r = (r ≡ in_numbers (answer_of (first_of (table_rows table)))) ∷ []

-- T16, T17: what `vienghulac_convert` answers, and the table that it leaves
abbrev pub VienghulacConvert : List ℕ → Answer → List ℕ → List (Type 0)
VienghulacConvert table r left = Meets (in_numbers (answer_of (refused_converting table))) (left_by_converting table) r left

-- U2, G1: what `vienghulac_process` answers, and the table that it leaves, by the number that is given as the gossip setting
abbrev pub VienghulacProcess : List ℕ → ℕ → List ℕ → List ℕ → ℕ → Answer → List ℕ → List (Type 0)
VienghulacProcess table receipt outer payload gossip r left =
    Meets (in_numbers (answer_of (refused_processing table receipt outer payload (setting_of gossip))))
    (left_by_processing table receipt outer payload (setting_of gossip)) r left

-- T14: what `vienghulac_entry` answers, and the numbers that it leaves
abbrev pub VienghulacEntry : List ℕ → ℕ → List ℕ → Answer → List ℕ → List (Type 0)
VienghulacEntry table slot numbers r left = Meets (in_numbers (answer_of (refused_showing table (length numbers)))) (left_by_showing table slot numbers) r left

-- A1: what `vienghulac_recommend` answers
abbrev pub VienghulacRecommend : List ℕ → List ℕ → Bool → Bool → Advice → List (Type 0)
VienghulacRecommend table recipients is_mutual reply r = (r ≡ advice_in_numbers (recommended_of table recipients is_mutual reply)) ∷ []

-- A12, A13: what `vienghulac_recommend_quick` answers
abbrev pub VienghulacRecommendQuick : List ℕ → List ℕ → Bool → Bool → Quick → List (Type 0)
VienghulacRecommendQuick table recipients is_mutual reply r = (r ≡ quick_in_numbers (quick_of table recipients is_mutual reply)) ∷ []

-- A6, A7, A9: what `vienghulac_target_key` answers
abbrev pub VienghulacTargetKey : List ℕ → List ℕ → Bool → Bool → ℕ → Part → List (Type 0)
VienghulacTargetKey table recipients is_mutual reply place r = (r ≡ part_in_numbers (target_part_of table recipients place)) ∷ []

-- W1, W6, R34: what `vienghulac_write_autocrypt` answers, and the output that it leaves
abbrev pub VienghulacWriteAutocrypt : List ℕ → List ℕ → Bool → List ℕ → Written → List ℕ → List (Type 0)
VienghulacWriteAutocrypt address key is_mutual out r left =
    Meets (written_in_numbers (written_of autocrypt_name address is_mutual key (length out))) (left_by_writing autocrypt_name address is_mutual key out) r left

-- W1, W6, R34: what `vienghulac_write_gossip` answers, and the output that it leaves
abbrev pub VienghulacWriteGossip : List ℕ → List ℕ → List ℕ → Written → List ℕ → List (Type 0)
VienghulacWriteGossip address key out r left =
    Meets (written_in_numbers (written_of gossip_name address false key (length out))) (left_by_writing gossip_name address false key out) r left

-- W11, R34: what `vienghulac_display` answers, and the output that it leaves
abbrev pub VienghulacDisplay : List ℕ → List ℕ → Written → List ℕ → List (Type 0)
VienghulacDisplay address out r left = Meets (written_in_numbers (displayed_of address (length out))) (left_by_displaying address out) r left

-- O1: what `vienghulac_lint` answers, and the list that it leaves
abbrev pub VienghulacLint : List ℕ → List ℕ → List ℕ → Linted → List ℕ → List (Type 0)
VienghulacLint outer payload list r left = Meets (linted_in_numbers (linted_of outer payload (length list))) (left_by_linting outer payload list) r left
