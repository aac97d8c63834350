-- C2 and R32: every input has one outcome, and a refusal leaves lent memory as it was.
--     one_answer, one_outcome       two outcomes that meet the same equations are the same: the general statement
--     number_unique .. lint_unique  so for each public function
--     vienghulac_check_unique ..    and for each function of include/vienghulac.h
--     convert_refusal, process_refusal, entry_refusal, write_autocrypt_refusal, write_gossip_refusal, display_refusal, lint_refusal    what a refusal leaves
-- That each number is given exactly when its row holds and no row before it (C3) is `exactly` of refusals/proofs/Rows, for the rows of every call.
-- Assumes nothing.
use Rattle.std.specs.Prelude.{Result, Err}
use Rattle.advice.specs.declared.Advice.{Advice as Advised}
use Prim.Native.Nat.{ℕ}
use mathlib.Core.Path.{◌≡◌, sym, ◌∙◌}
use mathlib.Core.Bool.{Bool, false}
use mathlib.Core.List.{List}
use borrow.Fn.Claims.{AllOf}
use Rattle.advice.specs.declared.Part.{Part}
use Rattle.refusals.specs.declared.Refusal.{Refusal}
use Rattle.inspect.proofs.Showing.{refused_untouched as unshown}
use Rattle.convert.proofs.Outcomes.{refused_untouched as unconverted}
use Rattle.settings.specs.declared.Gossip.{Gossip}
use Rattle.process.proofs.Outcomes.{refused_untouched as unprocessed}
use Rattle.recommend.specs.declared.Quick.{Quick}
use Rattle.recommend.proofs.Range.{quick_whole}
use Rattle.names.specs.Names.{autocrypt as autocrypt_name, gossip as gossip_name}
use Rattle.write.proofs.Outcomes.{refused_untouched as unwritten}
use Rattle.display.proofs.Outcomes.{refused_untouched as undisplayed}
use Rattle.lint.proofs.Outcomes.{refused_untouched as unlinted}
use Rattle.cabi.specs.declared.numbers.Answer.{Answer as AnswerInC}
use Rattle.cabi.specs.declared.numbers.Advice.{Advice}
use Rattle.cabi.specs.declared.numbers.Linted.{Linted as LintedInC}
use Rattle.cabi.specs.declared.numbers.Part.{Part as PartInC}
use Rattle.cabi.specs.declared.numbers.Quick.{Quick as QuickInC}
use Rattle.cabi.specs.declared.numbers.Written.{Written as WrittenInC}
use Rattle.outcomes.specs.OutcomesInC.{VienghulacCheck, VienghulacConvert, VienghulacProcess, VienghulacEntry, VienghulacRecommend, VienghulacRecommendQuick, VienghulacTargetKey, VienghulacWriteAutocrypt, VienghulacWriteGossip, VienghulacDisplay, VienghulacLint}
use Rattle.outcomes.specs.Outcomes.{Meets, Number, Index, Check, Convert, Process, Entry, Recommend, RecommendQuick, TargetPart, TargetKey, WriteAutocrypt, WriteGossip, Display, Lint}

pub one_answer : {A : Type 0} (defined r q : A) → r ≡ defined → q ≡ defined → r ≡ q
one_answer defined r q h k = h ∙ sym k

pub one_outcome : {A : Type 0} (answer : A) (memory : List ℕ) (r q : A) (left other : List ℕ)
    → AllOf (Meets answer memory r left) → AllOf (Meets answer memory q other)
    → (r ≡ q) × (left ≡ other)
one_outcome answer memory r q left other h k = (h.0 ∙ sym k.0, h.1 ∙ sym k.1)

pub number_unique : (refusal : Refusal) (r q : ℕ) → AllOf (Number refusal r) → AllOf (Number refusal q) → r ≡ q
number_unique refusal r q = one_answer _ r q

pub index_unique : (refusal : Refusal) (r q : ℕ) → AllOf (Index refusal r) → AllOf (Index refusal q) → r ≡ q
index_unique refusal r q = one_answer _ r q

pub check_unique : (table : List ℕ) (r q : Result (Unit {0}) Refusal) → AllOf (Check table r) → AllOf (Check table q) → r ≡ q
check_unique table r q = one_answer _ r q

pub convert_unique : (table : List ℕ) (r q : Result (Unit {0}) Refusal) (left other : List ℕ)
    → AllOf (Convert table r left) → AllOf (Convert table q other) → (r ≡ q) × (left ≡ other)
convert_unique table r q left other = one_outcome _ _ r q left other

pub process_unique : (table : List ℕ) (receipt : ℕ) (outer payload : List ℕ) (gossip : Gossip) (r q : Result (Unit {0}) Refusal) (left other : List ℕ)
    → AllOf (Process table receipt outer payload gossip r left) → AllOf (Process table receipt outer payload gossip q other) → (r ≡ q) × (left ≡ other)
process_unique table receipt outer payload gossip r q left other = one_outcome _ _ r q left other

pub entry_unique : (table : List ℕ) (slot : ℕ) (numbers : List ℕ) (r q : Result (Unit {0}) Refusal) (left other : List ℕ)
    → AllOf (Entry table slot numbers r left) → AllOf (Entry table slot numbers q other) → (r ≡ q) × (left ≡ other)
entry_unique table slot numbers r q left other = one_outcome _ _ r q left other

pub recommend_unique : (table recipients : List ℕ) (is_mutual reply : Bool) (r q : Result Advised Refusal)
    → AllOf (Recommend table recipients is_mutual reply r) → AllOf (Recommend table recipients is_mutual reply q) → r ≡ q
recommend_unique table recipients is_mutual reply r q = one_answer _ r q

pub recommend_quick_unique : (table recipients : List ℕ) (is_mutual reply : Bool) (r q : Quick)
    → AllOf (RecommendQuick table recipients is_mutual reply r) → AllOf (RecommendQuick table recipients is_mutual reply q) → r ≡ q
recommend_quick_unique table recipients is_mutual reply r q h k =
    one_answer _ r q (quick_whole table recipients is_mutual reply r h.0 h.1) (quick_whole table recipients is_mutual reply q k.0 k.1)

pub target_part_unique : (table recipients : List ℕ) (is_mutual reply : Bool) (place : ℕ) (r q : Part)
    → AllOf (TargetPart table recipients is_mutual reply place r) → AllOf (TargetPart table recipients is_mutual reply place q) → r ≡ q
target_part_unique table recipients is_mutual reply place r q = one_answer _ r q

pub target_key_unique : (table recipients : List ℕ) (is_mutual reply : Bool) (place : ℕ) (r q : List ℕ)
    → AllOf (TargetKey table recipients is_mutual reply place r) → AllOf (TargetKey table recipients is_mutual reply place q) → r ≡ q
target_key_unique table recipients is_mutual reply place r q h k = one_answer _ r q h.0 k.0

pub write_autocrypt_unique : (address key : List ℕ) (is_mutual : Bool) (out : List ℕ) (r q : Result ℕ Refusal) (left other : List ℕ)
    → AllOf (WriteAutocrypt address key is_mutual out r left) → AllOf (WriteAutocrypt address key is_mutual out q other) → (r ≡ q) × (left ≡ other)
write_autocrypt_unique address key is_mutual out r q left other = one_outcome _ _ r q left other

pub write_gossip_unique : (address key out : List ℕ) (r q : Result ℕ Refusal) (left other : List ℕ)
    → AllOf (WriteGossip address key out r left) → AllOf (WriteGossip address key out q other) → (r ≡ q) × (left ≡ other)
write_gossip_unique address key out r q left other = one_outcome _ _ r q left other

pub display_unique : (address out : List ℕ) (r q : Result ℕ Refusal) (left other : List ℕ)
    → AllOf (Display address out r left) → AllOf (Display address out q other) → (r ≡ q) × (left ≡ other)
display_unique address out r q left other = one_outcome _ _ r q left other

pub lint_unique : (outer payload list : List ℕ) (r q : Result ℕ Refusal) (left other : List ℕ)
    → AllOf (Lint outer payload list r left) → AllOf (Lint outer payload list q other) → (r ≡ q) × (left ≡ other)
lint_unique outer payload list r q left other = one_outcome _ _ r q left other

-- one outcome of each function of the C interface, too
pub vienghulac_check_unique : (table : List ℕ) (r q : AnswerInC) → AllOf (VienghulacCheck table r) → AllOf (VienghulacCheck table q) → r ≡ q
vienghulac_check_unique table r q = one_answer _ r q

pub vienghulac_convert_unique : (table : List ℕ) (r q : AnswerInC) (left other : List ℕ)
    → AllOf (VienghulacConvert table r left) → AllOf (VienghulacConvert table q other) → (r ≡ q) × (left ≡ other)
vienghulac_convert_unique table r q left other = one_outcome _ _ r q left other

pub vienghulac_process_unique : (table : List ℕ) (receipt : ℕ) (outer payload : List ℕ) (gossip : ℕ) (r q : AnswerInC) (left other : List ℕ)
    → AllOf (VienghulacProcess table receipt outer payload gossip r left) → AllOf (VienghulacProcess table receipt outer payload gossip q other)
    → (r ≡ q) × (left ≡ other)
vienghulac_process_unique table receipt outer payload gossip r q left other = one_outcome _ _ r q left other

pub vienghulac_entry_unique : (table : List ℕ) (slot : ℕ) (numbers : List ℕ) (r q : AnswerInC) (left other : List ℕ)
    → AllOf (VienghulacEntry table slot numbers r left) → AllOf (VienghulacEntry table slot numbers q other) → (r ≡ q) × (left ≡ other)
vienghulac_entry_unique table slot numbers r q left other = one_outcome _ _ r q left other

pub vienghulac_recommend_unique : (table recipients : List ℕ) (is_mutual reply : Bool) (r q : Advice)
    → AllOf (VienghulacRecommend table recipients is_mutual reply r) → AllOf (VienghulacRecommend table recipients is_mutual reply q) → r ≡ q
vienghulac_recommend_unique table recipients is_mutual reply r q = one_answer _ r q

pub vienghulac_recommend_quick_unique : (table recipients : List ℕ) (is_mutual reply : Bool) (r q : QuickInC)
    → AllOf (VienghulacRecommendQuick table recipients is_mutual reply r) → AllOf (VienghulacRecommendQuick table recipients is_mutual reply q) → r ≡ q
vienghulac_recommend_quick_unique table recipients is_mutual reply r q = one_answer _ r q

pub vienghulac_target_key_unique : (table recipients : List ℕ) (is_mutual reply : Bool) (place : ℕ) (r q : PartInC)
    → AllOf (VienghulacTargetKey table recipients is_mutual reply place r) → AllOf (VienghulacTargetKey table recipients is_mutual reply place q) → r ≡ q
vienghulac_target_key_unique table recipients is_mutual reply place r q = one_answer _ r q

pub vienghulac_write_autocrypt_unique : (address key : List ℕ) (is_mutual : Bool) (out : List ℕ) (r q : WrittenInC) (left other : List ℕ)
    → AllOf (VienghulacWriteAutocrypt address key is_mutual out r left) → AllOf (VienghulacWriteAutocrypt address key is_mutual out q other)
    → (r ≡ q) × (left ≡ other)
vienghulac_write_autocrypt_unique address key is_mutual out r q left other = one_outcome _ _ r q left other

pub vienghulac_write_gossip_unique : (address key out : List ℕ) (r q : WrittenInC) (left other : List ℕ)
    → AllOf (VienghulacWriteGossip address key out r left) → AllOf (VienghulacWriteGossip address key out q other) → (r ≡ q) × (left ≡ other)
vienghulac_write_gossip_unique address key out r q left other = one_outcome _ _ r q left other

pub vienghulac_display_unique : (address out : List ℕ) (r q : WrittenInC) (left other : List ℕ)
    → AllOf (VienghulacDisplay address out r left) → AllOf (VienghulacDisplay address out q other) → (r ≡ q) × (left ≡ other)
vienghulac_display_unique address out r q left other = one_outcome _ _ r q left other

pub vienghulac_lint_unique : (outer payload list : List ℕ) (r q : LintedInC) (left other : List ℕ)
    → AllOf (VienghulacLint outer payload list r left) → AllOf (VienghulacLint outer payload list q other) → (r ≡ q) × (left ≡ other)
vienghulac_lint_unique outer payload list r q left other = one_outcome _ _ r q left other

-- R32: a refused call writes nothing
pub convert_refusal : (table : List ℕ) (refusal : Refusal) (left : List ℕ) → AllOf (Convert table (Err refusal) left) → left ≡ table
convert_refusal table refusal left h = h.1 ∙ unconverted table refusal (sym h.0)

pub process_refusal : (table : List ℕ) (receipt : ℕ) (outer payload : List ℕ) (gossip : Gossip) (refusal : Refusal) (left : List ℕ)
    → AllOf (Process table receipt outer payload gossip (Err refusal) left) → left ≡ table
process_refusal table receipt outer payload gossip refusal left h =
    h.1 ∙ unprocessed table receipt outer payload gossip refusal (sym h.0)

pub entry_refusal : (table : List ℕ) (slot : ℕ) (numbers : List ℕ) (refusal : Refusal) (left : List ℕ)
    → AllOf (Entry table slot numbers (Err refusal) left) → left ≡ numbers
entry_refusal table slot numbers refusal left h = h.1 ∙ unshown table slot numbers refusal (sym h.0)

pub write_autocrypt_refusal : (address key : List ℕ) (is_mutual : Bool) (out : List ℕ) (refusal : Refusal) (left : List ℕ)
    → AllOf (WriteAutocrypt address key is_mutual out (Err refusal) left) → left ≡ out
write_autocrypt_refusal address key is_mutual out refusal left h =
    h.1 ∙ unwritten autocrypt_name address is_mutual key out refusal (sym h.0)

pub write_gossip_refusal : (address key out : List ℕ) (refusal : Refusal) (left : List ℕ)
    → AllOf (WriteGossip address key out (Err refusal) left) → left ≡ out
write_gossip_refusal address key out refusal left h =
    h.1 ∙ unwritten gossip_name address false key out refusal (sym h.0)

pub display_refusal : (address out : List ℕ) (refusal : Refusal) (left : List ℕ)
    → AllOf (Display address out (Err refusal) left) → left ≡ out
display_refusal address out refusal left h = h.1 ∙ undisplayed address out refusal (sym h.0)

pub lint_refusal : (outer payload list : List ℕ) (refusal : Refusal) (left : List ℕ)
    → AllOf (Lint outer payload list (Err refusal) left) → left ≡ list
lint_refusal outer payload list refusal left h = h.1 ∙ unlinted outer payload list refusal (sym h.0)
