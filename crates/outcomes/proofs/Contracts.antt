-- C1, C2: the contract of each public function, as the toolchain makes it of the source, is the claims of Outcomes or OutcomesInC: it requires
-- nothing, it ensures these claims, and nothing else. So a contract that is weakened, or a claim that is not the contract's, is refused here. That
-- no public function is left out is read from the sources by tests/texts/test_outcomes.py. Assumes nothing.
--     number_contract .. lint_contract            the functions that autocrypt passes on
--     vienghulac_check_contract ..                the functions of include/vienghulac.h
-- `spec` is the contract that the function's theorem is about. Of a call, a is the arguments, r the answer, and e the arguments as it leaves them;
-- `now` is what a slice holds.
use mathlib.Core.Path.{◌≡◌, refl}
use seplogic.Ra.Ura.{Ura}
use base.Logic.{SProp}
use contract.Monad.{Fun}
use prog.Memory.{Memory}
use prog.Routine.{Routine}
use types.Logic.{Logic}
use Rattle.refusals.specs.contracts.number as number
use Rattle.refusals.specs.contracts.index as index
use Rattle.inspect.specs.contracts.check as check
use Rattle.convert.specs.contracts.convert as convert
use Rattle.process.specs.contracts.process as process
use Rattle.inspect.specs.contracts.entry as entry
use Rattle.recommend.specs.contracts.recommend as recommend
use Rattle.recommend.specs.contracts.recommend_quick as recommend_quick
use Rattle.recommend.specs.contracts.target_part as target_part
use Rattle.recommend.specs.contracts.target_key as target_key
use Rattle.write.specs.contracts.write_autocrypt as write_autocrypt
use Rattle.write.specs.contracts.write_gossip as write_gossip
use Rattle.display.specs.contracts.display as display
use Rattle.lint.specs.contracts.lint as lint
use Rattle.cabi.specs.contracts.tables.vienghulac_check as vienghulac_check
use Rattle.cabi.specs.contracts.tables.vienghulac_convert as vienghulac_convert
use Rattle.cabi.specs.contracts.messages.vienghulac_process as vienghulac_process
use Rattle.cabi.specs.contracts.tables.vienghulac_entry as vienghulac_entry
use Rattle.cabi.specs.contracts.recommending.vienghulac_recommend as vienghulac_recommend
use Rattle.cabi.specs.contracts.recommending.vienghulac_recommend_quick as vienghulac_recommend_quick
use Rattle.cabi.specs.contracts.recommending.vienghulac_target_key as vienghulac_target_key
use Rattle.cabi.specs.contracts.writing.vienghulac_write_autocrypt as vienghulac_write_autocrypt
use Rattle.cabi.specs.contracts.writing.vienghulac_write_gossip as vienghulac_write_gossip
use Rattle.cabi.specs.contracts.writing.vienghulac_display as vienghulac_display
use Rattle.cabi.specs.contracts.linting.vienghulac_lint as vienghulac_lint
use Rattle.outcomes.specs.Outcomes.{Number, Index, Check, Convert, Process, Entry, Recommend, RecommendQuick, TargetPart, TargetKey, WriteAutocrypt, WriteGossip, Display, Lint}
use Rattle.outcomes.specs.OutcomesInC.{VienghulacCheck, VienghulacConvert, VienghulacProcess, VienghulacEntry, VienghulacRecommend, VienghulacRecommendQuick, VienghulacTargetKey, VienghulacWriteAutocrypt, VienghulacWriteGossip, VienghulacDisplay, VienghulacLint}
use Rattle.outcomes.specs.Claims.{ensuring}

-- in every model of the toolchain's logic
module _ {M : Type 1} {𝓤 : Ura M} (𝓛 : Logic 𝓤) (mem : Memory → SProp 𝓤) (run : Routine → Fun 𝓤) where
  pub number_contract : number.spec 𝓛 mem run ≡ ensuring 𝓤 𝓛 number.ended (λ κs a r e. Number a.0 r)
  number_contract = refl

  pub index_contract : index.spec 𝓛 mem run ≡ ensuring 𝓤 𝓛 index.ended (λ κs a r e. Index a.0 r)
  index_contract = refl

  pub check_contract : check.spec 𝓛 mem run ≡ ensuring 𝓤 𝓛 check.ended (λ κs a r e. Check a.0.now r)
  check_contract = refl

  pub convert_contract : convert.spec 𝓛 mem run ≡ ensuring 𝓤 𝓛 convert.ended (λ κs a r e. Convert a.0.now r e.0.now)
  convert_contract = refl

  pub process_contract : process.spec 𝓛 mem run
      ≡ ensuring 𝓤 𝓛 process.ended
      (λ κs a r e. Process a.0.now a.1.0 a.1.1.0.now a.1.1.1.0.now a.1.1.1.1.0 r e.0.now)
  process_contract = refl

  pub entry_contract : entry.spec 𝓛 mem run
      ≡ ensuring 𝓤 𝓛 entry.ended (λ κs a r e. Entry a.0.now a.1.0 a.1.1.0.now r e.1.1.0.now)
  entry_contract = refl

  pub recommend_contract : recommend.spec 𝓛 mem run
      ≡ ensuring 𝓤 𝓛 recommend.ended (λ κs a r e. Recommend a.0.now a.1.0.now a.1.1.0 a.1.1.1.0 r)
  recommend_contract = refl

  pub recommend_quick_contract : recommend_quick.spec 𝓛 mem run
      ≡ ensuring 𝓤 𝓛 recommend_quick.ended (λ κs a r e. RecommendQuick a.0.now a.1.0.now a.1.1.0 a.1.1.1.0 r)
  recommend_quick_contract = refl

  pub target_part_contract : target_part.spec 𝓛 mem run
      ≡ ensuring 𝓤 𝓛 target_part.ended
      (λ κs a r e. TargetPart a.0.now a.1.0.now a.1.1.0 a.1.1.1.0 a.1.1.1.1.0 r)
  target_part_contract = refl

  pub target_key_contract : target_key.spec 𝓛 mem run
      ≡ ensuring 𝓤 𝓛 target_key.ended
      (λ κs a r e. TargetKey a.0.now a.1.0.now a.1.1.0 a.1.1.1.0 a.1.1.1.1.0 r.now)
  target_key_contract = refl

  pub write_autocrypt_contract : write_autocrypt.spec 𝓛 mem run
      ≡ ensuring 𝓤 𝓛 write_autocrypt.ended
      (λ κs a r e. WriteAutocrypt a.0.now a.1.0.now a.1.1.0 a.1.1.1.0.now r e.1.1.1.0.now)
  write_autocrypt_contract = refl

  pub write_gossip_contract : write_gossip.spec 𝓛 mem run
      ≡ ensuring 𝓤 𝓛 write_gossip.ended (λ κs a r e. WriteGossip a.0.now a.1.0.now a.1.1.0.now r e.1.1.0.now)
  write_gossip_contract = refl

  pub display_contract : display.spec 𝓛 mem run
      ≡ ensuring 𝓤 𝓛 display.ended (λ κs a r e. Display a.0.now a.1.0.now r e.1.0.now)
  display_contract = refl

  pub lint_contract : lint.spec 𝓛 mem run
      ≡ ensuring 𝓤 𝓛 lint.ended (λ κs a r e. Lint a.0.now a.1.0.now a.1.1.0.now r e.1.1.0.now)
  lint_contract = refl

  pub vienghulac_check_contract : vienghulac_check.spec 𝓛 mem run ≡ ensuring 𝓤 𝓛 vienghulac_check.ended (λ κs a r e. VienghulacCheck a.0.now r)
  vienghulac_check_contract = refl

  pub vienghulac_convert_contract : vienghulac_convert.spec 𝓛 mem run
      ≡ ensuring 𝓤 𝓛 vienghulac_convert.ended (λ κs a r e. VienghulacConvert a.0.now r e.0.now)
  vienghulac_convert_contract = refl

  pub vienghulac_process_contract : vienghulac_process.spec 𝓛 mem run
      ≡ ensuring 𝓤 𝓛 vienghulac_process.ended
      (λ κs a r e. VienghulacProcess a.0.now a.1.0 a.1.1.0.now a.1.1.1.0.now a.1.1.1.1.0 r e.0.now)
  vienghulac_process_contract = refl

  pub vienghulac_entry_contract : vienghulac_entry.spec 𝓛 mem run
      ≡ ensuring 𝓤 𝓛 vienghulac_entry.ended (λ κs a r e. VienghulacEntry a.0.now a.1.0 a.1.1.0.now r e.1.1.0.now)
  vienghulac_entry_contract = refl

  pub vienghulac_recommend_contract : vienghulac_recommend.spec 𝓛 mem run
      ≡ ensuring 𝓤 𝓛 vienghulac_recommend.ended
      (λ κs a r e. VienghulacRecommend a.0.now a.1.0.now a.1.1.0 a.1.1.1.0 r)
  vienghulac_recommend_contract = refl

  pub vienghulac_recommend_quick_contract : vienghulac_recommend_quick.spec 𝓛 mem run
      ≡ ensuring 𝓤 𝓛 vienghulac_recommend_quick.ended
      (λ κs a r e. VienghulacRecommendQuick a.0.now a.1.0.now a.1.1.0 a.1.1.1.0 r)
  vienghulac_recommend_quick_contract = refl

  pub vienghulac_target_key_contract : vienghulac_target_key.spec 𝓛 mem run
      ≡ ensuring 𝓤 𝓛 vienghulac_target_key.ended
      (λ κs a r e. VienghulacTargetKey a.0.now a.1.0.now a.1.1.0 a.1.1.1.0 a.1.1.1.1.0 r)
  vienghulac_target_key_contract = refl

  pub vienghulac_write_autocrypt_contract : vienghulac_write_autocrypt.spec 𝓛 mem run
      ≡ ensuring 𝓤 𝓛 vienghulac_write_autocrypt.ended
      (λ κs a r e. VienghulacWriteAutocrypt a.0.now a.1.0.now a.1.1.0 a.1.1.1.0.now r e.1.1.1.0.now)
  vienghulac_write_autocrypt_contract = refl

  pub vienghulac_write_gossip_contract : vienghulac_write_gossip.spec 𝓛 mem run
      ≡ ensuring 𝓤 𝓛 vienghulac_write_gossip.ended
      (λ κs a r e. VienghulacWriteGossip a.0.now a.1.0.now a.1.1.0.now r e.1.1.0.now)
  vienghulac_write_gossip_contract = refl

  pub vienghulac_display_contract : vienghulac_display.spec 𝓛 mem run
      ≡ ensuring 𝓤 𝓛 vienghulac_display.ended (λ κs a r e. VienghulacDisplay a.0.now a.1.0.now r e.1.0.now)
  vienghulac_display_contract = refl

  pub vienghulac_lint_contract : vienghulac_lint.spec 𝓛 mem run
      ≡ ensuring 𝓤 𝓛 vienghulac_lint.ended (λ κs a r e. VienghulacLint a.0.now a.1.0.now a.1.1.0.now r e.1.1.0.now)
  vienghulac_lint_contract = refl
