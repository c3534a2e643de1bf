-- What contracts see of a finished call.
use Rattle.std.specs.Prelude.{ℕ, List, refl}
use Rattle.std.specs.Coded.{Coded, code_by, coded×, coded_ℕ, coded_list}
use Rattle.spec_ledger.specs.contracts.TraceStep as step
use Rattle.spec_ledger.specs.contracts.Outcome as outcome
use Rattle.spec_ledger.specs.declared.TraceStep.{TraceStep}
use Rattle.spec_ledger.specs.declared.Outcome.{Outcome}
use Rattle.spec_ledger.specs.declared.Receipt.{Receipt}
use Rattle.spec_execution.specs.Configuration.{Setting}
use Rattle.spec_execution.specs.Run.{ContractCall}
use Rattle.spec_execution.specs.Levels.{RunsWith, asks_in}
use Rattle.interp.specs.Codes.{coded_setting, coded_call}

-- contracts, a call of one of them, the operations that it asked for with their replies and the marks of levels among them, its outcome and its fuel
pub record Played : Type 0 where
  pub setting : Setting
  pub call : ContractCall
  pub trace : List TraceStep
  pub outcome : Outcome
  pub used : ℕ

abbrev pub coded_played : Coded Played
coded_played =
    code_by (Setting × (ContractCall × (List TraceStep × (Outcome × ℕ)))) (coded× coded_setting (coded× coded_call (coded× (coded_list step.the_row.coded) (coded× outcome.the_row.coded coded_ℕ))))
    (λ f. (f.setting, (f.call, (f.trace, (f.outcome, f.used))))) (λ p. record { setting = p.0; call = p.1.0; trace = p.1.1.0; outcome = p.1.1.1.0; used = p.1.1.1.1 }) (λ _. refl)

-- what it came to
abbrev pub receipt_of : Played → Receipt
receipt_of f = record { outcome = f.outcome; used = f.used; asks = asks_in f.trace }

-- it is a run of the call over these contracts
abbrev pub IsPlayed : Played → Type 0
IsPlayed f = RunsWith f.setting f.call f.trace f.outcome f.used
