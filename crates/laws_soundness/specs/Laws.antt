-- The laws of soundness.
use Rattle.std.specs.Prelude.{◌≡◌, ℕ, List, [], reverse, Some, All}
use Rattle.wtypes.specs.declared.ValType.{ValType}
use Rattle.wtypes.specs.declared.Value.{Value}
use Rattle.spec_ledger.specs.declared.TraceStep.{TraceStep}
use Rattle.spec_typing.specs.Linking.{IsLinked}
use Rattle.spec_execution.specs.Configuration.{Setting, Deployed, Contract, Function, function_at, function_type, Seq, State, Running}
use Rattle.spec_execution.specs.Reduction.{Ended, reduce}
use Rattle.spec_execution.specs.Run.{ContractCall, opening, Opens, next}
use Rattle.spec_execution.specs.Levels.{Level, Levels, first_level, Reached, IsSafe}
use Rattle.laws_soundness.specs.ConfigurationTyping.{types, Scope, StateTyped, SeqTyped, NextTyped, LevelsTyped}

-- Progress and preservation: what a typed sequence does next is typed, and so it is not stuck.
abbrev pub StepsAreTyped : Type 0
StepsAreTyped = (c : Contract) (frames : ℕ) (state : State) (s : Scope) (vs : List Value) (seq : Seq) (to : List ValType) →
    IsLinked c.deployed.tree c.deployed.hosts → StateTyped c.deployed s.locals state → SeqTyped c.deployed s seq (types vs) to → NextTyped c.deployed s to (reduce c frames state vs seq)

-- each contract is linked
abbrev pub AreLinked : List Deployed → Type 0
AreLinked contracts = All (λ d. IsLinked d.tree d.hosts) contracts

-- Once a call of linked contracts has opened, no configuration that it reaches is stuck, at whatever level,
abbrev pub DeployedCallsAreSafe : Type 0
DeployedCallsAreSafe = (setting : Setting) (call : ContractCall) (c : Contract) (func : ℕ) →
    AreLinked setting.contracts → opening setting call ≡ Opens c func → IsSafe setting (first_level c func call.args) call.fuel

-- each one is typed, by the results of the function that was called,
abbrev pub DeployedCallsAreTyped : Type 0
DeployedCallsAreTyped = (setting : Setting) (call : ContractCall) (c : Contract) (func : ℕ) (f : Function) (trace : List TraceStep) (used : ℕ) (a : Levels) →
    AreLinked setting.contracts → opening setting call ≡ Opens c func → function_at c.deployed func ≡ Some f →
    Reached setting (first_level c func call.args) call.fuel trace used a → LevelsTyped (reverse (function_type f).results) a

-- and where its last level ends, it gives these.
abbrev pub ResultsAreTyped : Type 0
ResultsAreTyped = (setting : Setting) (call : ContractCall) (c : Contract) (func : ℕ) (f : Function) (trace : List TraceStep) (used : ℕ) (l : Level) (state : State) (seq : Seq) (vs : List Value) →
    AreLinked setting.contracts → opening setting call ≡ Opens c func → function_at c.deployed func ≡ Some f →
    Reached setting (first_level c func call.args) call.fuel trace used (record { inner = l; outer = [] }) → l.config ≡ Running state seq → next l.contract state seq ≡ Ended vs → types vs ≡ reverse (function_type f).results
