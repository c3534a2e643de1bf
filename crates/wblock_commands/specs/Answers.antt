-- What is answered to a module's bytes and a text of calls.
use Rattle.std.specs.Prelude.{◌≡◌, ℕ, ◌≤◌, ◌⊎◌, List, [], ◌∷◌, ◌++◌, length, string_bytes}
use Rattle.spec_execution.specs.Configuration.{Deployed as Contract}
use Rattle.spec_execution.specs.Run.{ContractCall}
use Rattle.wblock_calls.specs.Texts.{SpellsCalls}
use Rattle.wblock_line.specs.Inputs.{TellsNoCalls}
use Rattle.wblock_line.specs.declared.answer.Answer.{Answer}
use Rattle.wblock_line.specs.declared.answer.Answer.TheVariants.{Done, Refused}
use Rattle.wblock_line.specs.declared.refusals.ModuleRefusal.{ModuleRefusal}
use Rattle.wblock_line.specs.Modules.{IsContractOf, IsWhy}
use Rattle.wblock_line.specs.Refusals.{refusal_text}
use Rattle.wblock_commands.specs.Runs.{Shows}

-- the calls that the text spells are run, and this tells what they came to
pub record TellsRun (contract : Contract) (text told : List ℕ) : Type 0 where
  pub calls : List ContractCall
  pub spelled : SpellsCalls text calls
  pub few : length calls ≤ 65535
  pub shows : Shows contract calls told

abbrev pub CallsAnswer : Contract → List ℕ → Answer → Type 0
CallsAnswer contract text (Done writes told) = (writes.items ≡ []) × TellsRun contract text (string_bytes told)
CallsAnswer contract text (Refused line why) = TellsNoCalls text (string_bytes line)

-- the line of a refusal
abbrev pub Refuses : ModuleRefusal → Answer → Type 0
Refuses refusal (Done writes told) = ⊥
Refuses refusal (Refused line why) = string_bytes line ≡ refusal_text refusal ++ 10 ∷ []

-- the module is a contract, and its calls are answered
pub record AnswersCalls (target text : List ℕ) (answer : Answer) : Type 0 where
  pub contract : Contract
  pub is : IsContractOf target contract.tree contract.hosts
  pub answers : CallsAnswer contract text answer

-- the module is no contract, and the line says why
pub record RefusesModule (target : List ℕ) (answer : Answer) : Type 0 where
  pub refusal : ModuleRefusal
  pub why : IsWhy target refusal
  pub refused : Refuses refusal answer

abbrev pub IsAnswer : List ℕ → List ℕ → Answer → Type 0
IsAnswer target text answer = AnswersCalls target text answer ⊎ RefusesModule target answer
