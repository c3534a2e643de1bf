-- The states of a call, turn by turn, over levels.
use Rattle.std.specs.Prelude.{◌≡◌, ℕ, suc, ◌<◌, List, [], ◌∷◌, ◌++◌}
use Rattle.spec_ledger.specs.declared.Op.{Op}
use Rattle.spec_ledger.specs.declared.Reply.{Reply}
use Rattle.spec_ledger.specs.declared.TraceStep.{TraceStep}
use Rattle.spec_ledger.specs.declared.TraceStep.TheVariants.{Did}
use Rattle.spec_ledger.specs.declared.Outcome.{Outcome}
use Rattle.spec_ledger.specs.Cells.{Cells}
use Rattle.spec_ledger.specs.Book.{GetsReplies}
use Rattle.spec_execution.specs.Configuration.{Setting, Contract}
use Rattle.spec_execution.specs.Run.{IsReply, ContractCall, opening, Opens}
use Rattle.spec_execution.specs.Levels.{Levels, On, Host, Over, move, IsChargedMove, first_level}

-- free moves, one after another, with their marks
pub data FreeMoves (setting : Setting) : Levels → List TraceStep → Levels → Type 0 where
  none : (a : Levels) → FreeMoves setting a [] a
  one_more : (a b d : Levels) (marks steps : List TraceStep) → move setting a ≡ On 0 marks b → FreeMoves setting b steps d → FreeMoves setting a (marks ++ steps) d

-- An instruction is to come at some level, or the run has ended.
pub data Rests (setting : Setting) : Levels → Type 0 where
  to_come : (a : Levels) → IsChargedMove (move setting a) → Rests setting a
  ended : (a : Levels) (o : Outcome) → move setting a ≡ Over o → Rests setting a

-- the host's reply, where it is asked
pub data IsAnswered (setting : Setting) : Levels → List TraceStep → Levels → Type 0 where
  not_asked : (a : Levels) → IsAnswered setting a [] a
  asked : (a : Levels) (op : Op) (go : Reply → Levels) (r : Reply) → move setting a ≡ Host op go → IsReply op r → IsAnswered setting a (Did op r ∷ []) (go r)

-- A turn: one charged move at any level, its host reply where it has one, and the free moves that follow until an instruction is to come or the run has ended.
pub record IsTurn (setting : Setting) (a : Levels) (steps : List TraceStep) (b : Levels) : Type 0 where
  pub charged : Levels
  pub one : move setting a ≡ On 1 [] charged
  pub reply : List TraceStep
  pub replied : Levels
  pub answer : IsAnswered setting charged reply replied
  pub marks : List TraceStep
  pub free : FreeMoves setting replied marks b
  pub at_rest : Rests setting b
  pub steps_are : steps ≡ reply ++ marks

-- from a first configuration, the configuration after so many turns, with the trace up to it
pub data Turned (setting : Setting) (start : Levels) (limit : ℕ) : ℕ → List TraceStep → Levels → Type 0 where
  opened : (a : Levels) (marks : List TraceStep) → FreeMoves setting start marks a → Rests setting a → Turned setting start limit 0 marks a
  turned : (k : ℕ) (trace steps : List TraceStep) (a b : Levels) → Turned setting start limit k trace a → k < limit → IsTurn setting a steps b → Turned setting start limit (suc k) (trace ++ steps) b

-- the configuration after k turns of a call alone over these cells
pub record IsState (setting : Setting) (call : ContractCall) (cells : Cells) (k : ℕ) (config : Levels) : Type 0 where
  pub contract : Contract
  pub func : ℕ
  pub starts : opening setting call ≡ Opens contract func
  pub trace : List TraceStep
  pub turns : Turned setting (first_level contract func call.args) call.fuel k trace config
  pub replies : GetsReplies trace cells
