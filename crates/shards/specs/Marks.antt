-- The marks of an attempt's levels, which its ticket keeps for the shards that it has not touched yet.
use Rattle.std.specs.Prelude.{◌≡◌, ℕ, ◌+◌, ◌≤◌, Bool, true, false, List, [], ◌∷◌, length, Vec, vec_len, vec_capacity}
use Rattle.std.specs.Coded.{Coded, coded_list}
use Rattle.spec_ledger.specs.declared.TraceStep.{TraceStep}
use Rattle.spec_ledger.specs.declared.TraceStep.TheVariants.{Did, Opened, Kept, Dropped}
use Rattle.spec_ledger.specs.contracts.TraceStep as step
use Rattle.spec_ledger.specs.Book.{standing_at}
use Rattle.spec_ledger.specs.Modes.{ops_of}

abbrev pub marks_code : Coded (List TraceStep)
marks_code = coded_list step.the_row.coded

-- what their type keeps: no operation is among them, the open ones are counted, and there is room for those that close them
pub record AreLevels {A : Type 0} (marks : Vec TraceStep A) (entered : ℕ) : Type 0 where
  pub are_marks : ops_of marks.items ≡ []
  pub counted : entered ≡ length (standing_at marks.items).marks
  pub room : vec_len marks + entered ≤ vec_capacity marks

-- no mark is open
abbrev pub IsOutside : List TraceStep → Type 0
IsOutside marks = (standing_at marks).marks ≡ []

-- the mark that closes a level whose changes stand, or are taken back
abbrev pub closing : Bool → TraceStep
closing true = Kept
closing false = Dropped

-- the marks of a trace, in order
abbrev pub marks_of : List TraceStep → List TraceStep
marks_of [] = []
marks_of (Did op r ∷ t) = marks_of t
marks_of (Opened ∷ t) = Opened ∷ marks_of t
marks_of (Kept ∷ t) = Kept ∷ marks_of t
marks_of (Dropped ∷ t) = Dropped ∷ marks_of t
