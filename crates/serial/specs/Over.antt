-- What is known of storage that a call runs over, by what led to it.
use Rattle.std.specs.Prelude.{List, ◌∷◌, [], ◌++◌}
use Rattle.spec_ledger.specs.declared.TraceStep.{TraceStep}

-- some steps led here
abbrev pub IsLed : {X : Type 0} → (X → List TraceStep → X → Type 0) → X → Type 0
IsLed {X} led now = (start : X) × ((trace : List TraceStep) × led start trace now)

-- the steps that led to the first lead with one step more to the second
abbrev pub LeadsOn : {X : Type 0} → (X → List TraceStep → X → Type 0) → TraceStep → X → X → Type 0
LeadsOn {X} led step old new = (start : X) (trace : List TraceStep) → led start trace old → led start (trace ++ step ∷ []) new

-- the steps that led to the first are what is left in the second
abbrev pub Leaves : {X : Type 0} → (X → List TraceStep → X → Type 0) → (X → List TraceStep → X → Type 0) → X → X → Type 0
Leaves {X} led left old new = (start : X) (trace : List TraceStep) → led start trace old → left start trace new

-- some steps are what is left
abbrev pub AreSomeLeft : {X : Type 0} → (X → List TraceStep → X → Type 0) → X → X → Type 0
AreSomeLeft left start now = (trace : List TraceStep) × left start trace now
