-- How often each kind of outcome comes.
use Rattle.std.specs.Prelude.{◌==◌, ℕ, Bool, true, false, if◌then◌else◌, List, [], ◌∷◌, count_by}
use Rattle.wtypes.specs.declared.TrapCode.TheVariants.{Unreachable, DivideByZero, IntegerOverflow, MemoryOutOfBounds, ElementOutOfTable, EmptyElement, TypeMismatch, CallDepth}
use Rattle.spec_ledger.specs.declared.Outcome.{Outcome}
use Rattle.spec_ledger.specs.declared.Outcome.TheVariants as outcome
use Rattle.spec_block.specs.Worlds.{Position}
use Rattle.spec_block.specs.Bytes.{trap_code}
use Rattle.figures.specs.declared.outcomes.OutcomeKind.{OutcomeKind}
use Rattle.figures.specs.declared.outcomes.OutcomeKind.TheVariants.{Returned, Trapped, OutOfFuel, Rejected}
use Rattle.figures.specs.declared.outcomes.OutcomeCount.{OutcomeCount}

-- whether an outcome is of this kind, whatever it returned
abbrev pub is_kind : OutcomeKind → Outcome → Bool
is_kind Returned (outcome.Returned v) = true
is_kind (Trapped t) (outcome.Trapped u) = trap_code t == trap_code u
is_kind OutOfFuel outcome.OutOfFuel = true
is_kind (Rejected c) (outcome.Rejected d) = c == d
is_kind kind o = false

-- the kinds in the order in which they are told; a rejection has one of five numbers
abbrev pub all_kinds : List OutcomeKind
all_kinds =
    Returned ∷ Trapped Unreachable ∷ Trapped DivideByZero ∷ Trapped IntegerOverflow ∷ Trapped MemoryOutOfBounds ∷ Trapped ElementOutOfTable ∷ Trapped EmptyElement ∷ Trapped TypeMismatch ∷ Trapped CallDepth
    ∷ OutOfFuel ∷ Rejected 1 ∷ Rejected 2 ∷ Rejected 3 ∷ Rejected 4 ∷ Rejected 6 ∷ []

-- how many positions have an outcome of this kind
abbrev pub number_of : OutcomeKind → List Position → ℕ
number_of kind positions = count_by (λ (p : Position). is_kind kind p.receipt.outcome) positions

-- those of these kinds that positions have, with how many have them
abbrev pub counts_among : List OutcomeKind → List Position → List OutcomeCount
counts_among [] positions = []
counts_among (kind ∷ kinds) positions =
    if number_of kind positions == 0 then counts_among kinds positions else (record { kind = kind; positions = number_of kind positions }) ∷ counts_among kinds positions
