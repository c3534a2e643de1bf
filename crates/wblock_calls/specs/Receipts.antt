-- The texts of receipts, and of the line that a call has in its place.
use Rattle.std.specs.Prelude.{ℕ, zero, suc, List, [], ◌++◌, codes, decimal, Some, None}
use Rattle.wtypes.specs.declared.TrapCode.{TrapCode}
use Rattle.wtypes.specs.declared.TrapCode.TheVariants.{Unreachable, DivideByZero, IntegerOverflow, MemoryOutOfBounds, ElementOutOfTable, EmptyElement, TypeMismatch, CallDepth}
use Rattle.spec_ledger.specs.declared.Outcome.{Outcome}
use Rattle.spec_ledger.specs.declared.Outcome.TheVariants.{Returned, Trapped, OutOfFuel, Rejected}
use Rattle.spec_ledger.specs.declared.Receipt.{Receipt}
use Rattle.wblock_calls.specs.Texts.{value_text}

abbrev pub trap_number : TrapCode → ℕ
trap_number Unreachable = 1
trap_number DivideByZero = 2
trap_number IntegerOverflow = 3
trap_number MemoryOutOfBounds = 4
trap_number ElementOutOfTable = 5
trap_number EmptyElement = 6
trap_number TypeMismatch = 7
trap_number CallDepth = 8

abbrev pub outcome_text : Outcome → List ℕ
outcome_text (Returned None) = codes "returned"
outcome_text (Returned (Some v)) = codes "returned " ++ value_text v
outcome_text (Trapped t) = codes "trapped " ++ decimal (trap_number t)
outcome_text OutOfFuel = codes "out-of-fuel"
outcome_text (Rejected n) = codes "rejected " ++ decimal n

-- the levels that a call entered, where it entered any
abbrev pub asks_text : ℕ → List ℕ
asks_text zero = []
asks_text (suc n) = codes " asks " ++ decimal (suc n)

-- `RECEIPT`
abbrev pub receipt_text : Receipt → List ℕ
receipt_text r = outcome_text r.outcome ++ codes " fuel " ++ decimal r.used ++ asks_text r.asks

-- `POS call C RECEIPT`
abbrev pub position_text : ℕ → ℕ → Receipt → List ℕ
position_text position call r = decimal position ++ codes " call " ++ decimal call ++ codes " " ++ receipt_text r
