-- Reading values and receipts from front to back.
use Rattle.std.specs.Prelude.{ℕ, zero, suc, List, length, Bool, Option, Some, None, Ok, Err, ◌==◌, ◌||◌, if◌then◌else◌}
use Rattle.std.specs.Int.{w32, w64, cast_signed}
use Rattle.spec_ledger.specs.declared.Version.{Version}
use Rattle.spec_ledger.specs.declared.Version.TheVariants.{One, Two}
use Rattle.wtypes.specs.declared.Value.{Value}
use Rattle.wtypes.specs.declared.Value.TheVariants.{I32, I64}
use Rattle.wtypes.specs.declared.TrapCode.{TrapCode}
use Rattle.wtypes.specs.declared.TrapCode.TheVariants.{Unreachable, DivideByZero, IntegerOverflow, MemoryOutOfBounds, ElementOutOfTable, EmptyElement, TypeMismatch, CallDepth}
use Rattle.spec_ledger.specs.declared.Outcome.{Outcome}
use Rattle.spec_ledger.specs.declared.Outcome.TheVariants.{Returned, Trapped, OutOfFuel, Rejected}
use Rattle.spec_ledger.specs.declared.Receipt.{Receipt}
use Rattle.spec_block.specs.Bytes.{IsReceipt, ForVersion}
use Rattle.records.specs.declared.fault.Fault.TheVariants.{Malformed}
use Rattle.records.specs.Reading.{Read, ◌>>=◌, byte_at, number_at, found}

unfoldable pub value_at : List ℕ → Read Value
value_at bytes = do
  tag ← byte_at bytes
  if tag.0 == 0x7F then (number_at w32 tag.1 >>= λ n. Ok (I32 (cast_signed w32 n.0), n.1))
      else if tag.0 == 0x7E then (number_at w64 tag.1 >>= λ n. Ok (I64 (cast_signed w64 n.0), n.1))
      else Err (Malformed (length bytes))

-- by the count, with the bytes left at its field and those after it
unfoldable pub values_by : ℕ → ℕ → List ℕ → Read (Option Value)
values_by zero left rest = Ok (None, rest)
values_by (suc zero) left rest = value_at rest >>= λ v. Ok (Some v.0, v.1)
values_by (suc (suc n)) left rest = Err (Malformed left)

-- a value, or none
unfoldable pub values_at : List ℕ → Read (Option Value)
values_at bytes = do
  count ← byte_at bytes
  values_by count.0 (length bytes) count.1

abbrev pub trap_of : ℕ → Option TrapCode
trap_of zero = None
trap_of (suc zero) = Some Unreachable
trap_of (suc (suc zero)) = Some DivideByZero
trap_of (suc (suc (suc zero))) = Some IntegerOverflow
trap_of (suc (suc (suc (suc zero)))) = Some MemoryOutOfBounds
trap_of (suc (suc (suc (suc (suc zero))))) = Some ElementOutOfTable
trap_of (suc (suc (suc (suc (suc (suc zero)))))) = Some EmptyElement
trap_of (suc (suc (suc (suc (suc (suc (suc zero))))))) = Some TypeMismatch
trap_of (suc (suc (suc (suc (suc (suc (suc (suc zero)))))))) = Some CallDepth
trap_of (suc (suc (suc (suc (suc (suc (suc (suc (suc n))))))))) = None

unfoldable pub trap_at : List ℕ → Read TrapCode
trap_at bytes = do
  code ← byte_at bytes
  found (trap_of code.0) (length bytes) code.1

abbrev pub is_rejection : ℕ → Bool
is_rejection code = code == 1 || (code == 2 || (code == 3 || (code == 4 || code == 6)))

unfoldable pub rejection_at : List ℕ → Read ℕ
rejection_at bytes = do
  code ← byte_at bytes
  if is_rejection code.0 then Ok code else Err (Malformed (length bytes))

-- by the kind, with the bytes left at its field and those after it
unfoldable pub outcome_by : ℕ → ℕ → List ℕ → Read Outcome
outcome_by zero left rest = values_at rest >>= λ v. Ok (Returned v.0, v.1)
outcome_by (suc zero) left rest = trap_at rest >>= λ t. Ok (Trapped t.0, t.1)
outcome_by (suc (suc zero)) left rest = Ok (OutOfFuel, rest)
outcome_by (suc (suc (suc zero))) left rest = rejection_at rest >>= λ c. Ok (Rejected c.0, c.1)
outcome_by (suc (suc (suc (suc n)))) left rest = Err (Malformed left)

unfoldable pub outcome_at : List ℕ → Read Outcome
outcome_at bytes = do
  kind ← byte_at bytes
  outcome_by kind.0 (length bytes) kind.1

-- version 1 does not tell of levels
unfoldable pub asks_at : Version → List ℕ → Read ℕ
asks_at One bytes = Ok (0, bytes)
asks_at Two bytes = number_at w32 bytes

unfoldable pub receipt_at : Version → List ℕ → Read Receipt
receipt_at version bytes = do
  used ← number_at w64 bytes
  asks ← asks_at version used.1
  outcome ← outcome_at asks.1
  Ok (record { used = used.0; asks = asks.0; outcome = outcome.0 }, outcome.1)

-- ---- what is read

-- a receipt that a block of this version can tell
abbrev pub IsReceiptIn : Version → Receipt → Type 0
IsReceiptIn version r = IsReceipt r × ForVersion version r
