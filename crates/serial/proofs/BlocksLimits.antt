-- The fuel that calls use is within their limits.
use Rattle.std.proofs.Common.{◌≡◌, ℕ, ◌+◌, ◌≤◌, List, [], ◌∷◌, length, sym, ◌∙◌, ap, refl, arith}
use Rattle.std.specs.Prelude.{slice_index, sum_by}
use Rattle.std.proofs.lemmas.List.Sums.{sum-map, sum_by-cons}
use Rattle.spec_ledger.specs.declared.Receipt.{Receipt}
use Rattle.spec_ledger.specs.Cells.{Cells}
use Rattle.spec_ledger.specs.Modes.{Modes}
use Rattle.spec_ledger.specs.Order.{limits_of}
use Rattle.spec_execution.specs.Configuration.{Setting}
use Rattle.spec_execution.specs.Run.{ContractCall}
use Rattle.spec_execution.specs.Serial.{CallResult, Serial}
use Rattle.spec_block.specs.Worlds.{limits}
use Rattle.spec_block.specs.Blocks.{fuel_of}
use Rattle.serial.specs.Positions.{results_of}
use Rattle.serial.proofs.Limits.{limit_at, executes_within}
use Rattle.serial.specs.OrderOutcomes.{fuel_of_receipts}

abbrev pub used_in : List CallResult → ℕ
used_in rs = sum_by (λ (r : CallResult). r.receipt.used) rs

abbrev pub allowed : List ContractCall → List ℕ → ℕ
allowed calls order = sum_by (λ n. slice_index (limits calls) n) order

-- the calls of an order use no more than their limits together
serial_within : (setting : Setting) (calls : List ContractCall) (order : List ℕ) (cells : Cells) (rs : List CallResult) (last : Cells) → Serial setting calls order cells rs last → used_in rs ≤ allowed calls order
serial_within setting calls [] cells [] last s = omega arith
serial_within setting calls [] cells (r ∷ rs) last s = absurd s
serial_within setting calls (n ∷ order) cells [] last s = absurd s
serial_within setting calls (n ∷ order) cells (r ∷ rs) last s =
    let one : r.receipt.used ≤ s.0.fuel = executes_within setting s.0 cells s.1 r.receipt r.touched s.3 in
    let limit : slice_index (limits calls) n ≡ s.0.fuel = limit_at calls n s.0 s.2 in
    let rest : used_in rs ≤ allowed calls order = serial_within setting calls order s.1 rs last s.4 in
    let a : used_in (r ∷ rs) ≡ r.receipt.used + used_in rs = sum_by-cons (λ (x : CallResult). x.receipt.used) r rs in
    let b : allowed calls (n ∷ order) ≡ slice_index (limits calls) n + allowed calls order = sum_by-cons (λ k. slice_index (limits calls) k) n order in
    omega (arith, one, limit, rest, a, b)

used_again : (rs : List Receipt) (ms : List Modes) → length rs ≡ length ms → used_in (results_of rs ms) ≡ fuel_of_receipts rs
used_again [] [] e = refl
used_again (r ∷ rs) (m ∷ ms) e =
    sum_by-cons (λ (x : CallResult). x.receipt.used) (record { receipt = r; touched = m }) (results_of rs ms)
    ∙ (ap (λ n. r.used + n) (used_again rs ms (omega (arith, e))) ∙ sym (sum_by-cons (λ (x : Receipt). x.used) r rs))
used_again [] (m ∷ ms) e = absurd (omega (arith, e))
used_again (r ∷ rs) [] e = absurd (omega (arith, e))

pub fuel_is : (rs : List Receipt) (ms : List Modes) → length rs ≡ length ms → fuel_of_receipts rs ≡ fuel_of (results_of rs ms)
fuel_is rs ms e = sym (sum-map (λ (r : CallResult). r.receipt.used) (results_of rs ms) ∙ used_again rs ms e)

pub used_within : (setting : Setting) (calls : List ContractCall) (order : List ℕ) (cells : Cells) (rs : List Receipt) (ms : List Modes) (last : Cells)
    → length rs ≡ length ms → Serial setting calls order cells (results_of rs ms) last → fuel_of_receipts rs ≤ limits_of (limits calls) order
used_within setting calls order cells rs ms last e s =
    let a : used_in (results_of rs ms) ≡ fuel_of_receipts rs = used_again rs ms e in
    let b : limits_of (limits calls) order ≡ allowed calls order = sum-map (λ n. slice_index (limits calls) n) order in
    let c : used_in (results_of rs ms) ≤ allowed calls order = serial_within setting calls order cells (results_of rs ms) last s in
    omega (arith, a, b, c)
