-- An order that is being published, with what its calls came to.
use Rattle.std.specs.Prelude.{◌≡◌, ℕ, ◌+◌, ◌-◌, ◌<◌, ◌≤◌, ◌^◌, ◌↔◌, Bool, true, false, List, [], ◌∷◌, ◌++◌, map, sum, take, length, Some, slice_get, slice_index, slice_index_or, Contains, refl}
use Rattle.std.specs.List.Sorted.{IsStrictlyIncreasing}
use Rattle.std.specs.FinMap.{empty}
use Rattle.std.specs.Coded.{Coded, code_by, coded×, coded_ℕ, coded_list}
use Rattle.spec_ledger.specs.contracts.Receipt as receipt
use Rattle.spec_ledger.specs.declared.Receipt.{Receipt}
use Rattle.spec_ledger.specs.Cells.{Cells}
use Rattle.spec_ledger.specs.Modes.{Modes}
use Rattle.spec_ledger.specs.Order.{limits_of}
use Rattle.spec_ledger.specs.Codes.{coded_cells, coded_modes}
use Rattle.storage.specs.Counts.{Counts}
use Rattle.spec_execution.specs.Configuration.{Setting}
use Rattle.spec_execution.specs.Run.{ContractCall}
use Rattle.spec_execution.specs.Exec.{Executes}
use Rattle.spec_execution.specs.Serial.{CallResult, Serial}
use Rattle.interp.specs.Codes.{coded_setting, coded_call}

-- Calls over contracts, from the opening cells on, with this fuel for all of them; and so far: the order, what the call at each position came to, and the cells.
pub record Publication : Type 0 where
  pub setting : Setting
  pub calls : List ContractCall
  pub opening : Cells
  pub fuel : ℕ
  pub order : List ℕ
  pub ran : List CallResult
  pub cells : Cells

abbrev pub coded_ran : Coded CallResult
coded_ran = code_by (Receipt × Modes) (coded× receipt.the_row.coded coded_modes) (λ r. (r.receipt, r.touched)) (λ p. record { receipt = p.0; touched = p.1 }) (λ _. refl)

abbrev pub coded_publication : Coded Publication
coded_publication =
    code_by (Setting × (List ContractCall × (Cells × (ℕ × (List ℕ × (List CallResult × Cells))))))
    (coded× coded_setting (coded× (coded_list coded_call) (coded× coded_cells (coded× coded_ℕ (coded× (coded_list coded_ℕ) (coded× (coded_list coded_ran) coded_cells))))))
    (λ p. (p.setting, (p.calls, (p.opening, (p.fuel, (p.order, (p.ran, p.cells)))))))
    (λ p. record { setting = p.0; calls = p.1.0; opening = p.1.1.0; fuel = p.1.1.1.0; order = p.1.1.1.1.0; ran = p.1.1.1.1.1.0; cells = p.1.1.1.1.1.1 }) (λ _. refl)

-- the limits of calls, by number
abbrev pub limits : List ContractCall → List ℕ
limits calls = map (λ (c : ContractCall). c.fuel) calls

-- the fuel that calls used
abbrev pub fuel_of_results : List CallResult → ℕ
fuel_of_results ran = sum (map (λ (r : CallResult). r.receipt.used) ran)

-- what is published is a serial execution of distinct calls, whose limits are together within the fuel
pub record IsSerialOrder (p : Publication) : Type 0 where
  pub serial : Serial p.setting p.calls p.order p.opening p.ran p.cells
  pub distinct : (position call : ℕ) → slice_get p.order position ≡ Some call → ¬ (Contains (take position p.order) call)
  pub known : (position call : ℕ) → slice_get p.order position ≡ Some call → call < length p.calls
  pub within : limits_of (limits p.calls) p.order ≤ p.fuel

-- a call that does not stand in the order, and whose limit is within the fuel that is left
pub record HasRoom (limits : List ℕ) (fuel : ℕ) (order : List ℕ) (call : ℕ) : Type 0 where
  pub new : ¬ (Contains order call)
  pub fits : slice_index limits call ≤ fuel - limits_of limits order

-- there is a call of this number, and it may be published next
pub record MayFollow (p : Publication) (call : ℕ) : Type 0 where
  pub known : call < length p.calls
  pub room : HasRoom (limits p.calls) p.fuel p.order call

-- a call is published: it was executed over the cells, and it stands last
pub record HasTaken (p : Publication) (number : ℕ) (q : Publication) : Type 0 where
  pub call : ContractCall
  pub ran : CallResult
  pub at : slice_get p.calls number ≡ Some call
  pub executed : Executes p.setting call p.cells q.cells ran.receipt ran.touched
  pub is : q ≡ record p { order = p.order ++ number ∷ []; ran = p.ran ++ ran ∷ []; cells = q.cells }

-- the same calls over the same contracts and opening cells, with the same fuel
pub record IsSameJob (p q : Publication) : Type 0 where
  pub setting : q.setting ≡ p.setting
  pub calls : q.calls ≡ p.calls
  pub opening : q.opening ≡ p.opening
  pub fuel : q.fuel ≡ p.fuel

-- what was published stands, and more may follow it
pub record HasGoneOn (p q : Publication) : Type 0 where
  pub same : IsSameJob p q
  pub more : List ℕ
  pub order : q.order ≡ p.order ++ more
  pub more_ran : List CallResult
  pub ran : q.ran ≡ p.ran ++ more_ran

-- The calls below a number, gone over in rising number from an order on: each that has room is put last.
pub data Sweep (limits : List ℕ) (fuel : ℕ) (order : List ℕ) : ℕ → List ℕ → Type 0 where
  starts : Sweep limits fuel order 0 order
  takes : (call : ℕ) (now : List ℕ) → Sweep limits fuel order call now → HasRoom limits fuel now call → Sweep limits fuel order (call + 1) (now ++ call ∷ [])
  passes : (call : ℕ) (now : List ℕ) → Sweep limits fuel order call now → ¬ (HasRoom limits fuel now call) → Sweep limits fuel order (call + 1) now

-- the calls outside an order, of so many, in rising number
pub record AreLeft (order : List ℕ) (calls : ℕ) (left : List ℕ) : Type 0 where
  pub rising : IsStrictlyIncreasing left
  pub others : (call : ℕ) → Contains left call ↔ ((call < calls) × ¬ (Contains order call))

-- whether a call is marked
abbrev pub is_marked : List Bool → ℕ → Bool
is_marked marks call = slice_index_or marks call false

-- the unmarked calls below a number, in rising number
pub record AreUnmarked (marks : List Bool) (below : ℕ) (left : List ℕ) : Type 0 where
  pub rising : IsStrictlyIncreasing left
  pub unmarked : (call : ℕ) → Contains left call ↔ ((call < below) × (is_marked marks call ≡ false))

-- just the calls of the order are marked
pub record AreMarked (marks : List Bool) (order : List ℕ) : Type 0 where
  pub marked : (call : ℕ) → is_marked marks call ≡ true → Contains order call
  pub each : (call : ℕ) → Contains order call → is_marked marks call ≡ true

-- what the type keeps beside: marks of the published calls, the fuel that is left, and the fuel that was used
pub record IsKept (p : Publication) (receipts : List Receipt) (touched : List Modes) (marks : List Bool) (remaining used : ℕ) (unsettled : Counts) : Type 0 where
  pub order : IsSerialOrder p
  pub even : length receipts ≡ length touched
  pub marks_are : AreMarked marks p.order
  pub size : length marks ≡ length p.calls
  pub rest : remaining + limits_of (limits p.calls) p.order ≡ p.fuel
  pub used_is : used ≡ fuel_of_results p.ran
  pub used_within : used ≤ limits_of (limits p.calls) p.order
  pub numbered : length p.calls < 2 ^ 32
  pub settled : unsettled ≡ empty
