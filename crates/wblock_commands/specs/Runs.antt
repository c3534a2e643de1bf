-- What the calls of a contract come to, and the lines that tell it.
use Rattle.std.specs.Prelude.{◌≡◌, ℕ, ◌+◌, List, [], ◌∷◌, ◌++◌, codes, decimal, map, sum_by}
use Rattle.std.specs.FinMap.{empty}
use Rattle.spec_ledger.specs.declared.Version.TheVariants.{Two}
use Rattle.spec_ledger.specs.declared.Receipt.{Receipt}
use Rattle.spec_ledger.specs.Cells.{Cells}
use Rattle.spec_execution.specs.Configuration.{Deployed as Contract}
use Rattle.spec_execution.specs.Run.{ContractCall}
use Rattle.spec_execution.specs.Serial.{CallResult, Serial}
use Rattle.wblock_calls.specs.Receipts.{position_text}

-- the numbers of the calls, the first of them n
abbrev pub numbers_from : ℕ → List ContractCall → List ℕ
numbers_from n [] = []
numbers_from n (c ∷ cs) = n ∷ numbers_from (n + 1) cs

-- a line for each receipt, of the call whose number is its place
abbrev pub lines_from : ℕ → List Receipt → List ℕ
lines_from n [] = []
lines_from n (r ∷ rs) = (position_text n n r ++ 10 ∷ []) ++ lines_from (n + 1) rs

abbrev pub fuel_of : List Receipt → ℕ
fuel_of receipts = sum_by (λ (r : Receipt). r.used) receipts

-- `fuel N`
abbrev pub fuel_line : List Receipt → List ℕ
fuel_line receipts = codes "fuel " ++ decimal (fuel_of receipts) ++ 10 ∷ []

abbrev pub receipts_of : List CallResult → List Receipt
receipts_of ran = map (λ (r : CallResult). r.receipt) ran

-- the text tells these receipts
abbrev pub told_of : List Receipt → List ℕ
told_of receipts = lines_from 0 receipts ++ fuel_line receipts

-- the text tells the calls' execution, one after another in rising number, over empty cells
pub record Shows (contract : Contract) (calls : List ContractCall) (text : List ℕ) : Type 0 where
  pub ran : List CallResult
  pub last : Cells
  pub serial : Serial (record { contracts = contract ∷ []; version = Two }) calls (numbers_from 0 calls) empty ran last
  pub text_is : text ≡ told_of (receipts_of ran)
