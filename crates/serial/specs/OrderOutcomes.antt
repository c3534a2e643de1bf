-- What an order came to: its block and the world after it.
use Rattle.std.specs.Prelude.{◌≡◌, ℕ, List, sum_by}
use Rattle.std.specs.List.{All}
use Rattle.spec_ledger.specs.declared.Outcome.{Outcome}
use Rattle.spec_ledger.specs.declared.Outcome.TheVariants.{Rejected}
use Rattle.spec_ledger.specs.declared.Receipt.{Receipt}
use Rattle.spec_block.specs.Worlds.{Call, World, Block}
use Rattle.spec_block.specs.Blocks.{IsBlockOf, world_after}
use Rattle.spec_block.specs.Bytes.{IsOutcome}

-- the block of the order, and the same contracts with the cells that the serial execution left
pub record IsOutcomeOf (world : World) (calls : List Call) (order : List ℕ) (block : Block) (next : World) : Type 0 where
  pub of_order : IsBlockOf world calls order block
  pub storage : next ≡ world_after world of_order.last

-- the fuel that calls with these receipts used
abbrev pub fuel_of_receipts : List Receipt → ℕ
fuel_of_receipts receipts = sum_by (λ (r : Receipt). r.used) receipts

-- the code of a rejection is that of a cause
abbrev pub IsPossible : Outcome → Type 0
IsPossible (Rejected code) = IsOutcome (Rejected code)
IsPossible _ = Unit {0}

-- each call ended as a call can
abbrev pub ArePossible : List Receipt → Type 0
ArePossible receipts = All (λ (r : Receipt). IsPossible r.outcome) receipts
