-- What a block may make a validator run before its verdict.
use Rattle.std.specs.Prelude.{◌<◌, ℕ, List, All, length}
use Rattle.spec_block.specs.Worlds.{Call}
use Rattle.spec_block.specs.Blocks.{Admissible}

-- the calls of an order stay within this fuel: each number is a call's and stands once, and the limits of these calls add up to at most the fuel. So whoever runs
-- each position once, no call beyond its limit, spends no more than the block may have
pub record IsWithinFuel (calls : List Call) (order : List ℕ) (fuel : ℕ) : Type 0 where
  pub known : All (λ number. number < length calls) order
  pub admissible : Admissible calls order fuel
