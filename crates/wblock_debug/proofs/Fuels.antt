-- The fuel with which a block is judged.
use Rattle.std.proofs.Common.{◌≡◌, ℕ, List, Option, Some, None}
use Rattle.spec_block.specs.Worlds.{Call, Block}
use Rattle.spec_block.specs.Bytes.{SpellsBlock}
use Rattle.block_judge.specs.Meeting.{IsFuelFor, fuel_for}

-- the fuel is that for the block which the bytes spell
pub fuel_is : (calls : List Call) (given : Option ℕ) (bytes : List ℕ) (fuel : ℕ) (b : Block) → IsFuelFor calls given bytes fuel → SpellsBlock bytes b → fuel ≡ fuel_for given calls b
fuel_is calls (Some n) bytes fuel b is spelled = is
fuel_is calls None bytes fuel b is spelled = is b spelled
