-- What `mine` answers.
use Rattle.std.specs.Prelude.{◌≡◌, Bool, true, false, ℕ, ◌⊎◌, List, [], ◌∷◌}
use Rattle.spec_ledger.specs.declared.Version.TheVariants.{Two}
use Rattle.spec_ledger.specs.Order.{first_fit}
use Rattle.spec_block.specs.Worlds.{World, Call, Block, limits, order_of}
use Rattle.spec_block.specs.Bytes.{world_bytes, block_bytes}
use Rattle.spec_block.specs.Headline.{Headline, IsLeft}
use Rattle.wblock_io.specs.Holding.{Holding}
use Rattle.wblock_line.specs.declared.perform.Status.TheVariants as status
use Rattle.wblock_line.specs.Answers.{Upshot}
use Rattle.wblock_line.specs.Inputs.{HoldsWorld, HoldsCalls, TellsRefusal}
use Rattle.wblock_line.specs.Upshots.{IsRefusalWith}
use Rattle.wblock_blocks.specs.declared.mine.Mining.{Mining}
use Rattle.wblock_blocks.specs.Objects.{IsMinedLine}
use Rattle.wblock_blocks.specs.Texts.{block_text}

-- the block's lines, or the line of its JSON
abbrev pub IsMinedText : (json : Bool) → Block → List Call → (left text : List ℕ) → Type 0
IsMinedText false b calls left text = text ≡ block_text b left
IsMinedText true b calls left text = IsMinedLine b calls left text

-- the block and then the world after it are to be written, and the block, which is of these calls and leaves these out, is to be told
pub record IsDone (task : Mining) (block : Block) (next : World) (calls : List Call) (left : List ℕ) (u : Upshot) : Type 0 where
  pub status_is : u.status ≡ status.Done
  pub writes : u.writes ≡ (task.block.now, block_bytes block) ∷ (task.next.now, world_bytes next) ∷ []
  pub text : IsMinedText task.json block calls left u.text

-- the block is one of version 2, of these calls over this world: the order is admissible, and what the block and the next world say is what the calls come to when they
-- run one after another in that order; which is that of the list, unless workers over one book were asked for
pub record MinesOver (world : World) (calls : List Call) (task : Mining) (u : Upshot) : Type 0 where
  pub block : Block
  pub next : World
  pub headline : Headline world calls task.fuel block next
  pub version : block.version ≡ Two
  pub order : task.boosted ≡ false → order_of block ≡ first_fit (limits calls) task.fuel
  pub left : List ℕ
  pub is_left : IsLeft calls (order_of block) left
  pub done : IsDone task block next calls left u

-- the calls are mined over the world, as their files hold them
pub record IsMined (holds : Holding) (task : Mining) (u : Upshot) : Type 0 where
  pub world : World
  pub held_world : HoldsWorld holds task.world.now world
  pub calls : List Call
  pub held_calls : HoldsCalls holds task.calls.now calls
  pub mines : MinesOver world calls task u

-- it is told why the world or the calls are refused
pub record IsRefused (holds : Holding) (task : Mining) (u : Upshot) : Type 0 where
  pub line : List ℕ
  pub why : TellsRefusal holds task.world.now task.calls.now line
  pub told : IsRefusalWith task.json line u

abbrev pub Mines : Holding → Mining → Upshot → Type 0
Mines holds task u = IsRefused holds task u ⊎ IsMined holds task u
