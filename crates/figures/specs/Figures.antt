-- The figures of a block.
use Rattle.std.specs.Prelude.{◌≡◌, ◌⊎◌, ◌↔◌, ℕ, ◌+◌, ◌<◌, IfSome, IsSome, List, [], length, slice_index, sum}
use Rattle.spec_ledger.specs.declared.Entry.{Entry}
use Rattle.spec_block.specs.Schedule.{IsWave}
use Rattle.spec_block.specs.Worlds.{Block, profiles_of}
use Rattle.figures.specs.Chains.{AreForward, IsChain, fuels_of}
use Rattle.figures.specs.Hottest.{AreHottest}
use Rattle.figures.specs.Outcomes.{all_kinds, counts_among}
use Rattle.figures.specs.declared.figures.Chains.{Chains}
use Rattle.figures.specs.declared.figures.Figures.{Figures}

-- one more than the greatest of these waves, or 0 where there are none
pub record IsCount (waves : List ℕ) (count : ℕ) : Type 0 where
  pub above : (i : ℕ) → i < length waves → slice_index waves i < count
  pub reached : ((waves ≡ []) × (count ≡ 0)) ⊎ ((i : ℕ) × (i < length waves) × (slice_index waves i + 1 ≡ count))

-- the wave of each position, how many waves there are, and the most fuel that the positions of a path use
pub record AreChains (profiles : List (List Entry)) (fuels : List ℕ) (c : Chains) : Type 0 where
  pub each : length c.waves.items ≡ length profiles
  pub waves : (i : ℕ) → i < length profiles → IsWave profiles i (slice_index c.waves.items i)
  pub count : IsCount c.waves.items c.wave_count
  pub fuel : IsChain profiles fuels c.chain_fuel

-- the figures of a block
pub record AreFigures (b : Block) (f : Figures) : Type 0 where
  pub forward : IsSome f.chains ↔ AreForward (profiles_of b)
  pub chains : IfSome f.chains (AreChains (profiles_of b) (fuels_of b.positions))
  pub total : f.total_fuel ≡ sum (fuels_of b.positions)
  pub hottest : AreHottest (profiles_of b) f.hottest.items
  pub outcomes : f.outcomes.items ≡ counts_among all_kinds b.positions
