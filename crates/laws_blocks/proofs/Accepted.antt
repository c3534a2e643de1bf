-- The turns of an accepted block are those of its modes.
use Rattle.std.proofs.Common.{◌≡◌, ℕ, List, IsSome, subst}
use Rattle.spec_block.specs.Worlds.{Block, Call, World, profiles_of}
use Rattle.spec_block.specs.Bytes.{SpellsBlock}
use Rattle.spec_block.specs.Headline.{AcceptsExactly, Headline}
use Rattle.spec_block.specs.Schedule.{HaveTurns}
use Rattle.spec_block.specs.Verdicts.{Accept, IsVerdictOf}
use Rattle.figures.specs.Chains.{AreForward}
use Rattle.figures.specs.Figures.{AreFigures}
use Rattle.figures.specs.declared.figures.Figures.{Figures}
use Rattle.laws_blocks.proofs.Turns as turns

abbrev pub OneBlock : Type 0
OneBlock = (bytes : List ℕ) (b c : Block) → SpellsBlock bytes b → SpellsBlock bytes c → b ≡ c

abbrev pub Exactly : Type 0
Exactly = (world : World) (calls : List Call) (fuel : ℕ) (bytes : List ℕ) → AcceptsExactly world calls fuel bytes

abbrev pub Published : Type 0
Published = (world : World) (calls : List Call) (fuel : ℕ) (block : Block) (next : World) → Headline world calls fuel block next → HaveTurns (profiles_of block)

module _ (one : OneBlock) (exactly : Exactly) (published : Published) where
  pub have_turns : (world : World) (calls : List Call) (fuel : ℕ) (bytes : List ℕ) (next : World) (block : Block) → IsVerdictOf world calls fuel bytes (Accept next) → SpellsBlock bytes block → HaveTurns (profiles_of block)
  have_turns world calls fuel bytes next block verdict spells =
      let there = (exactly world calls fuel bytes next).0 verdict in
      subst (λ (b : Block). HaveTurns (profiles_of b)) (one bytes there.0 block there.1 spells) (published world calls fuel there.0 next there.2)

  pub forward : (world : World) (calls : List Call) (fuel : ℕ) (bytes : List ℕ) (next : World) (block : Block) → IsVerdictOf world calls fuel bytes (Accept next) → SpellsBlock bytes block → AreForward (profiles_of block)
  forward world calls fuel bytes next block verdict spells = turns.forward (profiles_of block) (have_turns world calls fuel bytes next block verdict spells)

  pub figures : (world : World) (calls : List Call) (fuel : ℕ) (bytes : List ℕ) (next : World) (block : Block) → IsVerdictOf world calls fuel bytes (Accept next) → SpellsBlock bytes block
      → (f : Figures) → AreFigures block f → IsSome f.chains
  figures world calls fuel bytes next block verdict spells f are = are.forward.1 (forward world calls fuel bytes next block verdict spells)
