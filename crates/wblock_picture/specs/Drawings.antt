-- The picture of a block.
use Rattle.std.specs.Prelude.{◌≡◌, ℕ, ◌<◌, List, length, map, not, slice_index}
use Rattle.std.specs.FinMap.{entries}
use Rattle.spec_ledger.specs.Modes.{Modes}
use Rattle.spec_ledger.specs.declared.Entry.{Entry}
use Rattle.spec_block.specs.Worlds.{Block, held_in, profiles_of}
use Rattle.spec_block.specs.Schedule.{HaveTurns, IsWave}
use Rattle.lock_profile.specs.Turns.{AreTurns}
use Rattle.figures.specs.Hottest.{AreHottest}
use Rattle.wblock_picture.specs.declared.scene.Scene.{Scene}
use Rattle.wblock_picture.specs.declared.scene.TheConstants.{MOST_BOXES}
use Rattle.wblock_picture.specs.Edges.{AreEdges}
use Rattle.wblock_picture.specs.Pictures.{picture}

-- the positions of an order touch these locks in these modes
abbrev pub Take : List (List Entry) → List Modes → Type 0
Take published touched = map entries touched ≡ map held_in published

-- the same locks in the same modes, with the turns that these have in the order, whatever turns are published
pub record AreTakenTurns (published profiles : List (List Entry)) : Type 0 where
  pub touched : List Modes
  pub modes : Take published touched
  pub turns : AreTurns touched profiles
  pub each : length profiles ≡ length published
  pub consistent : HaveTurns profiles

-- the waves and the first edges that the modes of a block make in its order, and its hottest locks
pub record IsSceneOf (b : Block) (scene : Scene) : Type 0 where
  pub positions : scene.positions.now ≡ b.positions
  pub profiles : List (List Entry)
  pub turns : AreTakenTurns (profiles_of b) profiles
  pub each : length scene.waves.now ≡ length b.positions
  pub waves : (i : ℕ) → i < length b.positions → IsWave profiles i (slice_index scene.waves.now i)
  pub edges : AreEdges profiles MOST_BOXES (not scene.more_edges) scene.edges.now
  pub hottest : AreHottest (profiles_of b) scene.hottest.now

-- the text is the picture of the block
pub record IsPictureOf (b : Block) (text : List ℕ) : Type 0 where
  pub scene : Scene
  pub of_block : IsSceneOf b scene
  pub text_is : text ≡ picture scene
