-- What `show` answers where a picture is asked for.
use Rattle.std.specs.Prelude.{◌≡◌, ◌⊎◌, ℕ, false, Option, Some, None, List, codes, string_bytes}
use Rattle.spec_block.specs.Worlds.{Block}
use Rattle.spec_block.specs.Bytes.{SpellsBlock}
use Rattle.wblock_picture.specs.Drawings.{IsPictureOf}
use Rattle.wblock_io.specs.Holding.{Holding}
use Rattle.wblock_line.specs.declared.answer.Answer.{Answer}
use Rattle.wblock_line.specs.declared.answer.Answer.TheVariants.{Done, Refused}
use Rattle.wblock_line.specs.Answers.{IsCounted}
use Rattle.wblock_contents.specs.declared.kind.Kind.{Kind}
use Rattle.wblock_contents.specs.declared.kind.Kind.TheVariants as kind
use Rattle.wblock_contents.specs.Shows.{IsOfKind, IsUnknown}
use Rattle.wblock_show.specs.Shows.{IsUnspelled}

-- the file is to hold the picture of the block
pub record TellsPicture (b : Block) (target : List ℕ) (a : Answer) : Type 0 where
  pub text : List ℕ
  pub is_picture : IsPictureOf b text
  pub is_done : IsCounted false (codes "picture") target text a

-- the block that the bytes spell is drawn
pub record DrawsSpelled (bytes target : List ℕ) (a : Answer) : Type 0 where
  pub block : Block
  pub spelled : SpellsBlock bytes block
  pub drawn : TellsPicture block target a

-- the block is drawn, or it is said why not
abbrev pub Draws : List ℕ → List ℕ → Answer → Type 0
Draws bytes target a = IsUnspelled bytes a ⊎ DrawsSpelled bytes target a

-- `refused show 2`
abbrev pub undrawn_line : List ℕ
undrawn_line = codes "refused show 2\n"

-- it is refused because its kind has no picture
abbrev pub HasNoPicture : Answer → Type 0
HasNoPicture (Done writes text) = ⊥
HasNoPicture (Refused line why) = string_bytes line ≡ undrawn_line

-- what comes of bytes of a kind, or of none
abbrev pub IsDrawnAs : Option Kind → List ℕ → List ℕ → Answer → Type 0
IsDrawnAs (Some kind.Module) bytes target a = HasNoPicture a
IsDrawnAs (Some kind.World) bytes target a = HasNoPicture a
IsDrawnAs (Some kind.Block) bytes target a = Draws bytes target a
IsDrawnAs None bytes target a = IsUnknown a

-- what comes of bytes
pub record IsDrawn (bytes target : List ℕ) (a : Answer) : Type 0 where
  pub of : Option Kind
  pub is : IsOfKind bytes of
  pub drawn : IsDrawnAs of bytes target a

-- what comes of the file of a name
pub record DrawsFile (holds : Holding) (file target : List ℕ) (a : Answer) : Type 0 where
  pub bytes : List ℕ
  pub held : holds file ≡ Some bytes
  pub drawn : IsDrawn bytes target a
