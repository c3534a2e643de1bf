-- What `show --json` answers.
use Rattle.std.specs.Prelude.{◌≡◌, ◌⊎◌, ℕ, Bool, true, Option, Some, None, List, []}
use Rattle.spec_modules.specs.Syntax.{Module}
use Rattle.spec_block.specs.Worlds.{Block, Call, World}
use Rattle.spec_block.specs.Bytes.{SpellsBlock, SpellsWorld}
use Rattle.wblock_json.specs.Json.{IsLineOf}
use Rattle.wblock_json.specs.Blocks.{IsBlockJson}
use Rattle.wblock_json.specs.Modules.{IsModuleJson}
use Rattle.wblock_json.specs.Worlds.{IsWorldJson}
use Rattle.wblock_io.specs.Holding.{Holding}
use Rattle.wblock_line.specs.declared.answer.Answer.{Answer}
use Rattle.wblock_line.specs.declared.answer.Answer.TheVariants.{Done, Refused}
use Rattle.wblock_line.specs.Answers.{writes_of, text_of, status_of}
use Rattle.wblock_line.specs.declared.perform.Status.TheVariants as status
use Rattle.wblock_line.specs.Modules.{IsValidOf}
use Rattle.wblock_line.specs.Refusals.{TellsNoModule}
use Rattle.wblock_line.specs.Forms.{IsInForm}
use Rattle.wblock_line.specs.Worlds.{TellsNoWorld}
use Rattle.wblock_contents.specs.declared.kind.Kind.{Kind}
use Rattle.wblock_contents.specs.declared.kind.Kind.TheVariants as kind
use Rattle.wblock_contents.specs.Shows.{Answers, IsOfKind, IsUnknown}
use Rattle.wblock_show.specs.declared.file.Showing.{Showing}
use Rattle.wblock_show.specs.Shows.{AreItsCalls, HoldsNamedCalls, IsOfOther, IsUnspelled, TellsCallsRefusal}

-- ---- blocks

-- the line of a block with its figures, and no file is to be written
pub record IsJsonOf (b : Block) (calls : Option (List Call)) (a : Answer) : Type 0 where
  pub status : status_of a ≡ status.Done
  pub writes : writes_of a ≡ []
  pub text : IsLineOf (IsBlockJson b calls) (text_of a)

-- a block is told where the calls, if they are known, are its own, or else it is said why they are not
abbrev pub TellsIt : Block → Option (List Call) → Answer → Type 0
TellsIt b calls a = (AreItsCalls b calls × IsJsonOf b calls a) ⊎ IsOfOther b calls a

-- the block that the bytes spell is told
pub record TellsSpelled (bytes : List ℕ) (calls : Option (List Call)) (a : Answer) : Type 0 where
  pub block : Block
  pub spelled : SpellsBlock bytes block
  pub tells : TellsIt block calls a

-- the block is told, or it is said why not
abbrev pub TellsBlock : List ℕ → Option (List Call) → Answer → Type 0
TellsBlock bytes calls a = IsUnspelled bytes a ⊎ TellsSpelled bytes calls a

-- the block of its file is told, with the calls of theirs where one is named; or it is said why not
pub record TellsFile (holds : Holding) (task : Showing) (a : Answer) : Type 0 where
  pub calls : Option (List Call)
  pub held_calls : HoldsNamedCalls holds task.calls calls
  pub bytes : List ℕ
  pub held_block : holds task.file.now ≡ Some bytes
  pub tells : TellsBlock bytes calls a

abbrev pub TellsFileBlock : Holding → Showing → Answer → Type 0
TellsFileBlock holds task a = TellsCallsRefusal holds task.calls a ⊎ TellsFile holds task a

-- ---- files of any kind

-- the bytes spell a valid module, and the text is its line
pub record TellsModuleJson (bytes text : List ℕ) : Type 0 where
  pub tree : Module
  pub valid : IsValidOf bytes tree
  pub text_is : IsLineOf (IsModuleJson bytes tree) text

-- the bytes spell a world, and the text is its line
pub record TellsWorldJson (signed : Bool) (bytes text : List ℕ) : Type 0 where
  pub world : World
  pub spelled : SpellsWorld bytes world
  pub text_is : IsLineOf (IsWorldJson signed world) text

-- what is told of bytes of a kind, or of none: a block is told without its calls
abbrev pub IsToldAs : (signed : Bool) → List ℕ → Option Kind → Answer → Type 0
IsToldAs signed bytes (Some kind.Module) a = Answers (TellsModuleJson bytes) (TellsNoModule bytes) a
IsToldAs signed bytes (Some kind.World) a = Answers (TellsWorldJson signed bytes) (TellsNoWorld bytes) a
IsToldAs signed bytes (Some kind.Block) a = TellsBlock bytes None a
IsToldAs signed bytes None a = IsUnknown a

-- what is told of bytes
pub record IsTold (signed : Bool) (bytes : List ℕ) (a : Answer) : Type 0 where
  pub of : Option Kind
  pub is : IsOfKind bytes of
  pub told : IsToldAs signed bytes of a

-- no calls are named, and what is in the file is told
pub record TellsContents (holds : Holding) (task : Showing) (a : Answer) : Type 0 where
  pub alone : task.calls ≡ None
  pub bytes : List ℕ
  pub held : holds task.file.now ≡ Some bytes
  pub told : IsTold task.signed bytes a

-- the block is told with its calls, where they are named, or else what is in the file, whatever its kind
abbrev pub TellsNamed : Holding → Showing → Answer → Type 0
TellsNamed holds task a = TellsContents holds task a ⊎ TellsFileBlock holds task a

-- the same, and a refusal is an object, too
pub record TellsJson (holds : Holding) (task : Showing) (a : Answer) : Type 0 where
  pub plain : Answer
  pub tells : TellsNamed holds task plain
  pub told : IsInForm true plain a
