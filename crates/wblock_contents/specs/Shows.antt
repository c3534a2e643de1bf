-- What is shown of a file.
use Rattle.std.specs.Prelude.{◌≡◌, ℕ, Bool, List, [], Option, Some, None, codes, string_bytes}
use Rattle.wblock_io.specs.Holding.{Holding}
use Rattle.wblock_calls.specs.Sentences.{Begins}
use Rattle.wblock_line.specs.declared.answer.Answer.{Answer}
use Rattle.wblock_line.specs.declared.answer.Answer.TheVariants.{Done, Refused}
use Rattle.wblock_line.specs.Refusals.{TellsNoModule}
use Rattle.wblock_line.specs.Worlds.{TellsNoWorld}
use Rattle.wblock_contents.specs.declared.kind.Kind.{Kind}
use Rattle.wblock_contents.specs.declared.kind.Kind.TheVariants as kind
use Rattle.wblock_contents.specs.declared.show.Contents.{Contents}
use Rattle.wblock_contents.specs.declared.show.Contents.TheVariants.{Told, Block}
use Rattle.wblock_contents.specs.Kinds.{magic}
use Rattle.wblock_contents.specs.Listings.{TellsModule, TellsWorld}

-- nothing is to be written, and the text tells this; or the line tells that
abbrev pub Answers : (List ℕ → Type 0) → (List ℕ → Type 0) → Answer → Type 0
Answers Tells TellsNo (Done writes text) = (writes.items ≡ []) × Tells (string_bytes text)
Answers Tells TellsNo (Refused line why) = TellsNo (string_bytes line)

-- `refused show 1`
abbrev pub unknown_line : List ℕ
unknown_line = codes "refused show 1\n"

-- it is refused because it is of no kind
abbrev pub IsUnknown : Answer → Type 0
IsUnknown (Done writes text) = ⊥
IsUnknown (Refused line why) = string_bytes line ≡ unknown_line

-- what is shown of bytes of a kind, or of none: a block is handed on as it is
abbrev pub IsShownAs : (signed : Bool) → List ℕ → Option Kind → Contents → Type 0
IsShownAs signed bytes (Some kind.Module) (Told answer) = Answers (TellsModule bytes) (TellsNoModule bytes) answer
IsShownAs signed bytes (Some kind.World) (Told answer) = Answers (TellsWorld signed bytes) (TellsNoWorld bytes) answer
IsShownAs signed bytes (Some kind.Block) (Block same) = same.items ≡ bytes
IsShownAs signed bytes None (Told answer) = IsUnknown answer
IsShownAs signed bytes _ _ = ⊥

-- the bytes begin with the magic of the kind, or with none
abbrev pub IsOfKind : List ℕ → Option Kind → Type 0
IsOfKind bytes (Some k) = Begins (magic k) bytes
IsOfKind bytes None = (k : Kind) → ¬ Begins (magic k) bytes

-- what is shown of bytes
pub record IsShown (signed : Bool) (bytes : List ℕ) (contents : Contents) : Type 0 where
  pub of : Option Kind
  pub is : IsOfKind bytes of
  pub shown : IsShownAs signed bytes of contents

-- what is shown of the file of a name
pub record Shows (signed : Bool) (holds : Holding) (name : List ℕ) (contents : Contents) : Type 0 where
  pub bytes : List ℕ
  pub held : holds name ≡ Some bytes
  pub shown : IsShown signed bytes contents
