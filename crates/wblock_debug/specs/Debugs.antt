-- What `debug` answers.
use Rattle.std.specs.Prelude.{◌≡◌, ℕ, ◌⊎◌, Bool, List, [], Option, Some, None, slice_get, if◌then◌else◌}
use Rattle.std.specs.Borrow.{Bor}
use Rattle.spec_ledger.specs.declared.Version.{Version}
use Rattle.spec_ledger.specs.declared.Version.TheVariants.{Two}
use Rattle.spec_ledger.specs.Cells.{Cells}
use Rattle.spec_block.specs.Worlds.{World, Call}
use Rattle.spec_block.specs.Serial.{setting_of}
use Rattle.spec_block.specs.Verdicts.{Verdict}
use Rattle.block_judge.specs.Meeting.{IsVerdictWith, IsAbsent, Meets}
use Rattle.wblock_debug.specs.Lines.{left_line}
use Rattle.wblock_debug.specs.Prints.{IsDebugged}
use Rattle.wblock_io.specs.Holding.{Holding}
use Rattle.wblock_line.specs.declared.answer.Answer.{Answer}
use Rattle.wblock_line.specs.declared.perform.Status.TheVariants as status
use Rattle.wblock_line.specs.Answers.{writes_of, text_of, status_of}
use Rattle.wblock_line.specs.Inputs.{HoldsWorld, HoldsCalls, IsNextInput, TellsRefusal}
use Rattle.wblock_line.specs.Rejections.{Rejects}
use Rattle.wblock_line.specs.Forms.{IsRefusalIn}
use Rattle.wblock_debug.specs.declared.asked.Debugging.{Debugging}

-- the text is printed and no file is written
pub record IsText (refused : Bool) (text : List ℕ) (a : Answer) : Type 0 where
  pub status_is : status_of a ≡ (if refused then status.Refused else status.Done)
  pub writes : writes_of a ≡ []
  pub text_is : text_of a ≡ text

-- the answer has what the commands print of the call over these cells, by the rules of this version
pub record TellsCall (version : Version) (world : World) (cells : Cells) (call : Call) (task : Debugging) (a : Answer) : Type 0 where
  pub refused : Bool
  pub text : List ℕ
  pub debugged : IsDebugged task.style (setting_of version world) cells call task.commands.items refused text
  pub told : IsText refused text a

-- the answer tells that the block has no call of this number
abbrev pub TellsAbsent : (json : Bool) → ℕ → Answer → Type 0
TellsAbsent json number a = IsRefusalIn json (left_line number) a

-- the answer tells the verdict on the bytes of the block, with the fuel that is given, else with the least that its calls need
pub record IsRejected (world : World) (calls : List Call) (task : Debugging) (bytes : List ℕ) (a : Answer) : Type 0 where
  pub verdict : Verdict
  pub is : IsVerdictWith world calls task.fuel bytes verdict
  pub tells : Rejects task.style.json verdict a

-- the call does not stand in the block
pub record IsLeftOut (world : World) (calls : List Call) (task : Debugging) (bytes : List ℕ) (a : Answer) : Type 0 where
  pub absent : IsAbsent world calls task.fuel bytes task.call
  pub tells : TellsAbsent task.style.json task.call a

-- the call runs over the cells that it meets in the block, by the rules of the block's version
pub record IsMet (world : World) (calls : List Call) (call : Call) (task : Debugging) (bytes : List ℕ) (a : Answer) : Type 0 where
  pub version : Version
  pub cells : Cells
  pub meets : Meets world calls task.fuel bytes task.call version cells
  pub tells : TellsCall version world cells call task a

-- what is told of the call in the block of these bytes
abbrev pub TellsOfBlock : World → List Call → Call → Debugging → List ℕ → Answer → Type 0
TellsOfBlock world calls call task bytes a = IsRejected world calls task bytes a ⊎ (IsLeftOut world calls task bytes a ⊎ IsMet world calls call task bytes a)

-- the file of the block holds these bytes
pub record IsOfBlock (holds : Holding) (world : World) (calls : List Call) (call : Call) (task : Debugging) (name : List ℕ) (a : Answer) : Type 0 where
  pub bytes : List ℕ
  pub held : holds name ≡ Some bytes
  pub tells : TellsOfBlock world calls call task bytes a

-- without a block the call runs alone over the world's cells, by the rules of version 2
abbrev pub TellsListed : Holding → World → List Call → Call → Debugging → Option (Bor (List ℕ)) → Answer → Type 0
TellsListed holds world calls call task None a = TellsCall Two world world.cells call task a
TellsListed holds world calls call task (Some block) a = IsOfBlock holds world calls call task block.now a

-- the call of the task's number, of those that the file of the calls holds
pub record IsOfCall (holds : Holding) (task : Debugging) (a : Answer) : Type 0 where
  pub world : World
  pub held_world : HoldsWorld holds task.world.now world
  pub calls : List Call
  pub held_calls : HoldsCalls holds task.calls.now calls
  pub call : Call
  pub listed : slice_get calls task.call ≡ Some call
  pub tells : TellsListed holds world calls call task task.block a

-- the answer tells why the world or the calls are refused
pub record IsRefused (holds : Holding) (task : Debugging) (a : Answer) : Type 0 where
  pub line : List ℕ
  pub why : TellsRefusal holds task.world.now task.calls.now line
  pub told : IsRefusalIn task.style.json line a

abbrev pub Debugs : Holding → Debugging → Answer → Type 0
Debugs holds task a = IsRefused holds task a ⊎ IsOfCall holds task a

-- there is no call of this number
pub record IsNotListed (holds : Holding) (task : Debugging) : Type 0 where
  pub world : World
  pub held_world : HoldsWorld holds task.world.now world
  pub calls : List Call
  pub held_calls : HoldsCalls holds task.calls.now calls
  pub none : slice_get calls task.call ≡ None

-- the name is that of the block
abbrev pub IsBlockName : Option (Bor (List ℕ)) → List ℕ → Type 0
IsBlockName None name = ⊥
IsBlockName (Some block) name = name ≡ block.now

-- there is a call of this number, and the name is that of the block
pub record IsNextBlock (holds : Holding) (task : Debugging) (name : List ℕ) : Type 0 where
  pub world : World
  pub held_world : HoldsWorld holds task.world.now world
  pub calls : List Call
  pub held_calls : HoldsCalls holds task.calls.now calls
  pub call : Call
  pub listed : slice_get calls task.call ≡ Some call
  pub is : IsBlockName task.block name

-- the file of the world is read, then that of the calls, and then, where a block is named, that of the block, each where those before it give what they have to
abbrev pub IsNextRead : Holding → Debugging → List ℕ → Type 0
IsNextRead holds task name = IsNextInput holds task.world.now task.calls.now name ⊎ IsNextBlock holds task name
