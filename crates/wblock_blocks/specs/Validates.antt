-- What `validate` answers.
use Rattle.std.specs.Prelude.{◌≡◌, ℕ, ◌⊎◌, Bool, true, false, List, [], ◌∷◌, ◌++◌, Option, Some, None, codes}
use Rattle.std.specs.Borrow.{Bor}
use Rattle.hex.specs.Hex.{encode_lower}
use Rattle.sha2.specs.Sha256.{sha256}
use Rattle.spec_block.specs.Worlds.{World, Call}
use Rattle.spec_block.specs.Bytes.{world_bytes}
use Rattle.spec_block.specs.Verdicts.{Verdict, Accept, Malformed, WrongWorld, WrongCalls, BadOrder, OverBudget, RoomLeft, BadTurns, Deviates, WrongEnd, IsVerdictOf}
use Rattle.wblock_json.specs.Json.{IsJson, IsLineOf}
use Rattle.wblock_io.specs.Holding.{Holding}
use Rattle.wblock_line.specs.declared.perform.Status.TheVariants as status
use Rattle.wblock_line.specs.Answers.{Written, Upshot}
use Rattle.wblock_line.specs.Inputs.{HoldsWorld, HoldsCalls, IsNextInput, TellsRefusal}
use Rattle.wblock_line.specs.Rejections.{IsRejection}
use Rattle.wblock_line.specs.Upshots.{IsRefusalWith}
use Rattle.wblock_blocks.specs.Objects.{accept_data}
use Rattle.wblock_blocks.specs.declared.validate.Validation.{Validation}

-- `accept` and `after HEX`, a line each, where HEX is the digest of the world after the block
abbrev pub accept_text : World → List ℕ
accept_text next = codes "accept" ++ 10 ∷ codes "after " ++ encode_lower (sha256 (world_bytes next)) ++ 10 ∷ []

-- these lines, or the same as JSON on a line
abbrev pub IsAcceptText : (json : Bool) → World → List ℕ → Type 0
IsAcceptText false next text = text ≡ accept_text next
IsAcceptText true next text = IsLineOf (IsJson (accept_data next)) text

-- the world after the block, in the file that is named for it; nothing where none is
abbrev pub next_writes : Option (Bor (List ℕ)) → World → List Written
next_writes (Some name) next = (name.now, world_bytes next) ∷ []
next_writes None next = []

-- the text tells the verdict, and the world after the block is to be written where a file is named for it
pub record Accepts (json : Bool) (name : Option (Bor (List ℕ))) (next : World) (u : Upshot) : Type 0 where
  pub status_is : u.status ≡ status.Done
  pub writes : u.writes ≡ next_writes name next
  pub text : IsAcceptText json next u.text

abbrev pub TellsVerdict : (json : Bool) → Option (Bor (List ℕ)) → Verdict → Upshot → Type 0
TellsVerdict json name (Accept next) u = Accepts json name next u
TellsVerdict json name Malformed u = IsRejection json Malformed u
TellsVerdict json name WrongWorld u = IsRejection json WrongWorld u
TellsVerdict json name WrongCalls u = IsRejection json WrongCalls u
TellsVerdict json name (BadOrder p) u = IsRejection json (BadOrder p) u
TellsVerdict json name OverBudget u = IsRejection json OverBudget u
TellsVerdict json name (RoomLeft c) u = IsRejection json (RoomLeft c) u
TellsVerdict json name (BadTurns p) u = IsRejection json (BadTurns p) u
TellsVerdict json name (Deviates p) u = IsRejection json (Deviates p) u
TellsVerdict json name WrongEnd u = IsRejection json WrongEnd u

-- the verdict on these bytes is told, of a block of these calls over this world
pub record ValidatesOver (world : World) (calls : List Call) (bytes : List ℕ) (task : Validation) (u : Upshot) : Type 0 where
  pub verdict : Verdict
  pub is : IsVerdictOf world calls task.fuel bytes verdict
  pub tells : TellsVerdict task.json task.next verdict u

-- the verdict is told on the bytes that the file of the block holds, over the world and the calls that their files hold
pub record IsJudged (holds : Holding) (task : Validation) (u : Upshot) : Type 0 where
  pub world : World
  pub held_world : HoldsWorld holds task.world.now world
  pub calls : List Call
  pub held_calls : HoldsCalls holds task.calls.now calls
  pub bytes : List ℕ
  pub held_block : holds task.block.now ≡ Some bytes
  pub validates : ValidatesOver world calls bytes task u

-- it is told why the world or the calls are refused
pub record IsRefused (holds : Holding) (task : Validation) (u : Upshot) : Type 0 where
  pub line : List ℕ
  pub why : TellsRefusal holds task.world.now task.calls.now line
  pub told : IsRefusalWith task.json line u

-- the files of the world and of the calls give both
pub record GivesBoth (holds : Holding) (task : Validation) : Type 0 where
  pub world : World
  pub held_world : HoldsWorld holds task.world.now world
  pub calls : List Call
  pub held_calls : HoldsCalls holds task.calls.now calls

-- the file of the world is read, then that of the calls, and then that of the block, each where those before it give what they have to
abbrev pub IsNextFile : Holding → Validation → List ℕ → Type 0
IsNextFile holds task name = IsNextInput holds task.world.now task.calls.now name ⊎ (GivesBoth holds task × (name ≡ task.block.now))

abbrev pub Validates : Holding → Validation → Upshot → Type 0
Validates holds task u = IsRefused holds task u ⊎ IsJudged holds task u
