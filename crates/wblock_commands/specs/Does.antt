-- What a command does.
use Rattle.std.specs.Prelude.{◌≡◌, ℕ, ◌⊎◌, List, [], ◌++◌, string_bytes, Bool, IsTrue}
use Rattle.wblock_io.specs.Holding.{Holding, Failing, IsFailed}
use Rattle.wblock_line.specs.declared.answer.Answer.{Answer}
use Rattle.wblock_line.specs.declared.perform.Status.{Status}
use Rattle.wblock_line.specs.Answers.{EndsLine, upshot_of, status_of, writes_of, text_of, Wrote, IsFailing, IsSaid}
use Rattle.wblock_commands.specs.AnswersWithoutWords.{ShowsStored}
use Rattle.wblock_usage.specs.Texts.{TellsText}
use Rattle.wblock_modules.specs.Assembles.{Assembles}
use Rattle.wblock_modules.specs.Checks.{Checks}
use Rattle.wblock_modules.specs.Texts.{WritesText}
use Rattle.wblock_line.specs.Inputs.{IsNextInput}
use Rattle.wblock_blocks.specs.Mines.{Mines}
use Rattle.wblock_blocks.specs.Notes.{Notes}
use Rattle.wblock_blocks.specs.Validates.{Validates, IsNextFile}
use Rattle.wblock_call.specs.Calling.{Calls}
use Rattle.wblock_debug.specs.Debugs.{Debugs, IsNotListed, IsNextRead}
use Rattle.wblock_show.specs.FileAnswers.{ShowsNamed, IsNextNamed}
use Rattle.wblock_commands.specs.declared.command.Command.{Command}
use Rattle.wblock_commands.specs.declared.command.Command.TheVariants.{Stored, Help, Version, Asm, Text, Check, Deploy, Mine, Validate, Call, Debug, Show}
use Rattle.wblock_commands.specs.Deploying.{MayReplace, IsTaken, DeploysFree, IsNextToDeploy}

-- what a command comes to over files
abbrev pub Answers : Command → Holding → Answer → Type 0
Answers Stored holds answer = ShowsStored answer
Answers (Help words) holds answer = TellsText answer
Answers Version holds answer = TellsText answer
Answers (Asm text target json) holds answer = Assembles json holds text.now target.now answer
Answers (Text source target unchecked json) holds answer = WritesText unchecked json holds source.now target.now answer
Answers (Check target heap json) holds answer = Checks json holds target.now answer
Answers (Deploy task) holds answer = DeploysFree task holds (upshot_of answer)
Answers (Mine task) holds answer = Mines holds task (upshot_of answer)
Answers (Validate task) holds answer = Validates holds task (upshot_of answer)
Answers (Call task) holds answer = Calls holds task (upshot_of answer)
Answers (Debug task) holds answer = Debugs holds task answer
Answers (Show task) holds answer = ShowsNamed holds task answer

-- files decide whether there is what the command needs: a call of a number, or no file where a world is to be written
abbrev pub MayMiss : Command → Type 0
MayMiss (Deploy task) = ¬ MayReplace task
MayMiss (Debug task) = Unit {0}
MayMiss c = ⊥

-- a world would take a file's place unasked, or there is no call of the number that is asked for
abbrev pub Misses : Command → Holding → Type 0
Misses (Deploy task) holds = IsTaken task holds
Misses (Debug task) holds = IsNotListed holds task
Misses c holds = ⊥

-- blocks are mined
abbrev pub IsMine : Command → Type 0
IsMine (Mine task) = Unit {0}
IsMine c = ⊥

-- what is to be said of an answer once it is carried out: nothing, but by `mine` what its calls came to
abbrev pub IsNote : Command → Answer → List ℕ → Type 0
IsNote (Mine task) answer note = Notes (upshot_of answer) note
IsNote c answer note = note ≡ []

-- the answer of this status was written whole, and printed whole where the output tells what it took
pub record Does (c : Command) (status : Status) (tells : Bool) (old new : Holding) (before after : List ℕ) : Type 0 where
  pub answer : Answer
  pub answers : Answers c old answer
  pub status_is : status_of answer ≡ status
  pub wrote : Wrote (writes_of answer) old new
  pub told : IsTrue tells → after ≡ before ++ text_of answer

-- an answer was written or printed in part: the file of this name or the output failed, and nothing else did
pub record Cuts (c : Command) (name : List ℕ) (files output : Bool) (old new : Holding) (failed fails : Failing) (before after : List ℕ) (lost loses : ℕ) : Type 0 where
  pub answer : Answer
  pub answers : IsTrue files → Answers c old answer
  pub failing : IsFailing name answer files output old new failed fails before after lost loses

-- the command reads the file of this name, once those that it reads before give what they have to
abbrev pub Reads : Command → Holding → List ℕ → Type 0
Reads Stored holds name = ⊥
Reads (Help words) holds name = ⊥
Reads Version holds name = ⊥
Reads (Asm text target json) holds name = name ≡ text.now
Reads (Text source target unchecked json) holds name = name ≡ source.now
Reads (Check target heap json) holds name = name ≡ target.now
Reads (Deploy task) holds name = IsNextToDeploy task holds name
Reads (Mine task) holds name = IsNextInput holds task.world.now task.calls.now name
Reads (Validate task) holds name = IsNextFile holds task name
Reads (Call task) holds name = name ≡ task.world.now
Reads (Debug task) holds name = IsNextRead holds task name
Reads (Show task) holds name = IsNextNamed holds task name

-- nothing was written or printed
pub record IsKept (old new : Holding) (before after : List ℕ) : Type 0 where
  pub files : new ≡ old
  pub text : after ≡ before

-- the file of this name was to be read and failed, nothing else failed, and nothing was written or printed
pub record Stops (c : Command) (name : List ℕ) (files : Bool) (old new : Holding) (failed fails : Failing) (before after : List ℕ) (lost loses : ℕ) : Type 0 where
  pub counted : IsFailed name failed fails
  pub reads : IsTrue files → Reads c old name
  pub kept : IsTrue files → IsKept old new before after
  pub calm : loses ≡ lost

-- the file of this name failed where it was read or written, or the output did, and nothing else failed
abbrev pub Fails : Command → List ℕ → Bool → Bool → Holding → Holding → Failing → Failing → List ℕ → List ℕ → ℕ → ℕ → Type 0
Fails c name files output old new failed fails before after lost loses =
    Stops c name files old new failed fails before after lost loses ⊎ Cuts c name files output old new failed fails before after lost loses

-- a text that ends with a newline was said
pub record SaysText (old new : List ℕ) (failed fails : ℕ) : Type 0 where
  pub text : List ℕ
  pub ends_line : EndsLine text
  pub said : IsSaid text old new failed fails

-- nothing was said, or a text that ends with a newline
pub record SaysNote (old new : List ℕ) (failed fails : ℕ) : Type 0 where
  pub text : List ℕ
  pub is_note : (text ≡ []) ⊎ EndsLine text
  pub said : IsSaid text old new failed fails
