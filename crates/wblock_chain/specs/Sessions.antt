-- What the lines of a session come to: each is a single command over the files in which WORLD holds the session's world.
use Rattle.std.specs.Prelude.{◌≡◌, ◌≢◌, ◌↔◌, ℕ, ◌<◌, ◌≤◌, ◌⊎◌, List, [], ◌∷◌, ◌++◌, Option, Some, None, IsSome, IfSome, codes, length, take, if◌then◌else◌}
use Rattle.std.specs.List.{All, flat_map}
use Rattle.std.specs.Str.{bytes_eq}
use Rattle.sha2.specs.Sha256.{sha256}
use Rattle.spec_block.specs.Worlds.{World}
use Rattle.spec_block.specs.Bytes.{world_bytes}
use Rattle.wblock_io.specs.Holding.{Holding, Changes}
use Rattle.wblock_line.specs.Answers.{EndsLine, Upshot, Written, Wrote, file_line, sentence_line}
use Rattle.wblock_line.specs.Inputs.{Holds, HoldsWorld}
use Rattle.wblock_line.specs.Worlds.{TellsNoWorld}
use Rattle.wblock_line.specs.declared.perform.Status.{Status}
use Rattle.wblock_line.specs.declared.perform.Status.TheVariants as status
use Rattle.wblock_blocks.specs.Mines.{Mines}
use Rattle.wblock_blocks.specs.Validates.{Validates}
use Rattle.wblock_call.specs.Calling.{Calls}
use Rattle.wblock_commands.specs.Deploying.{DeploysFree}
use Rattle.wblock_commands.specs.Does.{Reads}
use Rattle.wblock_commands.specs.declared.command.Command.{Command}
use Rattle.wblock_commands.specs.declared.command.Command.TheVariants.{Deploy, Mine, Validate, Call}
use Rattle.wblock_chain.specs.declared.asked.SessionCommand.{SessionCommand}
use Rattle.wblock_chain.specs.declared.asked.SessionCommand.TheVariants.{Single, Save, Digest, Quit}
use Rattle.wblock_chain.specs.Replies.{block_line, digest_line, reply, saved_line}
use Rattle.wblock_chain.specs.Words.{Asks, AsksCalls, calls_here, told_block}

-- what a session has between two lines
pub record Session : Type 0 where
  pub files : Holding
  pub world : World

-- a line, the lines of calls behind it, where it asks for them, and its answer
pub record Exchange : Type 0 where
  pub line : List ℕ
  pub calls : Option (List (List ℕ))
  pub status : Status
  pub text : List ℕ
  pub said : List ℕ

abbrev pub reply_in : Exchange → List ℕ
reply_in e = reply e.text e.said e.status

-- ---- the lines that are taken

-- an empty line ends the calls
abbrev pub behind : Option (List (List ℕ)) → List (List ℕ)
behind None = []
behind (Some calls) = calls ++ [] ∷ []

abbrev pub lines_in : Exchange → List (List ℕ)
lines_in e = e.line ∷ behind e.calls

abbrev pub AreFull : List (List ℕ) → Type 0
AreFull calls = All (λ line. line ≢ []) calls

-- the calls behind the line are taken where it asks for them
pub record IsTaken (e : Exchange) : Type 0 where
  pub asked : IsSome e.calls ↔ AsksCalls e.line
  pub full : IfSome e.calls AreFull

-- the text of the calls, each line with its newline
abbrev pub text_of_calls : Option (List (List ℕ)) → Option (List ℕ)
text_of_calls None = None
text_of_calls (Some calls) = Some (flat_map (λ line. line ++ 10 ∷ []) calls)

-- ---- the files that stand to a single command

abbrev pub over : Option (List ℕ) → Option (List ℕ) → Option (List ℕ)
over None held = held
over (Some bytes) held = Some bytes

-- WORLD holds the session's world, `calls -` the calls behind the line, where there are any, and `block -` the block that is told; all other files hold what they hold
abbrev pub standing : (name : List ℕ) → World → (calls block : Option (List ℕ)) → Holding → Holding
standing name world calls block files other =
    if bytes_eq other name then Some (world_bytes world)
    else if bytes_eq other calls_here then over calls (files other)
    else if bytes_eq other told_block then over block (files other)
    else files other

-- one of the names whose files a single command leaves as they are, though it may write to them as they stand
abbrev pub IsKeptName : (name other : List ℕ) → Type 0
IsKeptName name other = (other ≡ name) ⊎ ((other ≡ calls_here) ⊎ (other ≡ told_block))

-- the block's bytes are told
abbrev pub TellsBlock : Command → Type 0
TellsBlock (Mine task) = task.block.now ≡ told_block
TellsBlock c = ⊥

-- ---- one line

-- what a command over a world comes to: the definition of the single command
abbrev pub ComesTo : Command → Holding → Upshot → Type 0
ComesTo (Deploy task) holds u = DeploysFree task holds u
ComesTo (Mine task) holds u = Mines holds task u
ComesTo (Validate task) holds u = Validates holds task u
ComesTo (Call task) holds u = Calls holds task u
ComesTo c holds u = ⊥

-- A single command came to this over the files that stand: its write of WORLD is the session's next world, and every other one is of a file, or is told.
pub record DoesSingle (name : List ℕ) (c : Command) (e : Exchange) (old new : Session) : Type 0 where
  pub upshot : Upshot
  pub comes : ComesTo c (standing name old.world (text_of_calls e.calls) None old.files) upshot
  pub status_is : e.status ≡ upshot.status
  pub block : Option (List ℕ)
  pub tells_block : IsSome block → TellsBlock c
  pub wrote : Wrote upshot.writes (standing name old.world (text_of_calls e.calls) None old.files) (standing name new.world (text_of_calls e.calls) block new.files)
  pub kept : (other : List ℕ) → IsKeptName name other → new.files other ≡ old.files other
  pub text_is : e.text ≡ upshot.text ++ block_line block

-- the file holds the bytes of the world, and all else is as it was
pub record Saves (file : List ℕ) (e : Exchange) (old new : Session) : Type 0 where
  pub status_is : e.status ≡ status.Done
  pub changes : Changes old.files new.files file (world_bytes old.world)
  pub world : new.world ≡ old.world
  pub text_is : e.text ≡ saved_line (length (world_bytes old.world))

-- a text is told, and all is as it was
pub record TellsText (text : List ℕ) (e : Exchange) (old new : Session) : Type 0 where
  pub status_is : e.status ≡ status.Done
  pub same : new ≡ old
  pub text_is : e.text ≡ text

abbrev pub DoesAsked : (name : List ℕ) → SessionCommand → Exchange → (old new : Session) → Type 0
DoesAsked name (Single c) e old new = DoesSingle name c e old new
DoesAsked name (Save file) e old new = Saves file.now e old new
DoesAsked name Digest e old new = TellsText (digest_line (sha256 (world_bytes old.world))) e old new
DoesAsked name Quit e old new = TellsText [] e old new

-- the line asks for this, and it was done or refused
pub record DoesLine (name : List ℕ) (e : Exchange) (old new : Session) : Type 0 where
  pub command : SessionCommand
  pub asks : Asks name e.line command
  pub does : DoesAsked name command e old new

-- the line or one behind it is too long
abbrev pub IsTooLong : Exchange → Type 0
IsTooLong e = (1048576 < length e.line) ⊎ ¬ IfSome e.calls (All (λ line. length line ≤ 1048576))

-- the line asks for nothing, and all is as it was
pub record IsUsage (name : List ℕ) (e : Exchange) (old new : Session) : Type 0 where
  pub status_is : e.status ≡ status.Usage
  pub nothing : IsTooLong e ⊎ ((c : SessionCommand) → ¬ Asks name e.line c)
  pub same : new ≡ old
  pub text_is : e.text ≡ []

-- a file that the command reads over the files that stand, or that it is to write
abbrev pub Uses : SessionCommand → Holding → (file : List ℕ) → Type 0
Uses (Single c) holds file = Reads c holds file ⊎ ((u : Upshot) × ComesTo c holds u × ((bytes : List ℕ) × (others : List Written) × (u.writes ≡ (file, bytes) ∷ others)))
Uses (Save saved) holds file = file ≡ saved.now
Uses Digest holds file = ⊥
Uses Quit holds file = ⊥

-- a file failed, of which it is said, and all is as it was
pub record FailsLine (name : List ℕ) (e : Exchange) (old new : Session) : Type 0 where
  pub status_is : e.status ≡ status.File
  pub command : SessionCommand
  pub asks : Asks name e.line command
  pub file : List ℕ
  pub uses : Uses command (standing name old.world (text_of_calls e.calls) None old.files) file
  pub why : List ℕ
  pub said_is : e.said ≡ file_line file ++ sentence_line why
  pub same : new ≡ old
  pub text_is : e.text ≡ []

-- a line was answered
pub record IsAnswered (name : List ℕ) (e : Exchange) (old new : Session) : Type 0 where
  pub taken : IsTaken e
  pub said : (e.said ≡ []) ⊎ EndsLine e.said
  pub answer : IsUsage name e old new ⊎ (FailsLine name e old new ⊎ DoesLine name e old new)

-- ---- a session

-- the line was answered as `quit`
pub record IsQuit (name : List ℕ) (e : Exchange) : Type 0 where
  pub status_is : e.status ≡ status.Done
  pub asks : Asks name e.line Quit

-- lines were answered, one after another, and none behind `quit`
abbrev pub Runs : (name : List ℕ) → List Exchange → (old new : Session) → Type 0
Runs name [] old new = new ≡ old
Runs name (e ∷ es) old new = (mid : Session) × IsAnswered name e old mid × (IsQuit name e → es ≡ []) × Runs name es mid new

-- the first lines were answered in these exchanges, and the others are left
pub record IsRun (name : List ℕ) (es : List Exchange) (lines rest : List (List ℕ)) (old new : Session) : Type 0 where
  pub runs : Runs name es old new
  pub lines_are : lines ≡ flat_map lines_in es ++ rest

-- no line is left, or one whose calls are not ended
abbrev pub IsUnfinished : List (List ℕ) → Type 0
IsUnfinished [] = Unit {0}
IsUnfinished (line ∷ calls) = AsksCalls line × AreFull calls

-- the last of the lines was `quit`
pub record HasQuit (name : List ℕ) (es : List Exchange) : Type 0 where
  pub front : List Exchange
  pub last : Exchange
  pub are : es ≡ front ++ last ∷ []
  pub quits : IsQuit name last

-- the session over this world answered its lines up to `quit` or to their end
pub record IsSessionOver (name : List ℕ) (world : World) (lines : List (List ℕ)) (old new : Holding) (before after : List ℕ) : Type 0 where
  pub last : World
  pub exchanges : List Exchange
  pub rest : List (List ℕ)
  pub run : IsRun name exchanges lines rest (record { files = old; world = world }) (record { files = new; world = last })
  pub ended : HasQuit name exchanges ⊎ IsUnfinished rest
  pub told : after ≡ before ++ flat_map reply_in exchanges

-- a beginning of the bytes was told
abbrev pub IsToldInPart : (bytes before after : List ℕ) → Type 0
IsToldInPart bytes before after = (count : ℕ) × (after ≡ before ++ take count bytes)

-- it answered some lines and was stopped between two: memory was refused, or the input or the output failed, where a beginning of the answers was told
pub record IsStoppedOver (name : List ℕ) (world : World) (lines : List (List ℕ)) (s : Status) (old new : Holding) (before after : List ℕ) : Type 0 where
  pub last : World
  pub exchanges : List Exchange
  pub rest : List (List ℕ)
  pub run : IsRun name exchanges lines rest (record { files = old; world = world }) (record { files = new; world = last })
  pub said : List ℕ
  pub told : IsToldInPart (flat_map reply_in exchanges ++ reply [] said s) before after

-- the world is that of the file of this name
pub record IsSession (name : List ℕ) (lines : List (List ℕ)) (old new : Holding) (before after : List ℕ) : Type 0 where
  pub world : World
  pub held : HoldsWorld old name world
  pub session : IsSessionOver name world lines old new before after

pub record IsStopped (name : List ℕ) (lines : List (List ℕ)) (s : Status) (old new : Holding) (before after : List ℕ) : Type 0 where
  pub world : World
  pub held : HoldsWorld old name world
  pub stopped : IsStoppedOver name world lines s old new before after

-- it did not begin: the world could not be read, and no file was changed
pub record HasNotBegun (old new : Holding) (before after : List ℕ) : Type 0 where
  pub files : new ≡ old
  pub text : List ℕ
  pub said : List ℕ
  pub shown : Status
  pub told : IsToldInPart (reply text said shown) before after

-- the file of the world holds none, which is told with the line of the single commands
pub record RefusesWorld (name : List ℕ) (old new : Holding) (before after : List ℕ) : Type 0 where
  pub files : new ≡ old
  pub line : List ℕ
  pub none : Holds old name (λ bytes. TellsNoWorld bytes line)
  pub said : List ℕ
  pub told : after ≡ before ++ reply line said status.Refused
