-- What the words of a line ask for.
use Rattle.std.specs.Prelude.{◌≡◌, ◌≢◌, ℕ, ◌<◌, ◌≤◌, ◌⊎◌, List, [], ◌∷◌, Bool, Option, Some, None, IfSome, codes, length}
use Rattle.std.specs.Borrow.{Bor}
use Rattle.wblock_calls.specs.Words.{texts}
use Rattle.wblock_line.specs.Words.{AsksAlone, Line, split}
use Rattle.wblock_commands.specs.declared.command.Command.{Command}
use Rattle.wblock_commands.specs.declared.command.Command.TheVariants.{Stored, Help, Version, Asm, Text, Check, Deploy, Mine, Validate, Call, Debug, Show}
use Rattle.wblock_commands.specs.declared.command.Deploying.{Deploying}
use Rattle.wblock_commands.specs.Options.{AsksFuel, AsksWorkers, AsksTries, AsksBoosted, AsksNext, AsksCalls, AsksForm, AsksJson, AsksSigned, AsksUnchecked, AsksForce, AsksHeap, AsksOnto, HasOnlyDeploying, HasOnlyMining, HasOnlyTwo, HasOnlyValidation, HasOnlyShowing}
use Rattle.wblock_debug.specs.Asks.{AsksDebug}
use Rattle.wblock_call.specs.Calling.{AsksCall}
use Rattle.wblock_debug.specs.declared.asked.Debugging.{Debugging}
use Rattle.wblock_call.specs.declared.called.Calling.{Calling}
use Rattle.wblock_blocks.specs.declared.mine.Mining.{Mining}
use Rattle.wblock_blocks.specs.declared.validate.Validation.{Validation}
use Rattle.wblock_show.specs.declared.file.Form.{Form}
use Rattle.wblock_show.specs.declared.file.Form.TheVariants as form
use Rattle.wblock_show.specs.declared.file.Showing.{Showing}

-- the word is none of these
abbrev pub IsApart : List ℕ → List (List ℕ) → Type 0
IsApart word [] = Unit {0}
IsApart word (other ∷ others) = (other ≢ word) × IsApart word others

-- no words
pub record AsksStored (line : Line) : Type 0 where
  pub words : line.words ≡ []
  pub options : line.options ≡ []

-- `asm TEXT MODULE [--json]`, of different names
pub record AsksAsm (line : Line) (text target : List ℕ) (json : Bool) : Type 0 where
  pub words : line.words ≡ codes "asm" ∷ text ∷ target ∷ []
  pub options : AsksAlone (codes "--json") line.options json
  pub apart : text ≢ target

-- `text MODULE TEXT [--unchecked] [--json]`, of different names
pub record AsksText (line : Line) (source target : List ℕ) (unchecked json : Bool) : Type 0 where
  pub words : line.words ≡ codes "text" ∷ source ∷ target ∷ []
  pub unchecked_is : AsksUnchecked line.options unchecked
  pub json_is : AsksJson line.options json
  pub only : HasOnlyTwo (codes "--unchecked") (codes "--json") line.options
  pub apart : source ≢ target

-- `check MODULE [--heap N] [--json]`
pub record AsksCheck (line : Line) (target : List ℕ) (heap : Option ℕ) (json : Bool) : Type 0 where
  pub words : line.words ≡ codes "check" ∷ target ∷ []
  pub heap_is : AsksHeap line.options heap
  pub json_is : AsksJson line.options json
  pub only : HasOnlyTwo (codes "--heap") (codes "--json") line.options

-- `deploy WORLD MODULE...`, WORLD of a name that no MODULE has, whatever the options
pub record NamesModules (words : List (List ℕ)) (world : List ℕ) (modules : List (List ℕ)) : Type 0 where
  pub words_are : words ≡ codes "deploy" ∷ world ∷ modules
  pub some : 0 < length modules
  pub few : length modules ≤ 1024
  pub apart : IsApart world modules

-- `deploy WORLD MODULE... [--onto OLD] [--force] [--json]`
pub record AsksDeploy (line : Line) (d : Deploying) : Type 0 where
  pub names : NamesModules line.words d.world.now (texts d.modules.now)
  pub onto : AsksOnto line.options d.onto
  pub force : AsksForce line.options d.forced
  pub json : AsksJson line.options d.json
  pub only : HasOnlyDeploying line.options

-- what is written takes the place of no input and of no other output: BLOCK has a name of its own, and NEXT another than CALLS; NEXT may be WORLD
pub record KeepsInputs (m : Mining) : Type 0 where
  pub world : m.world.now ≢ m.block.now
  pub calls : m.calls.now ≢ m.block.now
  pub block : m.next.now ≢ m.block.now
  pub list : m.calls.now ≢ m.next.now

-- `mine WORLD CALLS BLOCK NEXT --fuel N [--workers 4] [--boosted] [--tries 3] [--json]`
pub record AsksMine (line : Line) (m : Mining) : Type 0 where
  pub words : line.words ≡ codes "mine" ∷ m.world.now ∷ m.calls.now ∷ m.block.now ∷ m.next.now ∷ []
  pub fuel : AsksFuel line.options m.fuel
  pub workers : AsksWorkers line.options m.workers
  pub tries : AsksTries line.options m.tries
  pub boosted : AsksBoosted line.options m.boosted
  pub json : AsksJson line.options m.json
  pub only : HasOnlyMining line.options
  pub apart : KeepsInputs m

-- `validate WORLD CALLS BLOCK --fuel N [--workers 4]`, and maybe `--boosted`, `--next` and `--json`
pub record CountsValidate (line : Line) (world calls block : List ℕ) (fuel workers : ℕ) : Type 0 where
  pub words : line.words ≡ codes "validate" ∷ world ∷ calls ∷ block ∷ []
  pub fuel_is : AsksFuel line.options fuel
  pub workers_are : AsksWorkers line.options workers
  pub only : HasOnlyValidation line.options

-- `validate WORLD CALLS BLOCK --fuel N [--workers 4] [--boosted] [--next NEXT] [--json]`, whatever NEXT is
pub record SpellsValidate (line : Line) (v : Validation) : Type 0 where
  pub counts : CountsValidate line v.world.now v.calls.now v.block.now v.fuel v.workers
  pub boosted : AsksBoosted line.options v.boosted
  pub next : AsksNext line.options v.next
  pub json : AsksJson line.options v.json

-- the world after the block takes the place of neither the calls nor the block; it may take that of the world
abbrev pub NextIsApart : Validation → Type 0
NextIsApart v = IfSome v.next (λ next. (v.calls.now ≢ next.now) × (v.block.now ≢ next.now))

-- `validate WORLD CALLS BLOCK --fuel N [--workers 4] [--boosted] [--next NEXT] [--json]`, NEXT of a name that neither CALLS nor BLOCK has
pub record AsksValidate (line : Line) (v : Validation) : Type 0 where
  pub spells : SpellsValidate line v
  pub apart : NextIsApart v

-- `show FILE [--calls CALLS] [--signed]`, with `--json` or `--svg PICTURE` or neither, whatever PICTURE is
pub record SpellsShow (line : Line) (s : Showing) : Type 0 where
  pub words : line.words ≡ codes "show" ∷ s.file.now ∷ []
  pub calls : AsksCalls line.options s.calls
  pub form : AsksForm line.options s.form
  pub signed : AsksSigned line.options s.signed
  pub only : HasOnlyShowing line.options

-- the picture of a block is drawn without calls, and takes the place of no file that is read
abbrev pub IsDrawnApart : Form → Option (Bor (List ℕ)) → List ℕ → Type 0
IsDrawnApart form.Text calls file = Unit {0}
IsDrawnApart form.Json calls file = Unit {0}
IsDrawnApart (form.Picture picture) calls file = (calls ≡ None) × (file ≢ picture.now)

abbrev pub PictureIsApart : Showing → Type 0
PictureIsApart s = IsDrawnApart s.form s.calls s.file.now

-- `show FILE [--calls CALLS] [--json] [--signed]`, or `show FILE --svg PICTURE [--signed]`, PICTURE of another name than FILE
pub record AsksShow (line : Line) (s : Showing) : Type 0 where
  pub spells : SpellsShow line s
  pub apart : PictureIsApart s

-- the line asks for no command over a world and calls
pub record AsksNoTask (line : Line) : Type 0 where
  pub mining : (m : Mining) → ¬ AsksMine line m
  pub validation : (v : Validation) → ¬ AsksValidate line v
  pub calling : (c : Calling) → ¬ AsksCall line c
  pub debugging : (d : Debugging) → ¬ AsksDebug line d

abbrev pub IsLineOf : Line → Command → Type 0
IsLineOf line Stored = AsksStored line
IsLineOf line (Help words) = ⊥
IsLineOf line Version = ⊥
IsLineOf line (Asm text target json) = AsksAsm line text.now target.now json
IsLineOf line (Text source target unchecked json) = AsksText line source.now target.now unchecked json
IsLineOf line (Check target heap json) = AsksCheck line target.now heap json
IsLineOf line (Deploy task) = AsksDeploy line task
IsLineOf line (Mine task) = AsksMine line task
IsLineOf line (Validate task) = AsksValidate line task
IsLineOf line (Call task) = AsksCall line task
IsLineOf line (Debug task) = AsksDebug line task
IsLineOf line (Show task) = AsksShow line task

-- `--help` or `-h` stands among the words
abbrev pub AsksHelp : List (List ℕ) → Type 0
AsksHelp words = ¬ (IsApart (codes "--help") words × IsApart (codes "-h") words)

-- the words ask to be told of the program
abbrev pub IsTold : List (List ℕ) → Command → Type 0
IsTold words (Help asked) = AsksHelp words
IsTold words Version = words ≡ codes "--version" ∷ []
IsTold words c = ⊥

-- the words are those of a line that asks for this, its options taken out
abbrev pub IsSplitInto : List (List ℕ) → Command → Type 0
IsSplitInto words c = (line : Line) × (split words ≡ Some line) × IsLineOf line c

-- the words ask for this: to be told of the program; or, where none of them asks for help, so does their line
abbrev pub Says : List (List ℕ) → Command → Type 0
Says words c = IsTold words c ⊎ ((¬ AsksHelp words) × IsSplitInto words c)

-- a world has at most 1,024 contracts, 1 to 64 workers run calls, and a worker tries a call at most 1 to 16 times
abbrev pub HasFew : Command → Type 0
HasFew Stored = Unit {0}
HasFew (Help words) = Unit {0}
HasFew Version = Unit {0}
HasFew (Asm text target json) = Unit {0}
HasFew (Text source target unchecked json) = Unit {0}
HasFew (Check target heap json) = Unit {0}
HasFew (Deploy task) = length task.modules.now ≤ 1024
HasFew (Mine task) = ((1 ≤ task.workers) × (task.workers ≤ 64)) × ((1 ≤ task.tries) × (task.tries ≤ 16))
HasFew (Validate task) = (1 ≤ task.workers) × (task.workers ≤ 64)
HasFew (Call task) = Unit {0}
HasFew (Debug task) = Unit {0}
HasFew (Show task) = Unit {0}
