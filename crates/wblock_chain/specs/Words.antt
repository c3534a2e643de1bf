-- What the words of a session's line ask for.
use Rattle.std.specs.Prelude.{◌≡◌, ◌≢◌, ℕ, ◌≤◌, List, [], ◌∷◌, ◌++◌, Bool, true, false, ◌&&◌, ◌||◌, Some, IsUtf8, codes, length, if◌then◌else◌}
use Rattle.std.specs.Str.{bytes_eq}
use Rattle.wblock_calls.specs.Texts.{words_of}
use Rattle.wblock_calls.specs.Words.{texts}
use Rattle.wblock_line.specs.Words.{Line, Choice, split}
use Rattle.wblock_modules.specs.Deploys.{IsOld}
use Rattle.wblock_commands.specs.Words.{HasFew, IsApart, IsLineOf}
use Rattle.wblock_commands.specs.declared.command.Command.{Command}
use Rattle.wblock_commands.specs.declared.command.Command.TheVariants.{Deploy, Mine, Validate, Call}
use Rattle.wblock_chain.specs.declared.asked.SessionCommand.{SessionCommand}
use Rattle.wblock_chain.specs.declared.asked.SessionCommand.TheVariants.{Single, Save, Digest, Quit}

-- `chain WORLD`, and no options
pub record IsChain (line : Line) (world : List ℕ) : Type 0 where
  pub words_are : line.words ≡ codes "chain" ∷ world ∷ []
  pub options : line.options ≡ []

-- the words are those of such a line
pub record AsksChain (words : List (List ℕ)) (world : List ℕ) : Type 0 where
  pub line : Line
  pub is_split : split words ≡ Some line
  pub is : IsChain line world

-- ---- `-` as CALLS and BLOCK

-- the name of the file of calls that stand behind a line, and of a block whose bytes are told; no word is one of them, since words have no spaces
abbrev pub calls_here : List ℕ
calls_here = codes "calls -"

abbrev pub told_block : List ℕ
told_block = codes "block -"

-- `-` by the name of its file
abbrev pub named_as : (name word : List ℕ) → List ℕ
named_as name word = if bytes_eq word (codes "-") then name else word

-- the words behind `mine`, CALLS and BLOCK by the names of their files
abbrev pub named_both : List (List ℕ) → List (List ℕ)
named_both [] = []
named_both (calls ∷ []) = named_as calls_here calls ∷ []
named_both (calls ∷ block ∷ others) = named_as calls_here calls ∷ named_as told_block block ∷ others

-- the words behind `validate`, CALLS by the name of its file
abbrev pub named_calls : List (List ℕ) → List (List ℕ)
named_calls [] = []
named_calls (calls ∷ others) = named_as calls_here calls ∷ others

-- the words behind the first
abbrev pub named_behind : (word : List ℕ) → List (List ℕ) → List (List ℕ)
named_behind word others =
    if bytes_eq word (codes "mine") then named_both others
    else if bytes_eq word (codes "validate") then named_calls others
    else others

-- CALLS `-` right behind `mine` or `validate`, and BLOCK `-` right behind the CALLS of `mine`, by the names of their files
abbrev pub named : List (List ℕ) → List (List ℕ)
named [] = []
named (word ∷ others) = word ∷ named_behind word others

-- ---- a session's line as a line of the program

-- of `mine` WORLD is NEXT, too
abbrev pub single_behind : (name word : List ℕ) → List (List ℕ) → List (List ℕ)
single_behind name word others = if bytes_eq word (codes "mine") then others ++ name ∷ [] else others

-- WORLD stands behind the command's word
abbrev pub single_words : (name : List ℕ) → List (List ℕ) → List (List ℕ)
single_words name [] = []
single_words name (word ∷ others) = word ∷ name ∷ single_behind name word others

-- of `validate` it is NEXT, and of `deploy` it is OLD
abbrev pub single_options : (name : List ℕ) → List (List ℕ) → List Choice → List Choice
single_options name [] options = options
single_options name (word ∷ others) options =
    if bytes_eq word (codes "validate") then options ++ (codes "--next", name) ∷ []
    else if bytes_eq word (codes "deploy") then options ++ (codes "--onto", name) ∷ []
    else options

-- the line of the program that a line of a session over the world of this name stands for
abbrev pub single_line : (name : List ℕ) → Line → Line
single_line name line = record { words = single_words name line.words; options = single_options name line.words line.options }

-- ---- what is asked for

-- a command that a session has; no word is `calls -`, so no block is of that name
abbrev pub IsOverWorld : Command → Type 0
IsOverWorld (Deploy task) = Unit {0}
IsOverWorld (Mine task) = task.block.now ≢ calls_here
IsOverWorld (Validate task) = task.block.now ≢ calls_here
IsOverWorld (Call task) = Unit {0}
IsOverWorld c = ⊥

-- the calls and the block are in files of other names than WORLD, and the block in none of calls that stand behind a line
pub record AreBeside (name calls block : List ℕ) : Type 0 where
  pub calls_are : calls ≢ name
  pub block_is : block ≢ name
  pub apart : block ≢ calls_here

-- it reads the file of this name as WORLD and no other one of it, and leaves its world to it
abbrev pub IsOver : (name : List ℕ) → Command → Type 0
IsOver name (Deploy task) = (task.world.now ≡ name) × IsOld task.onto name × IsApart name (texts task.modules.now)
IsOver name (Mine task) = (task.world.now ≡ name) × (task.next.now ≡ name) × AreBeside name task.calls.now task.block.now
IsOver name (Validate task) = (task.world.now ≡ name) × IsOld task.next name × AreBeside name task.calls.now task.block.now
IsOver name (Call task) = task.world.now ≡ name
IsOver name c = ⊥

-- `save FILE`, `digest` or `quit`
abbrev pub IsOwn : Line → SessionCommand → Type 0
IsOwn line (Single c) = ⊥
IsOwn line (Save file) = (line.words ≡ codes "save" ∷ file.now ∷ []) × (line.options ≡ [])
IsOwn line Digest = (line.words ≡ codes "digest" ∷ []) × (line.options ≡ [])
IsOwn line Quit = (line.words ≡ codes "quit" ∷ []) × (line.options ≡ [])

-- a single command over the world that is kept, or one of the session's own
abbrev pub IsAsked : (name : List ℕ) → Line → SessionCommand → Type 0
IsAsked name line (Single c) = IsLineOf (single_line name line) c × IsOverWorld c
IsAsked name line (Save file) = IsOwn line (Save file)
IsAsked name line Digest = IsOwn line Digest
IsAsked name line Quit = IsOwn line Quit

-- what a session may ask of a single command
abbrev pub IsFewAsked : SessionCommand → Type 0
IsFewAsked (Single c) = HasFew c
IsFewAsked (Save file) = Unit {0}
IsFewAsked Digest = Unit {0}
IsFewAsked Quit = Unit {0}

abbrev pub IsOverAsked : (name : List ℕ) → SessionCommand → Type 0
IsOverAsked name (Single c) = IsOver name c
IsOverAsked name (Save file) = Unit {0}
IsOverAsked name Digest = Unit {0}
IsOverAsked name Quit = Unit {0}

-- a line of a session asks for this; its words stand between single spaces, as in a line of calls
pub record Asks (name text : List ℕ) (c : SessionCommand) : Type 0 where
  pub utf8 : IsUtf8 text
  pub line : Line
  pub is_split : split (named (words_of text)) ≡ Some line
  pub asked : IsAsked name line c

-- the word of a command that has CALLS
abbrev pub has_calls : List ℕ → Bool
has_calls word = bytes_eq word (codes "mine") || bytes_eq word (codes "validate")

-- the words begin with `mine -` or `validate -`
abbrev pub takes_calls : List (List ℕ) → Bool
takes_calls [] = false
takes_calls (word ∷ []) = false
takes_calls (word ∷ calls ∷ others) = has_calls word && bytes_eq calls (codes "-")

-- the calls stand behind the line, whatever else is wrong with it
pub record AsksCalls (text : List ℕ) : Type 0 where
  pub utf8 : IsUtf8 text
  pub short : length text ≤ 1048576
  pub takes : takes_calls (words_of text) ≡ true
