-- What one line gets, as the code has it.
use Rattle.std.specs.Prelude.{◌≡◌, ◌↔◌, Bool, ℕ, ◌<◌, ◌⊎◌, List, [], ◌∷◌, ◌++◌, false, true, Option, Some, None, IfSome, IsUtf8, length, map, option_map, string_bytes}
use Rattle.std.specs.Borrow.{Bor}
use Rattle.spec_block.specs.Worlds.{Contract, World}
use Rattle.spec_block.specs.Bytes.{world_bytes}
use Rattle.world.specs.Views.{world_view}
use Rattle.wblock_calls.specs.Texts.{words_of}
use Rattle.wblock_io.specs.Holding.{Holding, Changes}
use Rattle.wblock_line.specs.Answers.{EndsLine, Written, Wrote, file_line, sentence_line, write_of}
use Rattle.wblock_line.specs.Words.{Line, split}
use Rattle.wblock_line.specs.declared.transition.Change.{Change}
use Rattle.wblock_line.specs.declared.transition.NextWorld.{NextWorld}
use Rattle.wblock_line.specs.declared.transition.Transition.{Transition}
use Rattle.wblock_line.specs.declared.transition.Transition.TheVariants as transition
use Rattle.wblock_line.specs.declared.perform.Status.{Status}
use Rattle.wblock_line.specs.declared.perform.Status.TheVariants as status
use Rattle.wblock_chain.specs.Replies.{block_line, reply, saved_line}
use Rattle.wblock_chain.specs.Requests.{AreShort}
use Rattle.wblock_chain.specs.Sessions.{Exchange, Session, DoesLine, FailsLine, IsQuit, IsUsage, reply_in, text_of_calls}
use Rattle.wblock_modules.specs.Deploys.{extended, IsDeployedText}
use Rattle.wblock_chain.specs.Words.{Asks, named, told_block}
use Rattle.wblock_chain.specs.declared.asked.SessionCommand.{SessionCommand}
use Rattle.wblock_chain.specs.declared.request.Request.{Request}
use Rattle.wblock_chain.specs.declared.request.Request.TheVariants.{Text, TooLong, NotUtf8}
use Rattle.wblock_chain.specs.declared.session.Answered.{Answered}

-- the answer has these parts, and the session goes on with this world
pub record MovesOn (world : World) (text said : List ℕ) (s : Status) (a : Answered) : Type 0 where
  pub world_is : world_view a.world ≡ world
  pub reply_is : a.reply.items ≡ reply text said s
  pub goes_on : a.quits ≡ false

-- a file failed, and the world stays
pub record IsFileReply (world : World) (file : List ℕ) (a : Answered) : Type 0 where
  pub why : List ℕ
  pub moves : MovesOn world [] (file_line file ++ sentence_line why) status.File a

-- the line asks for nothing, of which something is said, and the world stays
pub record IsUsageReply (world : World) (a : Answered) : Type 0 where
  pub said : List ℕ
  pub ends_line : EndsLine said
  pub moves : MovesOn world [] said status.Usage a

-- ---- what is done

-- the one write is of a block that is told
pub record IsTold (writes : List Written) : Type 0 where
  pub bytes : List ℕ
  pub are : writes ≡ (told_block, bytes) ∷ []

-- the one write is of a block that is told, and no file is to be written; or all of the writes are of files
abbrev pub AreApart : (writes : List Written) → (block : Option (List ℕ)) → (files : List Written) → Type 0
AreApart writes (Some block) files = (writes ≡ (told_block, block) ∷ []) × (files ≡ [])
AreApart writes None files = (writes ≡ files) × ¬ IsTold writes

-- the world that is left, or else this one
abbrev pub world_left : Option NextWorld → World → World
world_left None world = world
world_left (Some next) world = world_view next.world

-- the files were written, and the session goes on with the world that is left
pub record IsCarriedOut (c : Change) (old new : Holding) (world : World) (a : Answered) : Type 0 where
  pub block : Option (List ℕ)
  pub files : List Written
  pub apart : AreApart (map write_of c.writes.items) block files
  pub wrote : Wrote files old new
  pub moves : MovesOn (world_left c.next world) (string_bytes c.text ++ block_line block) (string_bytes c.note) status.Done a

-- a file that was to be written failed, and all is as it was
pub record IsUndone (c : Change) (old new : Holding) (world : World) (a : Answered) : Type 0 where
  pub file : List ℕ
  pub bytes : List ℕ
  pub others : List Written
  pub writes : map write_of c.writes.items ≡ (file, bytes) ∷ others
  pub same : new ≡ old
  pub reply : IsFileReply world file a

abbrev pub Settles : Change → (old new : Holding) → World → Answered → Type 0
Settles c old new world a = IsCarriedOut c old new world a ⊎ IsUndone c old new world a

-- the same, or the line is refused, and all is as it was
abbrev pub SettlesTransition : Transition → (old new : Holding) → World → Answered → Type 0
SettlesTransition (transition.Done change) old new world a = Settles change old new world a
SettlesTransition (transition.Refused line why) old new world a = (new ≡ old) × MovesOn world (string_bytes line) (string_bytes why ++ 10 ∷ []) status.Refused a

-- the session goes on with a world of the bytes of the one that has these contracts behind its own; of a single command's world, too, its bytes alone are said
pub record IsExtended (json : Bool) (base : World) (contracts : List Contract) (a : Answered) : Type 0 where
  pub name : Bor (List ℕ)
  pub text : List ℕ
  pub text_is : IsDeployedText json (length contracts) (Some name) (length base.contracts) text
  pub next : World
  pub bytes_are : world_bytes next ≡ world_bytes (extended base contracts)
  pub moves : MovesOn next text [] status.Done a

-- the world was saved, or the file failed
pub record IsSaved (file : List ℕ) (old new : Holding) (world : World) (a : Answered) : Type 0 where
  pub changes : Changes old new file (world_bytes world)
  pub moves : MovesOn world (saved_line (length (world_bytes world))) [] status.Done a

pub record IsNotSaved (file : List ℕ) (old new : Holding) (world : World) (a : Answered) : Type 0 where
  pub same : new ≡ old
  pub reply : IsFileReply world file a

-- the session ends with this world
pub record Quits (world : World) (a : Answered) : Type 0 where
  pub world_is : world_view a.world ≡ world
  pub reply_is : a.reply.items ≡ reply [] [] status.Done
  pub ends : a.quits ≡ true

-- ---- what a line gets

abbrev pub session_after : Holding → Answered → Session
session_after files a = record { files = files; world = world_view a.world }

-- a line, with the lines of calls behind it, got this answer in a session over these files and this world
pub record Gets (name line : List ℕ) (calls : Option (List (List ℕ))) (old new : Holding) (world : World) (a : Answered) : Type 0 where
  pub exchange : Exchange
  pub line_is : exchange.line ≡ line
  pub calls_are : exchange.calls ≡ calls
  pub said : (exchange.said ≡ []) ⊎ EndsLine exchange.said
  pub reply_is : a.reply.items ≡ reply_in exchange
  pub answer :
      IsUsage name exchange (record { files = old; world = world }) (session_after new a)
      ⊎ (FailsLine name exchange (record { files = old; world = world }) (session_after new a) ⊎ DoesLine name exchange (record { files = old; world = world }) (session_after new a))
  pub quits : (a.quits ≡ true) ↔ IsQuit name exchange

-- whatever line asks for the command, with these calls behind it
abbrev pub AnswersAsked : (name : List ℕ) → SessionCommand → (behind : Option (List ℕ)) → (old new : Holding) → World → Answered → Type 0
AnswersAsked name c behind old new world a = (line : List ℕ) (calls : Option (List (List ℕ))) → text_of_calls calls ≡ behind → Asks name line c → Gets name line calls old new world a

abbrev pub AnswersText : (name text : List ℕ) → (behind : Option (List ℕ)) → (old new : Holding) → World → Answered → Type 0
AnswersText name text behind old new world a = (calls : Option (List (List ℕ))) → text_of_calls calls ≡ behind → Gets name text calls old new world a

-- whatever text is this line
abbrev pub AnswersLine : (name : List ℕ) → Line → (behind : Option (List ℕ)) → (old new : Holding) → World → Answered → Type 0
AnswersLine name line behind old new world a = (text : List ℕ) → IsUtf8 text → split (named (words_of text)) ≡ Some line → AnswersText name text behind old new world a

-- whatever text has these words
abbrev pub AnswersWords : (name : List ℕ) (words : List (List ℕ)) → (behind : Option (List ℕ)) → (old new : Holding) → World → Answered → Type 0
AnswersWords name words behind old new world a = (text : List ℕ) → IsUtf8 text → named (words_of text) ≡ words → AnswersText name text behind old new world a

abbrev pub AnswersRequest : (name : List ℕ) → Request → (old new : Holding) → World → Answered → Type 0
AnswersRequest name (Text line behind) old new world a = AnswersText name (string_bytes line) (option_map (λ text. text.items) behind) old new world a
AnswersRequest name TooLong old new world a = (line : List ℕ) (calls : Option (List (List ℕ))) → (1048576 < length line) ⊎ ¬ IfSome calls AreShort → Gets name line calls old new world a
AnswersRequest name NotUtf8 old new world a = (line : List ℕ) → ¬ IsUtf8 line → Gets name line None old new world a
