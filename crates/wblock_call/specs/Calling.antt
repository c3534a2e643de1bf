-- What the words of a line ask to call, and what `call` answers.
use Rattle.std.specs.Prelude.{◌≡◌, ℕ, ◌⊎◌, Bool, true, false, List, [], ◌∷◌, None, codes, filter}
use Rattle.std.specs.FinMap.{get}
use Rattle.spec_ledger.specs.declared.Version.TheVariants.{Two}
use Rattle.spec_ledger.specs.declared.Lock.{Lock}
use Rattle.spec_ledger.specs.Cells.{Cells}
use Rattle.spec_execution.specs.Serial.{CallResult}
use Rattle.spec_block.specs.Worlds.{World, Call}
use Rattle.spec_block.specs.Serial.{Executed}
use Rattle.wblock_calls.specs.Texts.{AreCall}
use Rattle.wblock_json.specs.Json.{IsJson, IsLineOf}
use Rattle.wblock_io.specs.Holding.{Holding}
use Rattle.wblock_line.specs.declared.perform.Status.TheVariants as status
use Rattle.wblock_line.specs.Answers.{Upshot}
use Rattle.wblock_line.specs.Inputs.{Holds, HoldsWorld}
use Rattle.wblock_line.specs.Upshots.{IsRefusalWith}
use Rattle.wblock_line.specs.Words.{Line}
use Rattle.wblock_line.specs.Worlds.{TellsNoWorld}
use Rattle.wblock_call.specs.Effects.{effects_text}
use Rattle.wblock_call.specs.EffectsJson.{effects_data}
use Rattle.wblock_call.specs.Styles.{AsksStyle, is_other}
use Rattle.wblock_call.specs.declared.called.Calling.{Calling}
use Rattle.wblock_call.specs.declared.style.Style.{Style}

-- ---- words

-- the words are `call`, WORLD and these
abbrev pub IsCallOf : (words : List (List ℕ)) (world : List ℕ) (spelling : List (List ℕ)) → Type 0
IsCallOf words world spelling = words ≡ codes "call" ∷ world ∷ spelling

-- `call WORLD CONTRACT FUEL ENTRY ARG... [--json] [--signed]`, behind WORLD the words of a line of calls
pub record AsksCall (line : Line) (c : Calling) : Type 0 where
  -- the words of the call
  pub spelling : List (List ℕ)
  pub words : IsCallOf line.words c.world.now spelling
  pub spelled : AreCall spelling c.call
  pub style : AsksStyle line.options c.style
  pub only : filter is_other line.options ≡ []

-- ---- answers

-- the lines of what a call came to, or the line of its JSON, keys and numbers of cells signed or not
abbrev pub TellsEffects : (json signed : Bool) → CallResult → (before later : Cells) → List ℕ → Type 0
TellsEffects false signed ran before later text = text ≡ effects_text signed ran before later
TellsEffects true signed ran before later text = IsLineOf (IsJson (effects_data signed ran before later)) text

-- a text of which this is true is printed, and no file is written
pub record Prints (Is : List ℕ → Type 0) (u : Upshot) : Type 0 where
  pub status_is : u.status ≡ status.Done
  pub writes : u.writes ≡ []
  pub text_is : Is u.text

-- The call is executed over the world's cells by the rules of version 2, and the text tells its receipt, its locks and the cells at them that it changes.
pub record TellsExecution (style : Style) (world : World) (call : Call) (u : Upshot) : Type 0 where
  pub ran : CallResult
  pub later : Cells
  pub executed : Executed Two world call world.cells ran later
  pub told : Prints (TellsEffects style.json style.signed ran world.cells later) u
  -- a cell at another lock is not changed
  pub others : (lock : Lock) → get ran.touched lock ≡ None → get later lock ≡ get world.cells lock

-- the file holds a world, and what the call comes to over it is told
pub record IsOfWorld (holds : Holding) (task : Calling) (u : Upshot) : Type 0 where
  pub world : World
  pub held : HoldsWorld holds task.world.now world
  pub tells : TellsExecution task.style world task.call u

-- it is told why the file holds no world
pub record IsRefused (holds : Holding) (task : Calling) (u : Upshot) : Type 0 where
  pub line : List ℕ
  pub why : Holds holds task.world.now (λ bytes. TellsNoWorld bytes line)
  pub told : IsRefusalWith task.style.json line u

abbrev pub Calls : Holding → Calling → Upshot → Type 0
Calls holds task u = IsRefused holds task u ⊎ IsOfWorld holds task u
