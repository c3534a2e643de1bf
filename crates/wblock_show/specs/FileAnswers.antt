-- What `show` answers of a file of any kind.
use Rattle.std.specs.Prelude.{◌≡◌, ◌⊎◌, ℕ, List, Option, Some, None}
use Rattle.wblock_io.specs.Holding.{Holding}
use Rattle.wblock_line.specs.declared.answer.Answer.{Answer}
use Rattle.wblock_contents.specs.declared.show.Contents.{Contents}
use Rattle.wblock_contents.specs.declared.show.Contents.TheVariants.{Told, Block}
use Rattle.wblock_contents.specs.Shows as listing
use Rattle.wblock_show.specs.declared.file.Form.{Form}
use Rattle.wblock_show.specs.declared.file.Form.TheVariants.{Text, Json, Picture}
use Rattle.wblock_show.specs.declared.file.Showing.{Showing}
use Rattle.wblock_show.specs.Draws.{DrawsFile}
use Rattle.wblock_show.specs.Json.{TellsJson}
use Rattle.wblock_show.specs.Shows.{Shows, ShowsBlock, IsNextFile}

-- a block is shown without its calls
abbrev pub IsAnswerTo : Contents → Answer → Type 0
IsAnswerTo (Told told) a = a ≡ told
IsAnswerTo (Block bytes) a = Shows bytes.items None a

-- no calls are named, and what is in the file is shown
pub record ShowsContents (holds : Holding) (task : Showing) (a : Answer) : Type 0 where
  pub alone : task.calls ≡ None
  pub contents : Contents
  pub of_file : listing.Shows task.signed holds task.file.now contents
  pub answer : IsAnswerTo contents a

-- the block is shown with its calls, where they are named, or else what is in the file, whatever its kind
abbrev pub ShowsLines : Holding → Showing → Answer → Type 0
ShowsLines holds task a = ShowsContents holds task a ⊎ ShowsBlock holds task a

-- the lines are printed, or the same as JSON; or the picture is written
abbrev pub ShowsIn : Form → Holding → Showing → Answer → Type 0
ShowsIn Text holds task a = ShowsLines holds task a
ShowsIn Json holds task a = TellsJson holds task a
ShowsIn (Picture picture) holds task a = DrawsFile holds task.file.now picture.now a

abbrev pub ShowsNamed : Holding → Showing → Answer → Type 0
ShowsNamed holds task a = ShowsIn task.form holds task a

-- the file of calls is read first, if one is named and no picture is asked for, and then the file that is shown
abbrev pub IsNextIn : Form → Holding → Showing → List ℕ → Type 0
IsNextIn Text holds task name = IsNextFile holds task name
IsNextIn Json holds task name = IsNextFile holds task name
IsNextIn (Picture picture) holds task name = name ≡ task.file.now

abbrev pub IsNextNamed : Holding → Showing → List ℕ → Type 0
IsNextNamed holds task name = IsNextIn task.form holds task name
