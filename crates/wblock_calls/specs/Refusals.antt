-- What a refusal of a text says.
use Rattle.std.specs.Prelude.{◌≡◌, ℕ, ◌<◌, List, [], ◌∷◌, ◌++◌, Option, Some, None, codes, decimal, length}
use Rattle.spec_execution.specs.Run.{ContractCall}
use Rattle.wblock_calls.specs.Sentences.{Begins}
use Rattle.wblock_calls.specs.Texts.{SpellsCalls, IsFirstBad}
use Rattle.wblock_calls.specs.declared.reader.CallsRefusal.{CallsRefusal}
use Rattle.wblock_calls.specs.declared.reader.CallsRefusal.TheVariants.{Line, TooMany, NoMemory}

-- each line spells a call, and they are more than 65,535
pub record SpellsTooMany (text : List ℕ) : Type 0 where
  pub calls : List ContractCall
  pub spelled : SpellsCalls text calls
  pub many : 65535 < length calls

abbrev pub Tells : List ℕ → CallsRefusal → Type 0
Tells text (Line n) = IsFirstBad text n
Tells text TooMany = SpellsTooMany text
Tells text NoMemory = Unit {0}

abbrev pub number_of : CallsRefusal → Option ℕ
number_of (Line n) = Some 1
number_of TooMany = Some 2
number_of NoMemory = None

-- `refused calls 1 LINE` or `refused calls 2`
abbrev pub IsCallsLine : CallsRefusal → List ℕ → Type 0
IsCallsLine (Line n) line = line ≡ codes "refused calls 1 " ++ decimal n ++ 10 ∷ []
IsCallsLine TooMany line = line ≡ codes "refused calls 2" ++ 10 ∷ []
IsCallsLine NoMemory line = ⊥

-- the sentence names the line that is at fault, or the first that is too many
abbrev pub TellsLine : CallsRefusal → List ℕ → Type 0
TellsLine (Line n) sentence = Begins (codes "calls, line " ++ decimal n) sentence
TellsLine TooMany sentence = Begins (codes "calls, line " ++ decimal 65536) sentence
TellsLine NoMemory sentence = ⊥
