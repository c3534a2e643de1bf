-- What a command prints, in the form that is asked for: a line, or a line with a JSON object.
use Rattle.std.specs.Prelude.{◌≡◌, ℕ, Bool, true, false, None, List, [], ◌∷◌, ◌++◌, codes, decimal}
use Rattle.wtypes.specs.declared.Value.{Value}
use Rattle.debugger.specs.SessionView.{SessionView}
use Rattle.debugger.specs.Commands.{code_of}
use Rattle.debugger.specs.declared.session.Refusal.{Refusal}
use Rattle.wblock_json.specs.Json.{IsJson, IsLineOf}
use Rattle.wblock_json.specs.Refusals.{refusal_data}
use Rattle.wblock_debug.specs.Lines.{cells_text, where_text, state_line, values_line, bytes_line, ok_line, refusal_line, start_line}
use Rattle.wblock_debug.specs.StatesJson.{bytes_data, cells_data, ok_data, state_data, values_data, where_data}

abbrev pub TellsState : (json : Bool) → SessionView → List ℕ → Type 0
TellsState false s line = line ≡ state_line s
TellsState true s line = IsLineOf (IsJson (state_data s)) line

abbrev pub TellsValues : (json : Bool) → (name : List ℕ) → List Value → List ℕ → Type 0
TellsValues false name values line = line ≡ values_line name values
TellsValues true name values line = IsLineOf (IsJson (values_data name values)) line

abbrev pub TellsCells : (json signed : Bool) → SessionView → List ℕ → Type 0
TellsCells false signed s text = text ≡ cells_text signed s
TellsCells true signed s text = IsLineOf (IsJson (cells_data signed s)) text

abbrev pub TellsWhere : (json : Bool) → SessionView → List ℕ → Type 0
TellsWhere false s text = text ≡ where_text s
TellsWhere true s text = IsLineOf (IsJson (where_data s)) text

abbrev pub TellsBytes : (json : Bool) → (bytes line : List ℕ) → Type 0
TellsBytes false bytes line = line ≡ bytes_line bytes
TellsBytes true bytes line = IsLineOf (IsJson (bytes_data bytes)) line

abbrev pub TellsOk : (json : Bool) → List ℕ → Type 0
TellsOk false line = line ≡ ok_line
TellsOk true line = IsLineOf (IsJson ok_data) line

-- of a command that is refused: as JSON the refusal of the line `refused command N`, with a sentence
abbrev pub TellsRefusal : (json : Bool) → Refusal → List ℕ → Type 0
TellsRefusal false r line = line ≡ refusal_line r
TellsRefusal true r line = (sentence : List ℕ) × IsLineOf (IsJson (refusal_data None (codes "refused command " ++ decimal (code_of r) ++ 10 ∷ []) sentence)) line

-- of a call that does not start: as JSON the refusal of its line, with a sentence
abbrev pub TellsStart : (json : Bool) → (code : ℕ) → List ℕ → Type 0
TellsStart false code line = line ≡ start_line code
TellsStart true code line = (sentence : List ℕ) × IsLineOf (IsJson (refusal_data None (start_line code) sentence)) line
