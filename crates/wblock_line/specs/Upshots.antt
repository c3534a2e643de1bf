-- What a command comes to that is refused, told in the form that is asked for.
use Rattle.std.specs.Prelude.{◌≡◌, ℕ, Bool, true, false, List, [], None, refl}
use Rattle.wblock_json.specs.Json.{IsJson, IsLineOf}
use Rattle.wblock_json.specs.Refusals.{refusal_data}
use Rattle.wblock_line.specs.declared.answer.Answer.{Answer}
use Rattle.wblock_line.specs.declared.answer.Answer.TheVariants.{Done, Refused}
use Rattle.wblock_line.specs.Answers.{Upshot, IsRefusal, upshot_of}
use Rattle.wblock_line.specs.Forms.{IsRefusalIn}

-- this tells the refusal of a line: the line, or the object of it and of the sentence
abbrev pub IsToldIn : (json : Bool) → (line sentence text : List ℕ) → Type 0
IsToldIn false line sentence text = text ≡ line
IsToldIn true line sentence text = IsLineOf (IsJson (refusal_data None line sentence)) text

-- it is the refusal of this line
abbrev pub IsRefusalWith : (json : Bool) → (line : List ℕ) → Upshot → Type 0
IsRefusalWith json line u = IsRefusal u (IsToldIn json line u.why)

-- an answer that is the refusal of a line comes to it
pub of_answer : (json : Bool) (line : List ℕ) (a : Answer) → IsRefusalIn json line a → IsRefusalWith json line (upshot_of a)
of_answer json line (Done writes text) told = absurd told
of_answer false line (Refused text why) told = record { status_is = refl; writes = refl; line = told }
of_answer true line (Refused text why) told = record { status_is = refl; writes = refl; line = told }
