-- What is said of a block that is rejected.
use Rattle.std.specs.Prelude.{◌≡◌, ℕ, Bool, true, false, List, [], ◌∷◌, ◌++◌, Option, Some, None, codes, decimal, string_bytes}
use Rattle.spec_block.specs.Verdicts.{Verdict, place}
use Rattle.block_judge.specs.Judging.{place_in}
use Rattle.serde_json.specs.Data.{Data, null, string}
use Rattle.wblock_json.specs.Json.{IsJson, IsLineOf, maybe, object_of, small}
use Rattle.wblock_line.specs.Answers.{Upshot, IsRefusal}
use Rattle.wblock_line.specs.declared.answer.Answer.{Answer}
use Rattle.wblock_line.specs.declared.answer.Answer.TheVariants.{Done, Refused}

-- the position or the call that the reason speaks of, behind a space
abbrev pub place_text : Option ℕ → List ℕ
place_text (Some p) = codes " " ++ decimal p
place_text None = []

-- `reject N`, with ` P` where the reason has a position or call
abbrev pub reject_line : Verdict → List ℕ
reject_line v = codes "reject " ++ decimal (place v) ++ place_text (place_in v) ++ 10 ∷ []

-- the same as JSON, with the sentence; the members are those of every verdict
unfoldable pub reject_data : Verdict → (sentence : List ℕ) → Data
reject_data v sentence =
    object_of
    ((codes "verdict", string (codes "reject"))
    ∷ (codes "reason", small (place v))
    ∷ (codes "place", maybe small (place_in v))
    ∷ (codes "sentence", string sentence)
    ∷ (codes "after", null)
    ∷ [])

-- this tells why the block is rejected: the line, or the object of it and of the sentence
abbrev pub IsRejectText : (json : Bool) → Verdict → (sentence text : List ℕ) → Type 0
IsRejectText false v sentence text = text ≡ reject_line v
IsRejectText true v sentence text = IsLineOf (IsJson (reject_data v sentence)) text

-- it is refused, and told by its line or as JSON why the block is rejected
abbrev pub IsRejection : (json : Bool) → Verdict → Upshot → Type 0
IsRejection json v u = IsRefusal u (IsRejectText json v u.why)

-- the answer tells, by its line or as JSON, why the block is rejected, and no file is to be written
abbrev pub Rejects : (json : Bool) → Verdict → Answer → Type 0
Rejects json v (Done writes text) = ⊥
Rejects json v (Refused line why) = IsRejectText json v (string_bytes why) (string_bytes line)
