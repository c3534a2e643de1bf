-- The text of calls: a line `CONTRACT FUEL ENTRY ARG...` for each call, single spaces, each line ended by a newline. Numbers are decimal with no needless zero.
use Rattle.std.specs.Prelude.{◌≡◌, ◌≢◌, ℕ, ◌+◌, ◌^◌, ◌<◌, ◌≤◌, List, [], ◌∷◌, ◌++◌, codes, decimal, length, FitsSigned, IsUtf8, map, ◌⊎◌, ◌==◌}
use Rattle.std.specs.List.{slice_split, All, AllByRecursion, AllZip}
use Rattle.std.specs.Int.{w32, w64}
use Rattle.std.specs.Fmt.{signed_decimal}
use Rattle.wtypes.specs.declared.Value.{Value}
use Rattle.wtypes.specs.declared.Value.TheVariants.{I32, I64}
use Rattle.spec_execution.specs.Run.{ContractCall}

-- a value: `i32:N` or `i64:N`
abbrev pub value_text : Value → List ℕ
value_text (I32 n) = codes "i32:" ++ signed_decimal n
value_text (I64 n) = codes "i64:" ++ signed_decimal n

-- the value is within its signed range
abbrev pub IsInRange : Value → Type 0
IsInRange (I32 n) = FitsSigned w32 n
IsInRange (I64 n) = FitsSigned w64 n

-- these words are the texts of these values
pub record AreValues (words : List (List ℕ)) (values : List Value) : Type 0 where
  pub texts : words ≡ map value_text values
  pub in_range : AllByRecursion IsInRange values

-- the byte is no control character: none of those below the space, and not DEL
abbrev pub IsPlain : ℕ → Type 0
IsPlain b = (32 ≤ b) × (b ≢ 127)

-- these words are `CONTRACT`, `FUEL`, `ENTRY` and each `ARG` of the call
pub record AreCall (words : List (List ℕ)) (c : ContractCall) : Type 0 where
  pub args : List (List ℕ)
  pub texts : words ≡ decimal c.contract ∷ decimal c.fuel ∷ c.entry ∷ args
  pub values : AreValues args c.args
  pub contract : c.contract < 2 ^ 32
  pub fuel : c.fuel < 2 ^ 64
  pub named : c.entry ≢ []
  pub plain : All IsPlain c.entry
  pub short : length c.entry ≤ 65535
  pub few : length c.args ≤ 1024

-- what stands between the spaces of a line
abbrev pub words_of : List ℕ → List (List ℕ)
words_of line = slice_split (λ b. b == 32) line

-- a line, without its newline, spells a call
pub record IsLineOf (line : List ℕ) (c : ContractCall) : Type 0 where
  pub text : IsUtf8 line
  pub words : AreCall (words_of line) c

-- what stands between the newlines of a text; the last is what stands after the last of them, and is empty where each line is ended
abbrev pub lines_of : List ℕ → List (List ℕ)
lines_of text = slice_split (λ b. b == 10) text

-- the text spells the calls: a line for each, each ended by a newline
pub record SpellsCalls (text : List ℕ) (calls : List ContractCall) : Type 0 where
  pub lines : List (List ℕ)
  pub ended : lines_of text ≡ lines ++ [] ∷ []
  pub each : AllZip IsLineOf lines calls

-- the first line that spells no call or is not ended, counted from 1
pub record IsFirstBad (text : List ℕ) (line : ℕ) : Type 0 where
  pub before : List (List ℕ)
  pub calls : List ContractCall
  pub bad : List ℕ
  pub rest : List (List ℕ)
  pub split : lines_of text ≡ before ++ bad ∷ rest
  pub spelled : AllZip IsLineOf before calls
  pub count : line ≡ length before + 1
  pub fault : ((rest ≢ []) × ((c : ContractCall) → ¬ IsLineOf bad c)) ⊎ ((rest ≡ []) × (bad ≢ []))
