-- What a session answers to a line.
use Rattle.std.specs.Prelude.{ℕ, List, [], ◌∷◌, ◌++◌, Bool, true, false, ◌==◌, Option, Some, None, codes, decimal}
use Rattle.hex.specs.Hex.{encode_lower}
use Rattle.wblock_line.specs.declared.perform.Status.{Status}
use Rattle.wblock_line.specs.declared.perform.Status.TheVariants as status

-- the digit of a status
abbrev pub digit_of : Status → List ℕ
digit_of status.Done = codes "0"
digit_of status.Refused = codes "1"
digit_of status.Usage = codes "2"
digit_of status.File = codes "3"
digit_of status.Memory = codes "4"

-- `# ` at the start of a line
abbrev pub mark : (start : Bool) → List ℕ
mark true = 35 ∷ 32 ∷ []
mark false = []

-- each line of a text behind `# `; this is the start of one or not
abbrev pub marked : (start : Bool) → List ℕ → List ℕ
marked start [] = []
marked start (c ∷ cs) = mark start ++ c ∷ marked (c == 10) cs

-- `status N`, which ends each answer
abbrev pub status_line : Status → List ℕ
status_line s = codes "status " ++ digit_of s ++ 10 ∷ []

-- what the command prints, then what it says on standard error, then its status
abbrev pub reply : (text said : List ℕ) → Status → List ℕ
reply text said s = text ++ marked true said ++ status_line s

-- `block HEX`, where the bytes of a block are told
abbrev pub block_line : Option (List ℕ) → List ℕ
block_line None = []
block_line (Some bytes) = codes "block " ++ encode_lower bytes ++ 10 ∷ []

-- `digest HEX`
abbrev pub digest_line : List ℕ → List ℕ
digest_line digest = codes "digest " ++ encode_lower digest ++ 10 ∷ []

-- `saved N bytes`
abbrev pub saved_line : ℕ → List ℕ
saved_line count = codes "saved " ++ decimal count ++ codes " bytes" ++ 10 ∷ []
