-- The lines of a block.
use Rattle.std.specs.Prelude.{ℕ, ◌+◌, List, [], ◌∷◌, ◌++◌, codes, decimal}
use Rattle.hex.specs.Hex.{encode_lower}
use Rattle.spec_block.specs.Worlds.{Position, Block}
use Rattle.wblock_calls.specs.Receipts.{position_text}

-- `POS call C RECEIPT`, a line for each position, the first of them n
abbrev pub position_lines : ℕ → List Position → List ℕ
position_lines n [] = []
position_lines n (p ∷ ps) = (position_text n p.call p.receipt ++ 10 ∷ []) ++ position_lines (n + 1) ps

-- `left C`, a line for each call
abbrev pub left_lines : List ℕ → List ℕ
left_lines [] = []
left_lines (c ∷ cs) = (codes "left " ++ decimal c ++ 10 ∷ []) ++ left_lines cs

-- `fuel N`
abbrev pub fuel_line : ℕ → List ℕ
fuel_line fuel = codes "fuel " ++ decimal fuel ++ 10 ∷ []

-- a name and a digest in hexadecimal
abbrev pub digest_line : List ℕ → List ℕ → List ℕ
digest_line name digest = name ++ codes " " ++ encode_lower digest ++ 10 ∷ []

-- `fuel N`, `before HEX` and `after HEX`, a line each
abbrev pub end_lines : Block → List ℕ
end_lines b = fuel_line b.fuel ++ digest_line (codes "before") b.before ++ digest_line (codes "after") b.after

abbrev pub block_text : Block → List ℕ → List ℕ
block_text b left = position_lines 0 b.positions ++ left_lines left ++ end_lines b
