-- A line that has no newline is its own front.
use Rattle.std.proofs.Common.{◌≡◌, ℕ, List, length, arith}
use Rattle.std.proofs.lemmas.List.{take_all}
use Rattle.std.specs.List.{before_first, position_or_len}
use Rattle.wblock_json.specs.Refusals.{is_newline}

pub all_before : (line : List ℕ) → position_or_len is_newline line ≡ length line → before_first is_newline line ≡ line
all_before line none = take_all (position_or_len is_newline line) line (omega (arith, none))
