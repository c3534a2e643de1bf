use Rattle.std.proofs.Common.{◌≡◌, ◌≤◌, ◌-◌, length, map, drop}
use Rattle.wblock_line.specs.Words.{split, line_of, with_front}
use Rattle.wblock_line.proofs.words.split_words.Given as goal

abbrev pub invariant-loop-at : goal.invariant-loop-at
invariant-loop-at l =
    (l.at ≤ length l.words) ×
    (with_front (line_of l.line).words (line_of l.line).options (split (map (λ w. w.now) (drop l.at l.words))) ≡ split (map (λ w. w.now) l.words))

abbrev pub decreases-loop-at : goal.decreases-loop-at
decreases-loop-at l = length l.words - l.at
