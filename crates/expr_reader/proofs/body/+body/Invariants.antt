use Rattle.std.proofs.Common.{◌≡◌, ℕ, ◌+◌, ◌-◌, ◌*◌, ◌≤◌, length}
use Rattle.laws_modules.specs.ReadingExpressions.{one_at, body_at, seq_at}
use Rattle.module_tree.specs.View.{ordinals}
use Rattle.module_tree.specs.Numbering.{Numbered}
use Rattle.expr_reader.proofs.Turns.{front}
use Rattle.expr_reader.proofs.body.+body.Given as goal

abbrev pub decreases-body_of : goal.decreases-body_of
decreases-body_of g l = 2 * l.depth

abbrev pub decreases-instr_of : goal.decreases-instr_of
decreases-instr_of g l = 2 * l.depth + 1

abbrev pub invariant-body_of-loop-first : goal.invariant-body_of-loop-first
invariant-body_of-loop-first g l =
    (n : ℕ) × (length l.rest ≤ n) × (length l.rest ≤ length l.bytes)
    × (body_at l.depth l.bytes ≡ front l.found.items (seq_at (one_at (l.depth - 1)) n l.rest))
    × Numbered l.ordinal l.next (ordinals l.found.items) × (l.next + length l.rest ≤ l.ordinal + length l.bytes)

abbrev pub decreases-body_of-loop-first : goal.decreases-body_of-loop-first
decreases-body_of-loop-first g l = length l.rest
