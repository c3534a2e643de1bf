use Rattle.std.proofs.Common.{◌≡◌, ◌-◌, ◌≤◌, length}
use Rattle.spec_modules.specs.Reading.{unsigned_at}
use Rattle.laws_modules.specs.ReadingExpressions.{items_at}
use Rattle.expr_reader.proofs.Steps.{front}
use Rattle.expr_reader.proofs.body.labels_of.Given as goal

abbrev pub invariant-loop-i : goal.invariant-loop-i
invariant-loop-i g l =
    (front l.found.items (items_at (unsigned_at 32) (l.count - l._i) l.rest) ≡ items_at (unsigned_at 32) l.count l.bytes) × (length l.rest ≤ length l.bytes)
