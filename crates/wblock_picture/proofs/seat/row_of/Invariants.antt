use Rattle.std.proofs.Common.{◌≡◌, ◌+◌, ◌≤◌, ◌==◌, drop, count_by}
use Rattle.wblock_picture.proofs.seat.row_of.Given as goal

abbrev pub invariant-loop-one : goal.invariant-loop-one
invariant-loop-one l = (l.row ≤ l.one-index) × (l.row + count_by (λ w. w == l.wave) (drop l.one-index l.earlier) ≡ count_by (λ w. w == l.wave) l.earlier)
