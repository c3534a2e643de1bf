use Rattle.std.proofs.Common.{◌≡◌}
use Rattle.typing_errors.proofs.locate.+spot.Given as goal

abbrev pub invariant-spot_in-loop-i : goal.invariant-spot_in-loop-i
invariant-spot_in-loop-i g l = (l.place ≡ l.i-index) × (l.labels.items ≡ l.fn.labels.items)
