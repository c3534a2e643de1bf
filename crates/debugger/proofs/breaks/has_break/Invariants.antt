use Rattle.std.proofs.Common.{◌≡◌, drop}
use Rattle.debugger.specs.Breaks.{is_set}
use Rattle.debugger.proofs.breaks.has_break.Given as goal

abbrev pub invariant-loop-set : goal.invariant-loop-set
invariant-loop-set l = is_set (drop l.set-index l.breaks) l.place ≡ is_set l.breaks l.place
