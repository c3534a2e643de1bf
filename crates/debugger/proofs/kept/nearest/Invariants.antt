use Rattle.std.proofs.Common.{drop}
use Rattle.debugger.specs.Keeping.{IsEarlier}
use Rattle.debugger.proofs.Spacing.{AreRest}
use Rattle.debugger.proofs.kept.nearest.Given as goal

abbrev pub invariant-loop-cursor : goal.invariant-loop-cursor
invariant-loop-cursor g l = record { earlier : IsEarlier l.here l.turns l.best; rest : AreRest l.first l.best l.others (drop l.cursor-index l.others) }
