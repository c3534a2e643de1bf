use Rattle.std.proofs.Common.{arith}
use Rattle.spec_ledger.specs.declared.Kind.TheVariants.{Map, Counter}
use Rattle.world.specs.Views.{is_cell_of}
use Rattle.world.proofs.CellCounts.{count_fits}
use Rattle.world.proofs.write.counts_of.Goals as goal

pub overflow_add-maps : goal.overflow_add-maps
overflow_add-maps g c = let i = c.loop-lock.invariant in let fits = count_fits (is_cell_of Map) c.loop-lock.yielded c.loop-lock.lock-iterator _ c.loop-lock.maps i.4 i.2 i.3 in omega (arith, fits)

pub overflow_add-counters : goal.overflow_add-counters
overflow_add-counters g c = let i = c.loop-lock.invariant in let fits = count_fits (is_cell_of Counter) c.loop-lock.yielded c.loop-lock.lock-iterator _ c.loop-lock.counters i.5 i.2 i.3 in omega (arith, fits)
