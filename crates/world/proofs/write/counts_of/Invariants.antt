use Rattle.std.proofs.Common.{◌≡◌, ◌++◌, ◌<◌, ◌^◌, length}
use Rattle.std.specs.List.{filter}
use Rattle.spec_ledger.specs.declared.Kind.TheVariants.{Map, Counter}
use Rattle.world.specs.Views.{is_cell_of}
use Rattle.world.proofs.write.counts_of.Given as goal

abbrev pub invariant-loop-lock : goal.invariant-loop-lock
invariant-loop-lock g l =
    (goal.iterator-loop-lock g).can_next l.lock-iterator ×
    (goal.iterator-loop-lock g).is_finite l.lock-iterator ×
    (l.yielded ++ l.lock-iterator ≡ l.initial.lock-iterator) ×
    (length l.initial.lock-iterator < 2 ^ 63) ×
    (l.maps ≡ length (filter (is_cell_of Map) l.yielded)) ×
    (l.counters ≡ length (filter (is_cell_of Counter) l.yielded))
