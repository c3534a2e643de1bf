use Rattle.std.proofs.Common.{◌≡◌, Some, slice_get, subst}
use Rattle.std.proofs.lemmas.Option.{IfSome_then}
use Rattle.validator.proofs.workers.fold.Goals as goal

pub go_on-requires-clause-run : goal.go_on-requires-clause-run
go_on-requires-clause-run g c κs within =
    IfSome_then c.run_at.result c.run_at.ensures (λ run is. λ number at. is.of_call number (subst (λ n. slice_get c.args.job.now.ordered.order.now n ≡ Some number) c.loop-position.invariant.at at))
