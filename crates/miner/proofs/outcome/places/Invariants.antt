use Rattle.std.proofs.Common.{All, IfSome}
use Rattle.spec_ledger.specs.declared.Version.TheVariants.{Two}
use Rattle.interp.specs.Callee.{setting_view}
use Rattle.book_workers.specs.CommittedRuns.{IsCommitted}
use Rattle.miner.proofs.outcome.places.Given as goal

abbrev pub invariant-loop : goal.invariant-loop
invariant-loop g l = All (λ place. IfSome place (IsCommitted (setting_view Two l._contracts) l._calls)) l.places.items
