use Rattle.std.proofs.Common.{ap, subst}
use Rattle.spec_ledger.specs.declared.Receipt.{Receipt}
use Rattle.spec_execution.specs.Levels.{ran}
use Rattle.interp.specs.Machine.{IsAt}
use Rattle.interp.specs.Run.{seen}
use Rattle.interp.proofs.machine.receipt_of_run.Goals as goal

pub returns-in-Ended-clause-some : goal.returns-in-Ended-clause-some
returns-in-Ended-clause-some g c =
    let r = c.args.run.now in
    let s = seen r in
    let m = c.requires.machine in
    let o = c.in-Ended.outcome in
    let over = subst (IsAt s) c.in-Ended.is m.at in
    record {
      ended = c.in-Ended.is;
      played = ran s.first s.func s.trace o s.used m.opens over.run;
      receipt = ap (λ n. let receipt : Receipt = record { outcome = o; used = r.used; asks = n } in receipt) c.requires.entered;
    }
