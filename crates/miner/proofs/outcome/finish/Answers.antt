use Rattle.std.proofs.Common.{ap, sym, subst, length, length-append, arith}
use Rattle.spec_ledger.specs.Order.{IsAdmissible}
use Rattle.publish.specs.Publication.{limits}
use Rattle.miner.proofs.outcome.finish.Goals as goal

pub returns-clause-admissible : goal.returns-clause-admissible
returns-clause-admissible g c =
    let same = c.in_ok-fill.ensures.gone_on.same in
    subst (λ order. IsAdmissible (limits c.args.publishing.calls) order c.args.publishing.fuel) (sym c.in_ok-published.ensures.order)
    (subst (λ calls. IsAdmissible (limits calls) c.fill.new.self.order c.args.publishing.fuel) same.calls
    (subst (λ fuel. IsAdmissible (limits c.fill.new.self.calls) c.fill.new.self.order fuel) same.fuel c.in_ok-fill.ensures.admissible))

pub returns-clause-by_workers : goal.returns-clause-by_workers
returns-clause-by_workers g c =
    let gone = c.in_ok-fill.ensures.gone_on in
    let more = length-append c.args.publishing.order gone.more in
    let filled = ap (λ xs. length xs) gone.order in
    let closed = ap (λ xs. length xs) c.in_ok-published.ensures.order in
    omega (arith, c.requires, filled, more, closed)
