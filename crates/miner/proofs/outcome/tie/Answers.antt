use Rattle.std.proofs.Common.{arith, refl, ap}
use Rattle.spec_ledger.specs.declared.Version.TheVariants.{Two}
use Rattle.interp.specs.Callee.{setting_view}
use Rattle.publish.specs.Publication.{Publication}
use Rattle.miner.proofs.Ties.{made_for, adopted_length}
use Rattle.miner.proofs.outcome.tie.Goals as goal

pub take_runs-requires : goal.take_runs-requires
take_runs-requires g c =
    let opened = c.in_ok-publishing.ensures in
    made_for (setting_view Two c.args.contracts.now) c.args.calls.now c.args.runs.now c.args.touched.items c.in_ok-publishing.publishing c.requires.runs (ap (λ (p : Publication). p.setting) opened) (ap (λ (p : Publication). p.calls) opened)

pub returns-in-Some-clause-taken : goal.returns-in-Some-clause-taken
returns-in-Some-clause-taken g c =
    let long = adopted_length c.args.closed.entries.items c.in_ok-adopted.adopted _ c.in-Some.publishing c.in_ok-adopted.ensures.adopted c.in-Some.is refl in
    omega (arith, long, c.at_most-count.ensures, c.len.ensures)
