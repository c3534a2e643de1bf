use Rattle.std.proofs.Common.{◌-◌, ◌∙◌, Some}
use Rattle.std.proofs.lemmas.List.{length-set}
use Rattle.spec_ledger.specs.declared.Version.TheVariants.{Two}
use Rattle.interp.specs.Callee.{setting_view}
use Rattle.miner.proofs.Ties.{runs_left, run_placed}
use Rattle.miner.proofs.outcome.placed.Goals as goal

pub loop-run-preserved-then-position-count : goal.loop-run-preserved-then-position-count
loop-run-preserved-then-position-count g c =
    record {
      left = runs_left (setting_view Two c.args.contracts.now) c.args.calls.now c.loop-run.committed.items c.pop.new.self.items c.in-Some.run' c.in-Some.ensures.items c.loop-run.invariant.left;
      placed = run_placed (setting_view Two c.args.contracts.now) c.args.calls.now c.loop-run.committed.items c.pop.new.self.items c.in-Some.run' c.loop-run.places.items (c.len-count.result - 1 - c.in-Some.run'.position) c.in-Some.ensures.items c.loop-run.invariant.left c.loop-run.invariant.placed;
      long = length-set c.loop-run.places.items (c.len-count.result - 1 - c.in-Some.run'.position) (Some c.in-Some.run') ∙ c.loop-run.invariant.long;
    }

pub loop-run-preserved-then-position-count-2 : goal.loop-run-preserved-then-position-count-2
loop-run-preserved-then-position-count-2 g c =
    record {
      left = runs_left (setting_view Two c.args.contracts.now) c.args.calls.now c.loop-run.committed.items c.pop.new.self.items c.in-Some.run' c.in-Some.ensures.items c.loop-run.invariant.left;
      placed = run_placed (setting_view Two c.args.contracts.now) c.args.calls.now c.loop-run.committed.items c.pop.new.self.items c.in-Some.run' c.loop-run.places.items (c.len-count.result - 1 - c.in-Some.run'.position) c.in-Some.ensures.items c.loop-run.invariant.left c.loop-run.invariant.placed;
      long = length-set c.loop-run.places.items (c.len-count.result - 1 - c.in-Some.run'.position) (Some c.in-Some.run') ∙ c.loop-run.invariant.long;
    }

pub loop-run-preserved : goal.loop-run-preserved
loop-run-preserved g c =
    record {
      left = runs_left (setting_view Two c.args.contracts.now) c.args.calls.now c.loop-run.committed.items c.pop.new.self.items c.in-Some.run' c.in-Some.ensures.items c.loop-run.invariant.left;
      placed = c.loop-run.invariant.placed;
      long = c.loop-run.invariant.long;
    }
