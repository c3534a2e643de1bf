use Rattle.laws_soundness.proofs.Once.{executes_once, runs_serially}
use Rattle.laws_soundness.proofs.calls_execute_once.Goals as goal

pub returns : goal.returns
returns c = record {
  calls = λ setting call cells linked. executes_once c.deployed_calls_are_safe.ensures c.runs_are_unique.ensures.executes setting linked call cells;
  orders = λ setting calls order cells linked numbers. runs_serially c.deployed_calls_are_safe.ensures c.runs_are_unique.ensures.executes setting linked calls order cells numbers;
}
