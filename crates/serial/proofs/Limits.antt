-- No call uses more than its limit.
use Rattle.std.proofs.Common.{◌≡◌, ℕ, ◌≤◌, List, Some, option_map, slice_get, map, ◌∙◌, ap, arith}
use Rattle.std.specs.Prelude.{slice_index}
use Rattle.std.proofs.lemmas.Option.{slice_get-map, get_or_from_slice_get}
use Rattle.spec_ledger.specs.declared.Outcome.{Outcome}
use Rattle.spec_ledger.specs.declared.Receipt.{Receipt}
use Rattle.spec_ledger.specs.declared.TraceStep.{TraceStep}
use Rattle.spec_ledger.specs.Cells.{Cells}
use Rattle.spec_ledger.specs.Modes.{Modes}
use Rattle.spec_execution.specs.Configuration.{Setting}
use Rattle.spec_execution.specs.Run.{ContractCall}
use Rattle.spec_execution.specs.Levels.{Levels, Reached, at_first, moved, replied, RunsWith, refused, ran}
use Rattle.spec_execution.specs.Exec.{Executes}

pub limit_at : (calls : List ContractCall) (n : ℕ) (call : ContractCall) → slice_get calls n ≡ Some call → slice_index (map (λ (c : ContractCall). c.fuel) calls) n ≡ call.fuel
limit_at calls n call at =
    get_or_from_slice_get (map (λ (c : ContractCall). c.fuel) calls) n call.fuel 0
    (slice_get-map (λ (c : ContractCall). c.fuel) calls n ∙ ap (option_map (λ (c : ContractCall). c.fuel)) at)

module _ (setting : Setting) (start : Levels) (limit : ℕ) where
  reached_within : (trace : List TraceStep) (used : ℕ) (last : Levels) → Reached setting start limit trace used last → used ≤ limit
  reached_within trace used last at_first = omega arith
  reached_within trace used last (moved t u a charge marks b r e h) = h
  reached_within trace used last (replied t u a op go r reached asks fits) = reached_within t u a reached

runs_within : (setting : Setting) (call : ContractCall) (trace : List TraceStep) (o : Outcome) (used : ℕ) → RunsWith setting call trace o used → used ≤ call.fuel
runs_within setting call trace o used (refused code e) = omega arith
runs_within setting call trace o used (ran c func t p f e run) = reached_within setting _ call.fuel run.before f run.last run.reached

pub executes_within : (setting : Setting) (call : ContractCall) (cells later : Cells) (r : Receipt) (locks : Modes) → Executes setting call cells later r locks → r.used ≤ call.fuel
executes_within setting call cells later r locks e = runs_within setting call e.trace r.outcome r.used e.run
