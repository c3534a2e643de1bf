use Rattle.std.proofs.Common.{◌∙◌}
use Rattle.interp.specs.Callee.{setting_view}
use Rattle.validator.proofs.Fits.{is_job}
use Rattle.validator.proofs.verdict_within.Goals as goal

pub verdict_by_pace-requires-clause-job : goal.verdict_by_pace-requires-clause-job
verdict_by_pace-requires-clause-job g c κs within =
    let new = c.new.ensures in
    is_job _ c.requires.trial ((λ k. setting_view (new.task k).version (new.task k).contracts.now) ∙ (λ k. record { contracts = c.contracts.ensures.contracts k; version = c.version.ensures k })) (λ k. (new.task k).calls.now)
    (λ k. (new.order k).now) ((λ k. (new.cells k).now.cells) ∙ c.cells.ensures)
