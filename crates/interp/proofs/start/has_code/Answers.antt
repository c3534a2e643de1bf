use Rattle.std.proofs.Common.{ap, ◌∙◌}
use Rattle.std.specs.Prelude.{unwrap_or}
use Rattle.spec_execution.specs.Configuration.{function_at}
use Rattle.spec_execution.specs.Places.{body_of_function}
use Rattle.instance.specs.Views.{deployed_view}
use Rattle.interp.proofs.Bodies.{has_some}
use Rattle.interp.proofs.start.has_code.Goals as goal

pub returns : goal.returns
returns g c version number =
    has_some c.body_of.result.now c.is_empty.result _ c.is_empty.ensures
    (c.body_of.ensures ∙ ap (λ f. body_of_function (function_at (deployed_view c.args.deployed.now) f)) (c.unwrap_or-first.ensures ∙ ap (λ m. unwrap_or m.start c.args.func) c.module-tree.ensures))
