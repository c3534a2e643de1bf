-- Not checked: the names of the goals are guessed; `rt check --start Session::exported_function` tells them.
use Rattle.std.proofs.Common.{ap, ◌∙◌}
use Rattle.spec_execution.specs.Configuration.{Deployed}
use Rattle.spec_execution.specs.Run.{exported}
use Rattle.debugger.specs.Breaks.{function_of, exported_function}
use Rattle.debugger.specs.SessionView.{SessionView}
use Rattle.debugger.proofs.session.Session.exported_function.Goals as goal

pub returns : goal.returns
returns g c =
    let name = c.args.name.now in
    c.function_of.ensures
    ∙ ap function_of (c.exported.ensures ∙ ap (λ (d : Deployed). exported name d.tree.exports) c.deployed.ensures)
    ∙ ap (λ (s : SessionView). exported_function s.contract.deployed.tree name) c.self.view_is
