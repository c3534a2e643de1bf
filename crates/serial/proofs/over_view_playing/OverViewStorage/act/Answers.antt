use Rattle.std.proofs.Common.{◌≡◌, List}
use Rattle.spec_ledger.specs.declared.TraceStep.{TraceStep}
use Rattle.serial.specs.declared.over_view_playing.OverView.{OverView}
use Rattle.serial.specs.Touches.{AreFoundBy, AreTouchesOf}
use Rattle.serial.proofs.Ending.{on_err}
use Rattle.serial.proofs.over_view_playing.OverViewStorage.act.Goals as goal

pub returns-clause-on : goal.returns-clause-on
returns-clause-on g c = λ start trace led.
    let e = c.in_ok-reply.ensures in
    (led.0, (e.touches trace c.args.self.now.marks.items led.1.0, e.read led.1.1))

pub returns-in_err-reply-clause-rest : goal.returns-in_err-reply-clause-rest
returns-in_err-reply-clause-rest g c =
    let told : (start : OverView _ _) (trace : List TraceStep) → (c.args.self.now.view.now ≡ start.view.now) × (AreTouchesOf trace c.args.self.now.touches.entries c.args.self.now.inverses.items c.args.self.now.marks.items × AreFoundBy (g.V.Reads.may_read c.args.self.now.view.now) c.args.self.now.touches.entries) → Unit {0} = λ start trace led. tt in
    on_err _ told
