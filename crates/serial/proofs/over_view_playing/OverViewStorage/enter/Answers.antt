use Rattle.std.proofs.Common.{List, ◌≡◌, ◌∷◌, ◌++◌, [], length, refl, arith}
use Rattle.spec_ledger.specs.declared.TraceStep.{TraceStep}
use Rattle.spec_ledger.specs.declared.TraceStep.TheVariants.{Opened}
use Rattle.serial.proofs.Stepping.{enters}
use Rattle.serial.specs.declared.over_view_playing.OverView.{OverView}
use Rattle.serial.specs.Touches.{AreFoundBy, AreTouchesOf}
use Rattle.serial.proofs.Ending.{on_err}
use Rattle.serial.proofs.over_view_playing.OverViewStorage.enter.Goals as goal

pub returns-clause-on : goal.returns-clause-on
returns-clause-on g c = λ start trace led.
    let size : c.len.result ≡ length c.args.self.now.inverses.items = omega (arith, c.len.ensures, c.args.self.now.inverses.ok.0) in
    (led.0, (enters trace c.args.self.now.touches.entries c.args.self.now.inverses.items c.args.self.now.marks.items led.1.0 (trace ++ Opened ∷ []) refl c.len.result size c.push.new.self.items c.in_ok-push.ensures.items, led.1.1))

pub returns-in_err-push-clause-rest : goal.returns-in_err-push-clause-rest
returns-in_err-push-clause-rest g c =
    let told : (start : OverView _ _) (trace : List TraceStep) → (c.args.self.now.view.now ≡ start.view.now) × (AreTouchesOf trace c.args.self.now.touches.entries c.args.self.now.inverses.items c.args.self.now.marks.items × AreFoundBy (g.V.Reads.may_read c.args.self.now.view.now) c.args.self.now.touches.entries) → Unit {0} = λ start trace led. tt in
    on_err _ told
