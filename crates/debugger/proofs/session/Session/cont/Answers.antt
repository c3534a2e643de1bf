use Rattle.std.proofs.Common.{◌≡◌, ◌-◌, ℕ, Result, Ok, Err, subst}
use Rattle.std.specs.Result.{IsErrAnd}
use Rattle.debugger.specs.Commands.{HasContinued, Continues}
use Rattle.debugger.specs.declared.session.Refusal.{Refusal}
use Rattle.debugger.specs.declared.session.Refusal.TheVariants.{NoMemory}
use Rattle.debugger.specs.SessionView.{SessionView, session_view_of}
use Rattle.debugger.proofs.Keeping.{kept_on, kept_still, continued}
use Rattle.debugger.proofs.session.Session.cont.Goals as goal

pub returns-in_err-go_on : goal.returns-in_err-go_on
returns-in_err-go_on g c =
    stopped c.args.self.now _ c.from_residual-in_err-go_on.result c.from_residual-in_err-go_on.ensures.1 c.self.view_is
  where
    stopped : (s t : SessionView) (r : Result ℕ Refusal) → IsErrAnd r (λ e. e ≡ NoMemory) → t ≡ s → Continues s r t
    stopped s t (Ok made) h same = absurd h
    stopped s t (Err e) h same = (h, same)

pub returns : goal.returns
returns g c =
    let here = c.self.inside.here in
    let end = c.go_on.new.cursor in
    let went = c.in_ok-go_on.ensures in
    subst (λ (s : SessionView). HasContinued s (c.used.result - c.used-turns.result) (session_view_of end.machine end.start.now.cells c.self.inside.breaks.items)) c.self.view_is
    (continued here c.in_ok-cursor.cursor end c.self.invariant.at went.cursor.at c.self.inside.breaks.items c.deref.result.now c.deref.ensures.value c.in_ok-cursor.ensures went.cursor.same went.moves went.stops went.least c.used-turns.result c.used.result c.used-turns.ensures c.used.ensures)

pub invariant_of-self : goal.invariant_of-self
invariant_of-self g c =
    kept_still c.self.inside.origin c.self.inside.here c.self.inside.kept c.go_on.new.kept c.self.invariant c.go_on.ensures.kept c.go_on.ensures.further

pub invariant_of-self-2 : goal.invariant_of-self-2
invariant_of-self-2 g c =
    kept_on c.self.inside.origin c.self.inside.here c.go_on.new.cursor c.self.inside.kept c.go_on.new.kept c.self.invariant c.in_ok-go_on.ensures.cursor c.go_on.ensures.kept c.in_ok-go_on.ensures.reached
