use Rattle.std.proofs.Common.{◌≡◌, ap, refl, subst, arith}
use Rattle.debugger.specs.Commands.{HasStepped}
use Rattle.debugger.specs.SessionView.{SessionView, session_view_of}
use Rattle.debugger.proofs.Keeping.{kept_on, kept_still, seen_end}
use Rattle.debugger.proofs.session.Session.step.Goals as goal

pub returns : goal.returns
returns g c =
    let here = c.self.inside.here in
    let end = c.advance.new.cursor in
    let went = c.in_ok-made.ensures in
    let first : c.in_ok-cursor.cursor.machine.used ≡ here.machine.used = ap (λ p. p.used) c.in_ok-cursor.ensures.machine in
    subst (λ (s : SessionView). HasStepped s c.args.count c.in_ok-made.made (session_view_of end.machine end.start.now.cells c.self.inside.breaks.items)) c.self.view_is
    (record {
      same = record {
        run = record { setting = went.cursor.same.call.setting; call = went.cursor.same.call.call; contract = went.cursor.same.call.contract; cells = ap (λ s. s.cells) went.cursor.same.start };
        breaks = refl;
      };
      turns = omega (arith, first, went.made);
      most = went.most;
      all = seen_end _ end c.self.inside.breaks.items went.cursor.at went.all;
    })

pub invariant_of-self : goal.invariant_of-self
invariant_of-self g c =
    kept_still c.self.inside.origin c.self.inside.here c.self.inside.kept c.advance.new.kept c.self.invariant c.advance.ensures.kept c.advance.ensures.further

pub invariant_of-self-2 : goal.invariant_of-self-2
invariant_of-self-2 g c =
    kept_on c.self.inside.origin c.self.inside.here c.advance.new.cursor c.self.inside.kept c.advance.new.kept c.self.invariant c.in_ok-made.ensures.cursor c.advance.ensures.kept c.in_ok-made.ensures.reached
