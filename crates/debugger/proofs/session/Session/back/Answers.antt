use Rattle.std.proofs.Common.{◌≡◌, ◌-◌, ◌≤◌, ℕ, List, Result, Ok, Err, ap, refl, sym, subst, arith}
use Rattle.std.specs.Result.{IsErrAnd}
use Rattle.debugger.specs.Commands.{HasGoneBack, AreFew, GoesBack}
use Rattle.debugger.specs.Keeping.{IsNearest}
use Rattle.debugger.specs.declared.cursor.Cursor.{Cursor}
use Rattle.debugger.specs.declared.session.Refusal.{Refusal}
use Rattle.debugger.specs.declared.session.Refusal.TheVariants.{NoMemory}
use Rattle.debugger.specs.SessionView.{SessionView, session_view_of}
use Rattle.debugger.proofs.Keeping.{kept_on}
use Rattle.debugger.proofs.Spacing.{again_less}
use Rattle.debugger.proofs.session.Session.back.Goals as goal

pub returns-in_err-cursor : goal.returns-in_err-cursor
returns-in_err-cursor g c =
    refused c.args.self.now c.args.count c.from_residual.result c.from_residual.ensures.1 (omega (arith, c.used-turns.ensures, c.if-count-turns.false, ap (λ s. s.turns) c.self.view_is))
  where
    refused : (s : SessionView) (n : ℕ) (r : Result ℕ Refusal) → IsErrAnd r (λ e. e ≡ NoMemory) → n ≤ s.turns → GoesBack s n r s
    refused s n (Ok again) h le = absurd h
    refused s n (Err e) h le = subst (λ e. GoesBack s n (Err e) s) (sym h) (refl, le, refl)

pub returns : goal.returns
returns g c =
    let here = c.self.inside.here in
    let origin = c.self.inside.origin in
    let turns = c.used-turns.result - c.args.count in
    let nearest = c.nearest-earlier.result.now in
    let end = c.in_ok-cursor.cursor in
    let went = c.in_ok-cursor.ensures in
    subst (λ s. HasGoneBack s c.args.count (session_view_of end.machine end.start.now.cells c.self.inside.breaks.items) × AreFew s.call.fuel c.in_ok-cursor.again) c.self.view_is (
      record {
        same = record { run = record { setting = went.same.call.setting; call = went.same.call.call; contract = went.same.call.contract; cells = ap (λ s. s.cells) went.same.start }; breaks = refl };
        turns = omega (arith, went.turns, c.used-turns.ensures, c.if-count-turns.false);
      },
      again_less origin here nearest c.self.inside.kept turns c.in_ok-cursor.again c.self.invariant
          (subst (λ (cs : List (Cursor _)). IsNearest origin cs turns nearest) c.deref.ensures.value c.nearest-earlier.ensures.near)
          (omega (arith, c.used-turns.ensures)) went.again,
    )

pub invariant_of-self : goal.invariant_of-self
invariant_of-self g c =
    kept_on c.self.inside.origin c.self.inside.here c.in_ok-cursor.cursor c.self.inside.kept c.self.inside.kept c.self.invariant
    (record { at = c.in_ok-cursor.ensures.at; same = c.in_ok-cursor.ensures.same }) c.self.invariant.kept
    (omega (arith, c.in_ok-cursor.ensures.turns, c.used-turns.ensures, c.self.invariant.reached))
