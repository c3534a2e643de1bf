use Rattle.std.proofs.Common.{Option, is_some, sym, ap, ◌∙◌}
use Rattle.spec_ledger.specs.declared.Outcome.{Outcome}
use Rattle.spec_execution.specs.Turns.{state_of}
use Rattle.spec_execution.specs.Levels.{Level}
use Rattle.debugger.specs.SessionView.{globals_at}
use Rattle.debugger.proofs.Turning.{is_shown, ending_is, shown_last, shown_inner}
use Rattle.debugger.proofs.session.Session.globals.Goals as goal

pub returns-then-is_some : goal.returns-then-is_some
returns-then-is_some g c =
    let p = c.self.inside.here.machine in
    let goes = c.self.invariant.at.turns.goes_on in
    let is = ap (λ (o : Option Outcome). is_some o) (sym (ending_is p goes) ∙ sym (c.ending.ensures (is_shown p.status goes))) ∙ sym c.is_some.ensures ∙ c.if-is_some.true in
    c.outer_globals.ensures ∙ ap (λ (l : Level). (state_of l.config).globals) (sym (shown_last _ p.config is)) ∙ ap globals_at c.self.view_is

pub returns-else-is_some : goal.returns-else-is_some
returns-else-is_some g c =
    let p = c.self.inside.here.machine in
    let goes = c.self.invariant.at.turns.goes_on in
    let is = ap (λ (o : Option Outcome). is_some o) (sym (ending_is p goes) ∙ sym (c.ending.ensures (is_shown p.status goes))) ∙ sym c.is_some.ensures ∙ c.if-is_some.false in
    c.globals.ensures ∙ ap (λ (l : Level). (state_of l.config).globals) (sym (shown_inner _ p.config is)) ∙ ap globals_at c.self.view_is
