use Rattle.std.proofs.Common.{Option, is_some, sym, ap, ◌∙◌, subst}
use Rattle.spec_ledger.specs.declared.Outcome.{Outcome}
use Rattle.spec_execution.specs.Turns.{state_of}
use Rattle.spec_execution.specs.Levels.{Level}
use Rattle.interp.specs.MachineViews.{AreReadOf}
use Rattle.debugger.proofs.Turning.{is_shown, ending_is, shown_last, shown_inner}
use Rattle.debugger.proofs.session.bytes_shown.Goals as goal

pub returns-then-is_some : goal.returns-then-is_some
returns-then-is_some g c =
    let p = c.args.cursor.now.machine in
    let goes = c.requires.turns.goes_on in
    let is = ap (λ (o : Option Outcome). is_some o) (sym (ending_is p goes) ∙ sym (c.ending.ensures (is_shown p.status goes))) ∙ sym c.is_some.ensures ∙ c.if-is_some.true in
    subst (λ (l : Level). AreReadOf (state_of l.config).memory c.args.from c.args.count c.outer_bytes.result) (sym (shown_last _ p.config is)) c.outer_bytes.ensures

pub returns-else-is_some : goal.returns-else-is_some
returns-else-is_some g c =
    let p = c.args.cursor.now.machine in
    let goes = c.requires.turns.goes_on in
    let is = ap (λ (o : Option Outcome). is_some o) (sym (ending_is p goes) ∙ sym (c.ending.ensures (is_shown p.status goes))) ∙ sym c.is_some.ensures ∙ c.if-is_some.false in
    subst (λ (l : Level). AreReadOf (state_of l.config).memory c.args.from c.args.count c.bytes.result) (sym (shown_inner _ p.config is)) c.bytes.ensures
