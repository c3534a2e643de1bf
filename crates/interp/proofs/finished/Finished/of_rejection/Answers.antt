use Rattle.std.proofs.Common.{List, sym, ap, ◌∙◌, subst}
use Rattle.spec_ledger.specs.declared.TraceStep.{TraceStep}
use Rattle.spec_ledger.specs.declared.Outcome.TheVariants.{Rejected}
use Rattle.spec_execution.specs.Run.{Refused}
use Rattle.spec_execution.specs.Levels.{RunsWith, refused}
use Rattle.interp.specs.Callee.{setting_view}
use Rattle.interp.specs.FinishedCalls.{Played}
use Rattle.interp.specs.Starting.{IsOpened}
use Rattle.interp.proofs.finished.Finished.of_rejection.Goals as goal

pub of-requires-clause-played : goal.of-requires-clause-played
of-requires-clause-played g c =
    subst (λ (trace : List TraceStep). RunsWith (setting_view c.args.version c.args.contracts.now) c.args.call.now trace (Rejected c.code.result) 0) (sym c.new.ensures.items)
    (refused c.code.result (c.in-Err.ensures.refused c.args.version ∙ ap Refused (sym c.code.ensures)))

pub returns-in-Err-clause-some : goal.returns-in-Err-clause-some
returns-in-Err-clause-some g c =
    let f = c.of.ensures in
    record {
      lent = ap (λ (p : Played). p.setting) f;
      call_is = ap (λ (p : Played). p.call) f;
      trace = ap (λ (p : Played). p.trace) f ∙ c.new.ensures.items;
      used = ap (λ (p : Played). p.used) f;
      code = c.code.result;
      outcome = ap (λ (p : Played). p.outcome) f;
      refused = c.in-Err.ensures.refused c.args.version ∙ ap Refused (sym c.code.ensures);
    }

pub returns-in-Ok-clause-none : goal.returns-in-Ok-clause-none
returns-in-Ok-clause-none g c = subst IsOpened (sym (c.in-Ok.ensures.opens c.args.version)) tt
