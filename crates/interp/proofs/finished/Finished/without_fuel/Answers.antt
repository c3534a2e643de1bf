use Rattle.std.proofs.Common.{◌≡◌, ◌∙◌, List, true≢false, sym, ap, subst, arith}
use Rattle.spec_ledger.specs.declared.TraceStep.{TraceStep}
use Rattle.spec_ledger.specs.declared.Outcome.TheVariants.{OutOfFuel}
use Rattle.spec_execution.specs.Levels.{RunsWith}
use Rattle.interp.specs.Callee.{setting_view}
use Rattle.interp.specs.FinishedCalls.{Played}
use Rattle.interp.specs.Starting.{HasCode}
use Rattle.interp.proofs.Beginning.{safe_of, all_linked}
use Rattle.interp.proofs.Unfuelled.{runs_out}
use Rattle.interp.proofs.finished.Finished.without_fuel.Goals as goal

pub returns-then-not-has_code-clause-none : goal.returns-then-not-has_code-clause-none
returns-then-not-has_code-clause-none g c h =
    let opens = c.in-Ok.ensures.opens c.args.version in
    let yes = (c.has_code.ensures c.args.version c.args.call.now.contract).1 (subst HasCode opens h.code) in
    true≢false (sym yes ∙ c.if-not-has_code.true)

pub of-requires-clause-played : goal.of-requires-clause-played
of-requires-clause-played g c =
    let setting = setting_view c.args.version c.args.contracts.now in
    let call = c.args.call.now in
    let opens = c.in-Ok.ensures.opens c.args.version in
    let code = (c.has_code.ensures c.args.version call.contract).0 c.if-not-has_code.false in
    let none : call.fuel ≡ 0 = omega arith in
    subst (λ (trace : List TraceStep). RunsWith setting call trace OutOfFuel 0) (sym c.new-trace.ensures.items)
    (runs_out setting call _ c.in-Ok.field-0.func (safe_of setting call _ c.in-Ok.field-0.func (all_linked c.args.contracts.now) c.deployed_calls_are_safe.ensures opens) opens code none)

pub returns-clause-some : goal.returns-clause-some
returns-clause-some g c =
    let f = c.of.ensures in
    let call = c.args.call.now in
    let opens = c.in-Ok.ensures.opens c.args.version in
    let code = (c.has_code.ensures c.args.version call.contract).0 c.if-not-has_code.false in
    let none : call.fuel ≡ 0 = omega arith in
    record {
      lent = ap (λ (p : Played). p.setting) f;
      call_is = ap (λ (p : Played). p.call) f;
      trace = ap (λ (p : Played). p.trace) f ∙ c.new-trace.ensures.items;
      used = ap (λ (p : Played). p.used) f;
      outcome = ap (λ (p : Played). p.outcome) f;
      lacks = record { code = subst HasCode (sym opens) code; no_fuel = none };
    }
