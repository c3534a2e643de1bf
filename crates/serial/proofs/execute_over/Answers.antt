use Rattle.std.proofs.Common.{◌≡◌, ◌<◌, ◌^◌, false, true, IfSome, arith, rules, sym, subst}
use Rattle.std.specs.Prelude.{IsSome}
use Rattle.std.proofs.lemmas.Result.{IfOk-weaker}
use Rattle.spec_execution.specs.Configuration.{Setting}
use Rattle.spec_execution.specs.Run.{ContractCall}
use Rattle.spec_execution.specs.Exec.{Executes}
use Rattle.interp.specs.Callee.{setting_view}
use Rattle.interp.specs.Progress.{IsStartOf}
use Rattle.serial.proofs.Meeting.{free_first}
use Rattle.serial.proofs.execute_over.Goals as goal

pub execute_begun-requires-clause-free : goal.execute_begun-requires-clause-free
execute_begun-requires-clause-free g c =
    let start = subst (λ o. IfSome o (IsStartOf (setting_view c.args.version c.args.contracts.now) c.args.call.now)) c.in-Some.is c.in-Ok.ensures.start in
    free_first c.in-Some.begun.status start.goes_on

pub execute_begun-requires-clause-first : goal.execute_begun-requires-clause-first
execute_begun-requires-clause-first g c =
    let start = subst (λ o. IfSome o (IsStartOf (setting_view c.args.version c.args.contracts.now) c.args.call.now)) c.in-Some.is c.in-Ok.ensures.start in
    start.trace

pub execute_begun-requires-clause-limit : goal.execute_begun-requires-clause-limit
execute_begun-requires-clause-limit g c =
    let start = subst (λ o. IfSome o (IsStartOf (setting_view c.args.version c.args.contracts.now) c.args.call.now)) c.in-Some.is c.in-Ok.ensures.start in
    let fits : c.fuel.result < 2 ^ 64 = search (arith, rules) in
    subst (λ (k : ContractCall). k.fuel < 2 ^ 64) (sym start.call_is) (subst (λ n. n < 2 ^ 64) c.fuel.ensures fits)

pub unreachable-requires : goal.unreachable-requires
unreachable-requires g c = let no : false ≡ true = subst IsSome c.in-None.is c.in-Ok.ensures.there in cc

pub returns-clause-executed : goal.returns-clause-executed
returns-clause-executed g c =
    let setting = setting_view c.args.version c.args.contracts.now in
    let start = subst (λ o. IfSome o (IsStartOf setting c.args.call.now)) c.in-Some.is c.in-Ok.ensures.start in
    let cells = c.args.over.now.cells.cells in
    let later = c.execute_begun.new.over.cells.cells in
    IfOk-weaker c.execute_begun.result _ _
    (λ e h. subst (λ (k : ContractCall). Executes setting k cells later e.receipt e.touched) start.call_is (subst (λ (s : Setting). Executes s c.in-Some.begun.call cells later e.receipt e.touched) start.setting h))
    c.execute_begun.ensures.executed
