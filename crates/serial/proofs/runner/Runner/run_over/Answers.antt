use Rattle.std.proofs.Common.{◌≡◌, ◌<◌, ◌^◌, false, true, IfSome, arith, rules, sym, subst}
use Rattle.std.specs.Prelude.{IsSome}
use Rattle.std.proofs.lemmas.Result.{IfOk-weaker}
use Rattle.spec_execution.specs.Configuration.{Setting}
use Rattle.spec_execution.specs.ReadWriteSets.{IsReadWriteSet}
use Rattle.spec_execution.specs.Run.{ContractCall}
use Rattle.interp.specs.Callee.{setting_view}
use Rattle.interp.specs.Progress.{IsStartOf}
use Rattle.serial.specs.Behind.{behind}
use Rattle.serial.proofs.Meeting.{free_first}
use Rattle.serial.proofs.runner.Runner.run_over.Goals as goal

pub run_begun-requires-clause-free : goal.run_begun-requires-clause-free
run_begun-requires-clause-free g c =
    let start = subst (λ o. IfSome o (IsStartOf (setting_view c.args.version c.args.contracts.now) c.args.call.now)) c.in-Some.is c.in-Ok.ensures.start in
    free_first c.in-Some.begun.status start.goes_on

pub run_begun-requires-clause-first : goal.run_begun-requires-clause-first
run_begun-requires-clause-first g c =
    let start = subst (λ o. IfSome o (IsStartOf (setting_view c.args.version c.args.contracts.now) c.args.call.now)) c.in-Some.is c.in-Ok.ensures.start in
    start.trace

pub run_begun-requires-clause-limit : goal.run_begun-requires-clause-limit
run_begun-requires-clause-limit g c =
    let start = subst (λ o. IfSome o (IsStartOf (setting_view c.args.version c.args.contracts.now) c.args.call.now)) c.in-Some.is c.in-Ok.ensures.start in
    let fits : c.fuel.result < 2 ^ 64 = search (arith, rules) in
    subst (λ (k : ContractCall). k.fuel < 2 ^ 64) (sym start.call_is) (subst (λ n. n < 2 ^ 64) c.fuel.ensures fits)

pub unreachable-requires : goal.unreachable-requires
unreachable-requires g c = let no : false ≡ true = subst IsSome c.in-None.is c.in-Ok.ensures.there in cc

pub returns-clause-read_write_set : goal.returns-clause-read_write_set
returns-clause-read_write_set g c =
    let setting = setting_view c.args.version c.args.contracts.now in
    let start = subst (λ o. IfSome o (IsStartOf setting c.args.call.now)) c.in-Some.is c.in-Ok.ensures.start in
    let more = behind c.args.accesses.now.items c.run_begun.new.accesses.items in
    IfOk-weaker c.run_begun.result _ _
    (λ e h. subst (λ (k : ContractCall). IsReadWriteSet setting k more e.receipt e.touched) start.call_is (subst (λ (s : Setting). IsReadWriteSet s c.in-Some.begun.call more e.receipt e.touched) start.setting h))
    c.run_begun.ensures.read_write_set
