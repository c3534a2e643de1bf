use Rattle.std.proofs.Common.{arith, refl, length}
use Rattle.std.proofs.lemmas.Option.{slice_get_read}
use Rattle.interp.specs.Callee.{setting_view}
use Rattle.serial.specs.Behind.{behind}
use Rattle.in_order.proofs.Shares.{one_more_prepared}
use Rattle.in_order.proofs.speculative_run.run_speculatively.Goals as goal

pub returns : goal.returns
returns g c =
    let task = c.args.task.now in
    let calls = task.calls.now in
    let at = slice_get_read calls (length calls) c.args.call c.index-calls-call.result refl c.requires.call c.index-calls-call.is in
    let e = c.in_ok-executed.executed in
    let earlier = c.args.share.now.accesses.items in
    let now = c.run_over.new.accesses.items in
    one_more_prepared (setting_view task.version task.contracts.now) calls earlier (behind earlier now) now c.args.share.now.prepared.items c.push.new.self.items
    (record { call = c.args.call; executed = e; from = c.len-from.result; until = c.len-until.result }) c.in_ok-push.ensures.items c.in_ok-executed.ensures.accesses c.requires.share (omega (arith, c.len-from.ensures, c.args.share.now.accesses.ok.0)) (omega (arith, c.len-until.ensures, c.run_over.new.accesses.ok.0))
    (record { call = c.index-calls-call.result; at = at; is = c.in_ok-executed.ensures.read_write_set })
