use Rattle.std.proofs.Common.{None}
use Rattle.std.proofs.lemmas.Result.{err_from_is_err_and}
use Rattle.records.specs.Reading.{items_at}
use Rattle.records.proofs.Items.{goes_on, ends, is_done}
use Rattle.records.specs.Profiles.{entry_at}
use Rattle.records.proofs.profile.entries_of.Goals as goal

pub returns-in_err-entry : goal.returns-in_err-entry
returns-in_err-entry g c =
    let p = err_from_is_err_and c.from_residual.result c.from_residual.ensures.1 in
    rw (p.1, p.2) (ends entry_at c.in_err-entry.field-0.0 c.loop.entries.items c.args.count c.loop.counter c.loop.before c.loop.rest.now (items_at entry_at c.args.count None c.args.bytes.now) c.loop-test.true c.in_err-entry.ensures.first c.loop.invariant)

pub loop-preserved : goal.loop-preserved
loop-preserved g c =
    let n = c.in_ok-entry.entry in
    rw c.in_ok-push.ensures.items (goes_on entry_at c.loop.entries.items c.args.count c.loop.counter c.loop.before c.loop.rest.now n c.in_ok-entry.after.now (items_at entry_at c.args.count None c.args.bytes.now) c.loop-test.true c.in_ok-entry.ensures.first c.loop.invariant)

pub returns : goal.returns
returns g c = is_done entry_at c.loop.entries.items c.args.count c.loop.counter c.loop.before c.loop.rest.now (items_at entry_at c.args.count None c.args.bytes.now) c.loop-test.false c.loop.invariant
