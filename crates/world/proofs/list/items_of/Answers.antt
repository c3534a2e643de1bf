use Rattle.std.proofs.Common.{None}
use Rattle.std.proofs.lemmas.Result.{err_from_is_err_and}
use Rattle.records.specs.Reading.{items_at}
use Rattle.records.proofs.Items.{goes_on, ends, is_done}
use Rattle.world.specs.Cells.{cell_at}
use Rattle.world.proofs.list.items_of.Goals as goal

pub returns-in_err-cell : goal.returns-in_err-cell
returns-in_err-cell g c =
    let p = err_from_is_err_and c.from_residual-in_err-cell.result c.from_residual-in_err-cell.ensures.1 in
    rw (p.1, p.2) (ends (cell_at c.args.kind) c.in_err-cell.field-0.0 c.loop.cells.items c.args.count c.loop.counter c.loop.before c.loop.rest.now (items_at (cell_at c.args.kind) c.args.count None c.args.bytes.now) c.loop-test.true c.in_err-cell.ensures c.loop.invariant)

pub loop-preserved : goal.loop-preserved
loop-preserved g c =
    let n = c.in_ok-cell.cell in
    rw c.in_ok-push.ensures.items (goes_on (cell_at c.args.kind) c.loop.cells.items c.args.count c.loop.counter c.loop.before c.loop.rest.now n c.in_ok-cell.after.now (items_at (cell_at c.args.kind) c.args.count None c.args.bytes.now) c.loop-test.true c.in_ok-cell.ensures c.loop.invariant)

pub returns : goal.returns
returns g c = is_done (cell_at c.args.kind) c.loop.cells.items c.args.count c.loop.counter c.loop.before c.loop.rest.now (items_at (cell_at c.args.kind) c.args.count None c.args.bytes.now) c.loop-test.false c.loop.invariant
