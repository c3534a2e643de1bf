use Rattle.std.proofs.Common.{rules}
use Rattle.spec_ledger.specs.declared.Version.TheVariants.{Two}
use Rattle.interp.specs.Callee.{setting_view}
use Rattle.publish.proofs.Keeping.{kept_opened}
use Rattle.publish.proofs.Publishing.open.Goals as goal

pub invariant_of-result : goal.invariant_of-result
invariant_of-result g c =
    let s = c.in_ok-so_far.so_far in
    let e = c.in_ok-so_far.ensures in
    kept_opened (setting_view Two c.args.contracts.now) c.args.calls.now c.args.cells.now.cells c.args.fuel
    (record { order = s.order.items; receipts = s.receipts.items; touched = s.touched.items; marks = s.marks.items; remaining = s.remaining; used = s.used; counts = c.in_ok-current.current.unsettled })
    c.in_ok-current.current.cells c.requires c.in_ok-current.ensures.cells e.order e.receipts e.touched (search rules) e.remaining e.used c.in_ok-current.ensures.unsettled
