use Rattle.std.proofs.Common.{take, drop}
use Rattle.std.specs.FinMap.{empty}
use Rattle.spec_ledger.specs.declared.Version.TheVariants.{Two}
use Rattle.interp.specs.Callee.{setting_view}
use Rattle.publish.proofs.Keeping.{opened}
use Rattle.publish.proofs.Walking.{IsWalked}
use Rattle.publish.proofs.adopting.adopt_entries.Given as goal

abbrev pub invariant-loop-place : goal.invariant-loop-place
invariant-loop-place g l =
    IsWalked (opened (setting_view Two l._contracts) l.calls l._cells.cells l.fuel) l.entries l.runs l.touched.items
    (record { order = l.so_far.order.items; receipts = l.so_far.receipts.items; touched = take l.place l.touched.items; marks = l.so_far.marks.items; remaining = l.so_far.remaining; used = l.so_far.used; counts = empty })
    (drop l.place l.entries) (drop l.place l.runs) (drop l.place l.touched.items)
