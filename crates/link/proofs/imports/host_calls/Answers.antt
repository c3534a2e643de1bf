use Rattle.std.proofs.Common.{◌≡◌, ◌<◌, length, get_or, map, arith, rules}
use Rattle.module_tree.specs.ModuleView.{func_type_view}
use Rattle.link.specs.Tests.{call_of}
use Rattle.link.proofs.Added.{call_more}
use Rattle.link.proofs.imports.host_calls.Goals as goal

pub loop-import-preserved : goal.loop-import-preserved
loop-import-preserved g c =
    let is = c.args.imports.now.items in
    let i = c.loop-import.import-index in
    let x = c.import-item.result in
    let lt : i < length is = omega arith in
    let at : x ≡ get_or is i x = search rules in
    call_more (call_of (map func_type_view c.args.types.now.items)) c.loop-import.calls.items _ _ is i x lt at c.call_of.ensures c.in_ok-add_call.ensures c.loop-import.invariant
