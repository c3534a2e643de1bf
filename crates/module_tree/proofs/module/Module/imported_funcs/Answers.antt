use Rattle.std.proofs.Common.{◌≡◌, ◌<◌, length, get_or, arith, rules}
use Rattle.module_tree.specs.ModuleView.{import_desc_view}
use Rattle.module_tree.proofs.ModuleWalks.{imported_next, func_count_small}
use Rattle.module_tree.proofs.module.Module.imported_funcs.Goals as goal

pub overflow_add-count : goal.overflow_add-count
overflow_add-count g c =
    let small = func_count_small (import_desc_view c.import-item.result.desc) in
    omega (arith, small, c.loop-import.invariant.0)

pub loop-import-preserved : goal.loop-import-preserved
loop-import-preserved g c =
    let imports = c.args.self.now.imports.items in
    let x = c.import-item.result in
    let i = c.loop-import.import-index in
    let lt : i < length imports = omega arith in
    let is : x ≡ get_or imports i x = search rules in
    let small = func_count_small (import_desc_view x.desc) in
    (omega (arith, small, c.loop-import.invariant.0), omega (arith, imported_next imports x i lt is, c.loop-import.invariant.1))
