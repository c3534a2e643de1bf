use Rattle.std.proofs.Common.{arith}
use Rattle.std.proofs.lemmas.List.{length-map}
use Rattle.module_tree.specs.ModuleView.{func_view}
use Rattle.module_tree.specs.Modules.{module_view}
use Rattle.figures.proofs.Counting.{few_funcs}
use Rattle.figures.proofs.module_figures.first_func.Goals as goal

pub overflow_cast-result : goal.overflow_cast-result
overflow_cast-result c =
    let tree = c.args.tree.now in
    let few = few_funcs (module_view tree) tree.fits tree.short in
    omega (arith, few, c.imported_funcs.ensures)

pub returns-clause-room : goal.returns-clause-room
returns-clause-room c =
    let tree = c.args.tree.now in
    let few = few_funcs (module_view tree) tree.fits tree.short in
    let size = length-map tree.funcs.items func_view in
    omega (arith, few, size, c.imported_funcs.ensures)
