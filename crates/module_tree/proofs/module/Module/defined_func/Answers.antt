use Rattle.std.proofs.Common.{◌-◌, ap, ◌∙◌, arith}
use Rattle.spec_modules.specs.Limits.{first}
use Rattle.module_tree.specs.Modules.{module_view}
use Rattle.module_tree.proofs.Nodes.{lent_view, lent_numbered, defined_at}
use Rattle.module_tree.proofs.module.Module.defined_func.Goals as goal

pub returns-clause-numbered : goal.returns-clause-numbered
returns-clause-numbered g c =
    lent_numbered c.args.self.now.funcs.items _ c.func_at.result c.func_at.ensures (first _ _ c.args.self.now.numbered)

pub returns-clause-view : goal.returns-clause-view
returns-clause-view g c =
    let m = module_view c.args.self.now in
    lent_view c.args.self.now.funcs.items _ c.func_at.result c.func_at.ensures
    ∙ defined_at m c.args.func (c.args.func - c.imported_funcs-imported.result) (omega arith) (ap (λ n. c.args.func - n) c.imported_funcs-imported.ensures)
