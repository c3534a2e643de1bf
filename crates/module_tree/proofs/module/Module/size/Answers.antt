use Rattle.std.proofs.Common.{◌≡◌, Some, rules}
use Rattle.module_tree.specs.ModuleView.{func_view}
use Rattle.module_tree.specs.Modules.{module_view}
use Rattle.module_tree.specs.Readers.{defined_func}
use Rattle.module_tree.proofs.Sizes.{defined_size}
use Rattle.module_tree.proofs.module.Module.size.Goals as goal

pub count_of-requires : goal.count_of-requires
count_of-requires g c =
    let found = c.unwrap-found.result.now in
    let m = module_view c.args.self.now in
    let is : defined_func m c.args.func ≡ Some (func_view found) = search rules in
    defined_size m c.args.func (func_view found) c.args.self.now.short is
