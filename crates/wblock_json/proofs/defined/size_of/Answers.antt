use Rattle.std.proofs.Common.{◌≡◌, Some, option_map, sym, ap, ◌∙◌}
use Rattle.spec_modules.specs.Syntax.{Func}
use Rattle.spec_modules.specs.Shape.{size}
use Rattle.module_tree.specs.ModuleView.{func_view}
use Rattle.wblock_json.proofs.defined.size_of.Goals as goal

pub returns : goal.returns
returns c =
    let found : Some (size (func_view c.args.func.now).body) ≡ Some c.size.result = ap (option_map (λ (g : Func). size g.body)) (sym c.requires) ∙ c.size.ensures in
    cc found
