use Rattle.std.proofs.Common.{map, take, ap, ◌∙◌}
use Rattle.spec_typing.specs.Modules.{imported_globals}
use Rattle.module_tree.specs.ModuleView.{global_type_view}
use Rattle.module_tree.specs.Modules.{module_view}
use Rattle.typing.proofs.Gathered.{prefix}
use Rattle.typing.proofs.check.imported.Goals as goal

pub returns : goal.returns
returns g c =
    let spaces = c.args.spaces.now in
    let m = module_view c.args.tree.now in
    ap (λ gs. map global_type_view (take spaces.imported_globals gs)) c.deref.ensures.value
    ∙ prefix global_type_view spaces.globals.items (imported_globals m) (map (λ g. g.type) m.globals) spaces.imported_globals c.requires.globals c.requires.imported_globals
