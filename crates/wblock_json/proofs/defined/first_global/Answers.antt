use Rattle.std.proofs.Common.{◌≡◌, ◌+◌, length, map, sym, ap, ◌∙◌, arith, length-append}
use Rattle.std.proofs.lemmas.List.{length-map}
use Rattle.spec_modules.specs.Syntax.{Global, Module}
use Rattle.spec_typing.specs.Modules.{imported_globals}
use Rattle.module_tree.specs.ModuleView.{global_type_view, global_view}
use Rattle.module_tree.specs.Modules.{module_view}
use Rattle.wblock_json.proofs.defined.first_global.Goals as goal

pub returns-clause-room : goal.returns-clause-room
returns-clause-room c =
    let m : Module = module_view c.args.tree.now in
    let spaces = c.args.spaces.now in
    let tree = c.args.tree.now in
    let types : length (map (λ (g : Global). g.type) m.globals) ≡ length m.globals = length-map m.globals (λ (g : Global). g.type) in
    let own : length m.globals ≡ length tree.globals.items = length-map tree.globals.items global_view in
    let all : length spaces.globals.items ≡ length (imported_globals m) + length (map (λ (g : Global). g.type) m.globals) =
    sym (length-map spaces.globals.items global_type_view) ∙ (ap length c.requires.globals ∙ length-append (imported_globals m) (map (λ (g : Global). g.type) m.globals)) in
    omega (arith, types, own, all, c.requires.imported_globals, spaces.globals.ok.0, tree.globals.ok.0)
