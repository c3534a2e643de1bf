use Rattle.std.proofs.Common.{◌≡◌, ◌<◌, length, get_or, map, arith, rules}
use Rattle.spec_typing.specs.Modules.{func_of, table_of, memory_of, global_of}
use Rattle.module_tree.specs.ModuleView.{limits_view, global_type_view}
use Rattle.body_typing.proofs.Imports.{import_more}
use Rattle.body_typing.proofs.spaces.imported.Goals as goal

pub loop-import-preserved : goal.loop-import-preserved
loop-import-preserved g c =
    let is = c.args.imports.now.items in
    let i = c.loop-import.import-index in
    let x = c.import-item.result in
    let lt : i < length is = omega arith in
    let at : x ≡ get_or is i x = search rules in
    let new = c.in_ok-add_import.ensures in
    let so_far = c.loop-import.invariant in
    record {
      funcs = import_more func_of c.loop-import.spaces.funcs.items _ _ is i x lt at new.funcs so_far.funcs;
      tables = import_more table_of (map limits_view c.loop-import.spaces.tables.items) _ _ is i x lt at new.tables so_far.tables;
      memories = import_more memory_of (map limits_view c.loop-import.spaces.memories.items) _ _ is i x lt at new.memories so_far.memories;
      globals = import_more global_of (map global_type_view c.loop-import.spaces.globals.items) _ _ is i x lt at new.globals so_far.globals;
    }
