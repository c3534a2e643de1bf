use Rattle.std.proofs.Common.{◌≡◌, Some, map, ap, ◌∙◌}
use Rattle.std.specs.Prelude.{option_map}
use Rattle.std.proofs.lemmas.Result.{err_from_is_err_and}
use Rattle.spec_modules.specs.Syntax.{Module}
use Rattle.laws_modules.specs.ReadingModules.{module_at}
use Rattle.module_tree.specs.ModuleView.{func_type_view, import_view, limits_view, global_view, export_view, element_view, module_of}
use Rattle.expr_reader.proofs.Turns.{hand_on}
use Rattle.loader.specs.Tail.{tail_at}
use Rattle.loader.proofs.Ordinals.{all_are_numbered}
use Rattle.loader.proofs.Ranges.{all_bytes}
use Rattle.loader.proofs.Spelled.{numbers_fit, shortest_fits}
use Rattle.loader.proofs.Whole.{module_is}
use Rattle.loader.proofs.modules.module_of.Goals as goal

pub returns-in_err-funcs : goal.returns-in_err-funcs
returns-in_err-funcs g c =
    let is = c.in_ok-indices.indices.items in
    let bs = c.in_ok-elements.rest.now in
    let p = err_from_is_err_and c.from_residual-in_err-funcs.result c.from_residual-in_err-funcs.ensures.1 in
    let whole = module_is c.args.bytes.now c.in_ok-rest.rest.now c.in_ok-rest-2.rest.now
    (map func_type_view c.in_ok-types.types.items, c.in_ok-types.rest.now) (map import_view c.in_ok-imports.imports.items, c.in_ok-imports.rest.now)
    (c.in_ok-indices.indices.items, c.in_ok-indices.rest.now)
    (map limits_view c.in_ok-tables.tables.items, c.in_ok-tables.rest.now)
    (map limits_view c.in_ok-memories.memories.items, c.in_ok-memories.rest.now)
    (map global_view c.in_ok-globals.globals.items, c.in_ok-globals.rest.now)
    (map export_view c.in_ok-exports.exports.items, c.in_ok-exports.rest.now)
    (c.in_ok-start.start, c.in_ok-start.rest.now) (map element_view c.in_ok-elements.elements.items, c.in_ok-elements.rest.now)
    c.in_ok-rest.ensures.value c.in_ok-rest-2.ensures.value c.in_ok-types.ensures.value c.in_ok-imports.ensures.value
    (rw c.new-none.ensures.items at c.in_ok-indices.ensures.value)
    c.in_ok-tables.ensures.value c.in_ok-memories.ensures.value c.in_ok-globals.ensures.value c.in_ok-exports.ensures.value c.in_ok-start.ensures.value c.in_ok-elements.ensures.value in
    record {
      value = rw (p.1, p.2) (hand_on c.in_err-funcs.field-0.0 (tail_at is bs) (module_at c.args.bytes.now) (λ none. whole ∙ ap (option_map _) none)
          (rw c.deref.ensures.value at c.in_err-funcs.ensures.value));
    }

-- the module that was read
abbrev read_module : (g : _) → goal.In_ok-funcs g → Module
read_module g c =
    module_of c.in_ok-types.types.items c.in_ok-imports.imports.items c.in_ok-funcs.funcs.items c.in_ok-tables.tables.items c.in_ok-memories.memories.items
    c.in_ok-globals.globals.items c.in_ok-exports.exports.items c.in_ok-start.start c.in_ok-elements.elements.items c.in_ok-funcs.datas.items

whole_is : (g : _) (c : goal.In_ok-funcs g) → module_at c.args.bytes.now ≡ Some (read_module g c)
whole_is g c =
    let whole = module_is c.args.bytes.now c.in_ok-rest.rest.now c.in_ok-rest-2.rest.now
    (map func_type_view c.in_ok-types.types.items, c.in_ok-types.rest.now) (map import_view c.in_ok-imports.imports.items, c.in_ok-imports.rest.now)
    (c.in_ok-indices.indices.items, c.in_ok-indices.rest.now)
    (map limits_view c.in_ok-tables.tables.items, c.in_ok-tables.rest.now)
    (map limits_view c.in_ok-memories.memories.items, c.in_ok-memories.rest.now)
    (map global_view c.in_ok-globals.globals.items, c.in_ok-globals.rest.now)
    (map export_view c.in_ok-exports.exports.items, c.in_ok-exports.rest.now)
    (c.in_ok-start.start, c.in_ok-start.rest.now) (map element_view c.in_ok-elements.elements.items, c.in_ok-elements.rest.now)
    c.in_ok-rest.ensures.value c.in_ok-rest-2.ensures.value c.in_ok-types.ensures.value c.in_ok-imports.ensures.value
    (rw c.new-none.ensures.items at c.in_ok-indices.ensures.value)
    c.in_ok-tables.ensures.value c.in_ok-memories.ensures.value c.in_ok-globals.ensures.value c.in_ok-exports.ensures.value c.in_ok-start.ensures.value c.in_ok-elements.ensures.value in
    whole ∙ ap (option_map _) (rw c.deref.ensures.value at c.in_ok-funcs.ensures.value)

pub invariant_of-result-clause-fits : goal.invariant_of-result-clause-fits
invariant_of-result-clause-fits g c =
    numbers_fit c.args.bytes.now (read_module g c) (all_bytes c.args.bytes.now c.type_inv.bytes) (whole_is g c)

pub invariant_of-result-clause-short : goal.invariant_of-result-clause-short
invariant_of-result-clause-short g c =
    shortest_fits c.args.bytes.now (read_module g c) (all_bytes c.args.bytes.now c.type_inv.bytes) c.requires.small (whole_is g c)

pub invariant_of-result-clause-numbered : goal.invariant_of-result-clause-numbered
invariant_of-result-clause-numbered g c =
    let t = c.in_ok-funcs in
    all_are_numbered t.funcs.items c.in_ok-globals.globals.items c.in_ok-elements.elements.items t.datas.items
    t.ensures.funcs_numbered c.in_ok-globals.ensures.numbered c.in_ok-elements.ensures.numbered t.ensures.datas_numbered

pub returns : goal.returns
returns g c =
    let t = c.in_ok-funcs in
    let whole = module_is c.args.bytes.now c.in_ok-rest.rest.now c.in_ok-rest-2.rest.now
    (map func_type_view c.in_ok-types.types.items, c.in_ok-types.rest.now) (map import_view c.in_ok-imports.imports.items, c.in_ok-imports.rest.now)
    (c.in_ok-indices.indices.items, c.in_ok-indices.rest.now)
    (map limits_view c.in_ok-tables.tables.items, c.in_ok-tables.rest.now)
    (map limits_view c.in_ok-memories.memories.items, c.in_ok-memories.rest.now)
    (map global_view c.in_ok-globals.globals.items, c.in_ok-globals.rest.now)
    (map export_view c.in_ok-exports.exports.items, c.in_ok-exports.rest.now)
    (c.in_ok-start.start, c.in_ok-start.rest.now) (map element_view c.in_ok-elements.elements.items, c.in_ok-elements.rest.now)
    c.in_ok-rest.ensures.value c.in_ok-rest-2.ensures.value c.in_ok-types.ensures.value c.in_ok-imports.ensures.value
    (rw c.new-none.ensures.items at c.in_ok-indices.ensures.value)
    c.in_ok-tables.ensures.value c.in_ok-memories.ensures.value c.in_ok-globals.ensures.value c.in_ok-exports.ensures.value c.in_ok-start.ensures.value c.in_ok-elements.ensures.value in
    record { value = whole ∙ ap (option_map _) (rw c.deref.ensures.value at t.ensures.value) }
