use Rattle.std.proofs.Common.{◌≡◌, true, is_none, length, map, ap, sym, ◌∙◌, rules}
use Rattle.std.specs.List.{list_all}
use Rattle.std.proofs.lemmas.List.{length-map}
use Rattle.spec_typing.specs.Modules.{func_type_indices, tables, memories, globals, imported_globals}
use Rattle.module_tree.specs.ModuleView.{limits_view, global_type_view}
use Rattle.module_tree.specs.Modules.{module_view}
use Rattle.typing.specs.Tests.{global_passes, start_passes}
use Rattle.typing.proofs.Gathered.{elements_at, datas_at, exports_at, last_of_five, of_value}
use Rattle.typing.proofs.check.uses_fault.Goals as goal

pub returns : goal.returns
returns g c =
    let m = module_view c.args.tree.now in
    let s = c.args.spaces.now in
    let constants = map global_type_view c.imported-constants.result.now in
    let same : imported_globals m ≡ constants = sym c.imported-constants.ensures in
    let ts : length (tables m) ≡ length s.tables.items = ap length (sym c.requires.tables) ∙ length-map s.tables.items limits_view in
    let ms : length (memories m) ≡ length s.memories.items = ap length (sym c.requires.memories) ∙ length-map s.memories.items limits_view in
    let gs : length (globals m) ≡ length s.globals.items = ap length (sym c.requires.globals) ∙ length-map s.globals.items global_type_view in
    let fs : length (func_type_indices m) ≡ length s.funcs.items = ap length (sym c.requires.funcs) in
    let l1 : length s.tables.items ≡ c.len.result = search rules in
    let l2 : length s.funcs.items ≡ c.len-2.result = search rules in
    let l3 : length s.memories.items ≡ c.len-3.result = search rules in
    let n1 : is_none c.global_fault.result ≡ true = search rules in
    let n2 : is_none c.element_fault.result ≡ true = search rules in
    let n3 : is_none c.data_fault.result ≡ true = search rules in
    let n4 : is_none c.start_fault.result ≡ true = search rules in
    of_value _ _ (λ fault told.
    last_of_five _ _ _ _ _ _
    (ap (λ i. list_all (global_passes i) m.globals) same ∙ (sym c.global_fault.ensures ∙ n1))
    (elements_at _ _ _ _ _ _ m.elements (ts ∙ l1) (fs ∙ l2) same ∙ (sym c.element_fault.ensures ∙ n2))
    (datas_at _ _ _ _ m.datas (ms ∙ l3) same ∙ (sym c.data_fault.ensures ∙ n3))
    (ap (λ fs. start_passes m.types fs m.start) (sym c.requires.funcs) ∙ (sym c.start_fault.ensures ∙ n4))
    (told ∙ sym (exports_at _ _ _ _ _ _ _ _ m.exports fs ts ms gs)))
    c.export_fault.result c.export_fault.ensures
