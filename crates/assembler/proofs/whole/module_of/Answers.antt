use Rattle.std.proofs.Common.{map, ◌∙◌}
use Rattle.std.proofs.lemmas.Result.{err_from_is_err_and}
use Rattle.module_tree.specs.ModuleView.{func_type_view}
use Rattle.module_tree.specs.Modules.{module_view}
use Rattle.text_tree.specs.Views.{fields_of}
use Rattle.text_resolve.specs.Views.{spaces_of}
use Rattle.text_fields.proofs.Parting.{hand_on}
use Rattle.assembler.specs.PartsView.{parts_view, with_types}
use Rattle.assembler.specs.ListsView.{lists_view}
use Rattle.assembler.proofs.Naming.{not_made}
use Rattle.assembler.proofs.Sealing.{sealed_resolves, sealed_fits, not_sealed}
use Rattle.assembler.proofs.whole.module_of.Goals as goal

pub returns-in_err-parts-clause-refused : goal.returns-in_err-parts-clause-refused
returns-in_err-parts-clause-refused g c =
    let fields = fields_of c.args.tree.now in
    let s = spaces_of c.in_ok-spaces.spaces in
    let p = err_from_is_err_and c.from_residual-in_err-parts.result c.from_residual-in_err-parts.ensures.1 in
    rw (p.1, p.2) (hand_on c.in_err-parts.field-0.0 (not_made fields s c.no_text_has_two_lists_of_spaces.ensures c.reading_of_fields_is_exact.ensures c.in_ok-spaces.ensures.spaces) c.in_err-parts.ensures.parts)

pub returns-in-Ok-clause-resolves : goal.returns-in-Ok-clause-resolves
returns-in-Ok-clause-resolves g c =
    let fields = fields_of c.args.tree.now in
    let s = spaces_of c.in_ok-spaces.spaces in
    let m = with_types (map func_type_view c.in_ok-spaces.spaces.types.items) (parts_view c.in_ok-parts.parts) in
    sealed_resolves fields s m (module_view c.in-Ok.module) c.reading_of_fields_is_exact.ensures c.in_ok-spaces.ensures.spaces c.in_ok-parts.ensures.parts (c.in-Ok.ensures.same ∙ c.lists_of.ensures.same)

pub returns-in-Ok-clause-fits : goal.returns-in-Ok-clause-fits
returns-in-Ok-clause-fits g c =
    let fields = fields_of c.args.tree.now in
    let s = spaces_of c.in_ok-spaces.spaces in
    let m = with_types (map func_type_view c.in_ok-spaces.spaces.types.items) (parts_view c.in_ok-parts.parts) in
    sealed_fits fields s m (module_view c.in-Ok.module) c.reading_of_fields_is_exact.ensures c.in_ok-parts.ensures.parts (c.in-Ok.ensures.same ∙ c.lists_of.ensures.same) c.in-Ok.module.fits c.in-Ok.module.short

pub returns-clause-refused : goal.returns-clause-refused
returns-clause-refused g c =
    let fields = fields_of c.args.tree.now in
    let s = spaces_of c.in_ok-spaces.spaces in
    let types = map func_type_view c.in_ok-spaces.spaces.types.items in
    not_sealed fields s types (parts_view c.in_ok-parts.parts) (lists_view c.lists_of.result) c.no_text_has_two_lists_of_spaces.ensures c.reading_of_fields_is_exact.ensures c.in_ok-spaces.ensures.spaces c.in_ok-parts.ensures.parts
    c.in_ok-parts.ensures.in_range c.lists_of.ensures.same (c.in-Err-TooLarge.ensures.refused c.in-Err-TooLarge.field-0-is)
