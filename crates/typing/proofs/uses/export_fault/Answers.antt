use Rattle.std.proofs.Common.{◌≡◌, ◌<◌, Bool, true, false, not, length, get_or, refl, sym, ap, ◌∙◌, string_bytes, arith, rules}
use Rattle.typing.specs.Names.{has_name}
use Rattle.typing.specs.Tests.{export_passes}
use Rattle.module_tree.specs.ModuleView.{export_desc_view}
use Rattle.typing.proofs.Exported.{one_passes, one_named}
use Rattle.typing.proofs.uses.export_fault.Goals as goal

false_of : (b new : Bool) → new ≡ true → new ≡ not b → b ≡ false
false_of true new p q = cc
false_of false new p q = refl

pub loop-export-preserved : goal.loop-export-preserved
loop-export-preserved g c =
    let es = c.args.exports.now.items in
    let s = c.args.spaces.now in
    let i = c.loop-export.export-index in
    let x = c.export-item.result in
    let lt : i < length es = omega arith in
    let at : x ≡ get_or es i x = search rules in
    let name : c.as_str.result.now ≡ string_bytes x.name = search rules in
    let is_new : c.in_ok-is_new.is_new ≡ true = search rules in
    let there : export_passes (length s.funcs.items) (length s.tables.items) (length s.memories.items) (length s.globals.items) (export_desc_view x.desc) ≡ true = search rules in
    let fresh : has_name c.loop-export.names (string_bytes x.name) ≡ false = false_of _ c.in_ok-is_new.is_new is_new (c.in_ok-is_new.ensures.is_new ∙ ap (λ n. not (has_name c.loop-export.names n)) name) in (
      one_passes _ es i x _ lt at (sym (c.loop-export.invariant.1 (string_bytes x.name)) ∙ fresh) there c.loop-export.invariant.0,
      λ n. one_named es i x n _ _ lt at (c.loop-export.invariant.1 n) (rw (sym name) (c.in_ok-is_new.ensures.names n)),
    )
