-- Exports by name, from the last to the first.
use Rattle.std.proofs.Common.{◌≡◌, ℕ, zero, suc, ◌<◌, Bool, true, false, cond, List, [], ◌∷◌, Option, Some, length, map, drop, option_map, slice_index_or, string_bytes, refl, sym, ap, ◌∙◌, arith}
use Rattle.std.specs.Prelude.{String, if◌then◌else◌}
use Rattle.std.specs.BTreeMap.{BTreeMap, get_by_text}
use Rattle.std.specs.Str.{bytes_eq}
use Rattle.std.specs.Cmp.Lexicographic.{nat_list_eq_equiv}
use Rattle.module_tree.specs.declared.module.Export.{Export}
use Rattle.module_tree.specs.declared.module.ExportDesc.{ExportDesc}
use Rattle.module_tree.specs.ModuleView.{export_view, export_desc_view}
use Rattle.spec_modules.specs.Syntax.{Name}
use Rattle.spec_execution.specs.Run.{exported}
use Rattle.link.specs.Exports.{AreExports}

-- the exports from this one on are it and those behind it
from_here : {A : Type 0} (es : List (Export A)) (k : ℕ) (e : Export A) → k < length es → e ≡ slice_index_or es k e → map export_view (drop k es) ≡ export_view e ∷ map export_view (drop (suc k) es)
from_here [] k e lt is = absurd (omega (arith, lt))
from_here (f ∷ es) zero e lt is = ap (λ (x : Export _). export_view x ∷ map export_view es) (sym is)
from_here (f ∷ es) (suc k) e lt is = from_here es k e (omega (arith, lt)) is

chosen : (b : Bool) (d : ExportDesc) (o : Option ExportDesc) → option_map export_desc_view (cond b (Some d) o) ≡ (if b then Some (export_desc_view d) else option_map export_desc_view o)
chosen true d o = refl
chosen false d o = refl

pub named_more : {A : Type 0} (old new : BTreeMap (String A) ExportDesc) (es : List (Export A)) (k : ℕ) (e : Export A) → k < length es → e ≡ slice_index_or es k e
    → ((q : Name) → get_by_text new q ≡ cond (bytes_eq (string_bytes e.name) q) (Some e.desc) (get_by_text old q)) → AreExports old (map export_view (drop (suc k) es)) → AreExports new (map export_view (drop k es))
named_more old new es k e lt is put before = λ q.
    ap (option_map export_desc_view) (put q)
    ∙ chosen (bytes_eq (string_bytes e.name) q) e.desc (get_by_text old q)
    ∙ ap (λ (b : Bool). if b then Some (export_desc_view e.desc) else option_map export_desc_view (get_by_text old q)) (nat_list_eq_equiv.symm (string_bytes e.name) q)
    ∙ ap (λ o. if bytes_eq q (string_bytes e.name) then Some (export_desc_view e.desc) else o) (before q)
    ∙ sym (ap (exported q) (from_here es k e lt is))
