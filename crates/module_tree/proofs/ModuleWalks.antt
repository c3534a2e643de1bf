-- The parts of a module, as far as a loop has come.
use Rattle.std.proofs.Common.{◌≡◌, ℕ, ◌+◌, ◌<◌, ◌≤◌, max, List, length, get_or, drop, map, sym, ap, ◌∙◌, arith}
use Rattle.std.proofs.lemmas.List.{drop_more}
use Rattle.spec_modules.specs.Syntax as syntax
use Rattle.spec_modules.specs.Shape.{instrs_depth}
use Rattle.module_tree.specs.declared.module.Func.{Func}
use Rattle.module_tree.specs.declared.module.Import.{Import}
use Rattle.module_tree.specs.View.{instrs_view}
use Rattle.module_tree.specs.ModuleView.{func_view, import_view, import_desc_view}
use Rattle.module_tree.specs.Readers.{deepest, imported_funcs, func_count}

pub deepest_next : {A : Type 0} (fs : List (Func A)) (f : Func A) (i : ℕ) → i < length fs → f ≡ get_or fs i f
    → deepest (map func_view (drop i fs)) ≡ max (instrs_depth (instrs_view f.body.items)) (deepest (map func_view (drop (i + 1) fs)))
deepest_next fs f i lt at =
    ap (λ l. deepest (map func_view l)) (drop_more fs i f lt) ∙ ap (λ g. max (instrs_depth (func_view g).body) (deepest (map func_view (drop (i + 1) fs)))) (sym at)

pub deepest_rest : {A : Type 0} (fs : List (Func A)) (f : Func A) (i d : ℕ) → i < length fs → f ≡ get_or fs i f
    → max d (deepest (map func_view (drop i fs))) ≡ deepest (map func_view fs) → instrs_depth (instrs_view f.body.items) ≤ deepest (map func_view fs)
deepest_rest fs f i d lt at so_far = omega (arith, deepest_next fs f i lt at)

pub imported_next : {A : Type 0} (is : List (Import A)) (x : Import A) (i : ℕ) → i < length is → x ≡ get_or is i x
    → imported_funcs (map import_view (drop i is)) ≡ func_count (import_desc_view x.desc) + imported_funcs (map import_view (drop (i + 1) is))
imported_next is x i lt at =
    ap (λ l. imported_funcs (map import_view l)) (drop_more is i x lt) ∙ ap (λ y. func_count (import_view y).desc + imported_funcs (map import_view (drop (i + 1) is))) (sym at)

pub func_count_small : (d : syntax.ImportDesc) → func_count d ≤ 1
func_count_small (syntax.ImportFunc t) = omega arith
func_count_small (syntax.ImportTable l) = omega arith
func_count_small (syntax.ImportMemory l) = omega arith
func_count_small (syntax.ImportGlobal g) = omega arith
