-- Lists from their last to their first.
use Rattle.std.proofs.Common.{◌≡◌, ℕ, true, Bool, List, [], ◌∷◌, ◌++◌, map, reverse, Option, refl, sym, ap, ◌∙◌}
use Rattle.std.specs.Prelude.{◌&&◌}
use Rattle.std.specs.List.{list_all}
use Rattle.std.proofs.lemmas.List.{map-append, reverse-append}
use Rattle.std.proofs.lemmas.List.Folds.{list_all-append}
use Rattle.spec_modules.specs.Limits.{both, first, second, counts_from}
use Rattle.wtypes.specs.declared.FuncType.{FuncType}
use Rattle.wtypes.specs.declared.Limits.{Limits}
use Rattle.module_tree.specs.declared.module.Import.{Import}
use Rattle.module_tree.specs.declared.module.Export.{Export}
use Rattle.module_tree.specs.declared.module.Func.{Func}
use Rattle.module_tree.specs.declared.module.Global.{Global}
use Rattle.module_tree.specs.declared.module.Element.{Element}
use Rattle.module_tree.specs.declared.module.DataSegment.{DataSegment}
use Rattle.module_tree.specs.ModuleView.{module_of, func_type_view, import_view, func_view, limits_view, global_view, export_view, element_view, data_view, all_numbered, are_numbered, func_ordinals, global_ordinals, element_ordinals, data_ordinals}

map_turned : {X Y : Type 0} (v : X → Y) (xs : List X) → map v (reverse xs) ≡ reverse (map v xs)
map_turned v [] = refl
map_turned v (x ∷ xs) =
    ap (map v) (reverse-append (x ∷ []) xs) ∙ map-append v (reverse xs) (x ∷ []) ∙ ap (λ l. l ++ v x ∷ []) (map_turned v xs) ∙ sym (reverse-append (v x ∷ []) (map v xs))

-- the module of lists that are turned
pub view_turned : {A : Type 0} (types : List (FuncType A)) (imports : List (Import A)) (funcs : List (Func A)) (tables memories : List Limits) (globals : List (Global A)) (exports : List (Export A))
    (start : Option ℕ) (elements : List (Element A)) (datas : List (DataSegment A))
    → module_of types (reverse imports) (reverse funcs) (reverse tables) (reverse memories) (reverse globals) (reverse exports) start (reverse elements) (reverse datas) ≡ record {
      types = map func_type_view types;
      imports = reverse (map import_view imports);
      funcs = reverse (map func_view funcs);
      tables = reverse (map limits_view tables);
      memories = reverse (map limits_view memories);
      globals = reverse (map global_view globals);
      exports = reverse (map export_view exports);
      start = start;
      elements = reverse (map element_view elements);
      datas = reverse (map data_view datas);
    }
view_turned types imports funcs tables memories globals exports start elements datas = simp map_turned

all_turned : {X : Type 0} (p : X → Bool) (xs : List X) → list_all p xs ≡ true → list_all p (reverse xs) ≡ true
all_turned p [] e = refl
all_turned p (x ∷ xs) e =
    ap (list_all p) (reverse-append (x ∷ []) xs) ∙ list_all-append p (reverse xs) (x ∷ [])
    ∙ both (list_all p (reverse xs)) (list_all p (x ∷ [])) (all_turned p xs (second (p x) (list_all p xs) e)) (both (p x) true (first (p x) (list_all p xs) e) refl)

numbers_turned : {X : Type 0} (f : X → List ℕ) (xs : List X) → all_numbered (map f xs) ≡ true → all_numbered (map f (reverse xs)) ≡ true
numbers_turned f xs e = ap all_numbered (map_turned f xs) ∙ all_turned (counts_from 0) (map f xs) e

-- ordinals do not change
pub numbered_turned : {A : Type 0} (funcs : List (Func A)) (globals : List (Global A)) (elements : List (Element A)) (datas : List (DataSegment A))
    → are_numbered funcs globals elements datas ≡ true → are_numbered (reverse funcs) (reverse globals) (reverse elements) (reverse datas) ≡ true
numbered_turned funcs globals elements datas e =
    let f = all_numbered (map func_ordinals funcs) in
    let g = all_numbered (map global_ordinals globals) in
    let x = all_numbered (map element_ordinals elements) in
    let d = all_numbered (map data_ordinals datas) in
    let rest = second f (g && (x && d)) e in
    let last = second g (x && d) rest in
    both (all_numbered (map func_ordinals (reverse funcs))) (all_numbered (map global_ordinals (reverse globals)) && (all_numbered (map element_ordinals (reverse elements)) && all_numbered (map data_ordinals (reverse datas))))
    (numbers_turned func_ordinals funcs (first f (g && (x && d)) e))
    (both (all_numbered (map global_ordinals (reverse globals))) (all_numbered (map element_ordinals (reverse elements)) && all_numbered (map data_ordinals (reverse datas)))
    (numbers_turned global_ordinals globals (first g (x && d) rest))
    (both (all_numbered (map element_ordinals (reverse elements))) (all_numbered (map data_ordinals (reverse datas)))
    (numbers_turned element_ordinals elements (first x d last)) (numbers_turned data_ordinals datas (second x d last))))
