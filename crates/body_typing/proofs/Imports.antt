-- One more import of a loop over imports.
use Rattle.std.proofs.Common.{◌≡◌, ℕ, ◌+◌, ◌<◌, List, [], ◌∷◌, ◌++◌, Option, Some, None, length, get_or, drop, map, refl, sym, ap, ◌∙◌, append_assoc}
use Rattle.std.specs.List.{filter_map, cons_option}
use Rattle.std.proofs.lemmas.List.{drop_more}
use Rattle.spec_modules.specs.Syntax as syntax
use Rattle.module_tree.specs.declared.module.Import.{Import}
use Rattle.module_tree.specs.ModuleView.{import_view}
use Rattle.body_typing.specs.Spaces.{after_import}

one_put : {X : Type 0} (xs rest : List X) (o : Option X) → after_import xs o ++ rest ≡ xs ++ cons_option o rest
one_put xs rest None = refl
one_put xs rest (Some x) = append_assoc xs (x ∷ []) rest

pub import_more : {A X : Type 0} (f : syntax.ImportDesc → Option X) (xs ys total : List X) (imports : List (Import A)) (i : ℕ) (x : Import A) → i < length imports → x ≡ get_or imports i x →
    ys ≡ after_import xs (f (import_view x).desc) → xs ++ filter_map (λ (i : syntax.Import). f i.desc) (map import_view (drop i imports)) ≡ total →
    ys ++ filter_map (λ (i : syntax.Import). f i.desc) (map import_view (drop (i + 1) imports)) ≡ total
import_more {A} {X} f xs ys total imports i x lt at put so_far =
    let rest = filter_map (λ (i : syntax.Import). f i.desc) (map import_view (drop (i + 1) imports)) in
    let here : drop i imports ≡ x ∷ drop (i + 1) imports = drop_more imports i x lt ∙ ap (λ y. y ∷ drop (i + 1) imports) (sym at) in
    ap (λ ys. ys ++ rest) put ∙ one_put xs rest (f (import_view x).desc)
    ∙ ap (λ is. xs ++ filter_map (λ (i : syntax.Import). f i.desc) (map import_view is)) (sym here) ∙ so_far
