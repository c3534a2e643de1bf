-- The ordinals of a module's expressions.
use Rattle.std.proofs.Common.{◌≡◌, ℕ, true, List, map, refl, ◌∙◌}
use Rattle.std.specs.List.{list_all}
use Rattle.std.proofs.lemmas.List.Folds.{list_all-map}
use Rattle.spec_modules.specs.Limits.{counts_from}
use Rattle.module_tree.specs.declared.module.Func.{Func}
use Rattle.module_tree.specs.declared.module.Global.{Global}
use Rattle.module_tree.specs.declared.module.Element.{Element}
use Rattle.module_tree.specs.declared.module.DataSegment.{DataSegment}
use Rattle.module_tree.specs.ModuleView.{func_ordinals, global_ordinals, element_ordinals, data_ordinals, all_numbered, are_numbered}

each_numbered : {X : Type 0} (f : X → List ℕ) (xs : List X) → list_all (λ x. counts_from 0 (f x)) xs ≡ true → all_numbered (map f xs) ≡ true
each_numbered f xs h = list_all-map (counts_from 0) f xs ∙ h

pub all_are_numbered : {A : Type 0} (funcs : List (Func A)) (globals : List (Global A)) (elements : List (Element A)) (datas : List (DataSegment A))
    → list_all (λ f. counts_from 0 (func_ordinals f)) funcs ≡ true
    → list_all (λ g. counts_from 0 (global_ordinals g)) globals ≡ true
    → list_all (λ e. counts_from 0 (element_ordinals e)) elements ≡ true
    → list_all (λ d. counts_from 0 (data_ordinals d)) datas ≡ true
    → are_numbered funcs globals elements datas ≡ true
all_are_numbered funcs globals elements datas f g e d =
    rw (each_numbered func_ordinals funcs f, each_numbered global_ordinals globals g, each_numbered element_ordinals elements e, each_numbered data_ordinals datas d) refl
