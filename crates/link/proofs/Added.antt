-- The host calls so far, with that of one more import.
use Rattle.std.proofs.Common.{◌≡◌, ◌<◌, ◌+◌, ℕ, List, [], ◌∷◌, ◌++◌, Option, Some, None, length, get_or, map, drop, sym, ap, ◌∙◌, append_assoc}
use Rattle.std.specs.List.{filter_map, cons_option}
use Rattle.std.proofs.lemmas.List.{drop_more}
use Rattle.wtypes.specs.declared.HostCall.{HostCall}
use Rattle.spec_modules.specs.Syntax as syntax
use Rattle.module_tree.specs.declared.module.Import.{Import}
use Rattle.module_tree.specs.ModuleView.{import_view}

one_by_one : (calls : List HostCall) (o : Option HostCall) (rest : List HostCall) → (calls ++ cons_option o []) ++ rest ≡ calls ++ cons_option o rest
one_by_one calls None rest = append_assoc calls [] rest
one_by_one calls (Some c) rest = append_assoc calls (c ∷ []) rest

module _ {A : Type 0} (f : syntax.Import → Option HostCall) where
  rest_of : (is : List (Import A)) (i : ℕ) (x : Import A) → i < length is → x ≡ get_or is i x → filter_map f (map import_view (drop i is)) ≡ cons_option (f (import_view x)) (filter_map f (map import_view (drop (i + 1) is)))
  rest_of is i x lt at = ap (λ is. filter_map f (map import_view is)) (drop_more is i x lt ∙ ap (λ y. y ∷ drop (i + 1) is) (sym at))

  pub call_more : (calls calls' : List HostCall) (o : Option HostCall) (is : List (Import A)) (i : ℕ) (x : Import A) → i < length is → x ≡ get_or is i x → o ≡ f (import_view x) → calls' ≡ calls ++ cons_option o [] →
      calls ++ filter_map f (map import_view (drop i is)) ≡ filter_map f (map import_view is) → calls' ++ filter_map f (map import_view (drop (i + 1) is)) ≡ filter_map f (map import_view is)
  call_more calls calls' o is i x lt at same new so_far =
      let rest = filter_map f (map import_view (drop (i + 1) is)) in
      ap (λ cs. cs ++ rest) new ∙ (one_by_one calls o rest ∙ (ap (λ o. calls ++ cons_option o rest) same ∙ (ap (λ cs. calls ++ cs) (sym (rest_of is i x lt at)) ∙ so_far)))
