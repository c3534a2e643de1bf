-- What instructions that pass find.
use Rattle.std.proofs.Common.{◌≡◌, ℕ, Bool, List, Option, Some, None, Result, Ok, Err, IfOk, reverse, map, ◌++◌, slice_get, option_map, option_and_then, sym, ap, ◌∙◌, subst, refl}
use Rattle.wtypes.specs.declared.ValType.{ValType}
use Rattle.spec_modules.specs.Syntax as syntax
use Rattle.spec_typing.specs.Modules.{type_at}
use Rattle.spec_typing.specs.Principal.{Stack, arrow, leave, pop_types}
use Rattle.typing.specs.Takes.{finds, is_there}
use Rattle.typing.specs.declared.takes.Takes.{Takes}

map_there : {X Y : Type 0} (f : X → Y) (o : Option X) → is_there o ≡ is_there (option_map f o)
map_there f None = refl
map_there f (Some x) = refl

pub arrow_there : (types types' : List ValType) → types ≡ types' → (gives : List ValType) (s : Stack) → is_there (pop_types (reverse types) s.any_below s.top) ≡ is_there (arrow (reverse types') gives s)
arrow_there types types' e gives s = ap (λ ts. is_there (pop_types (reverse ts) s.any_below s.top)) e ∙ map_there _ (pop_types (reverse types') s.any_below s.top)

pub leave_there : (types types' : List ValType) → types ≡ types' → (s : Stack) → is_there (pop_types (reverse types) s.any_below s.top) ≡ is_there (leave (reverse types') s)
leave_there types types' e s = ap (λ ts. is_there (pop_types (reverse ts) s.any_below s.top)) e ∙ map_there _ (pop_types (reverse types') s.any_below s.top)

pub call_at : {E : Type 0} (r : Result Takes E) (types : List syntax.FuncType) (funcs : List ℕ) (n : ℕ) (type : syntax.FuncType) → slice_get (map (type_at types) funcs) n ≡ Some type →
    IfOk r (λ takes. (gives : List ValType) (s : Stack) → finds takes s ≡ is_there (arrow (reverse type.params) gives s)) →
    IfOk r (λ takes. (s : Stack) → finds takes s ≡ is_there (option_and_then (λ type. arrow (reverse type.params) (reverse type.results) s) (slice_get (map (type_at types) funcs) n)))
call_at (Err e) types funcs n type is h = tt
call_at (Ok takes) types funcs n type is h = λ s.
    let P : Option syntax.FuncType → Type 0 = λ o. finds takes s ≡ is_there (option_and_then (λ type. arrow (reverse type.params) (reverse type.results) s) o) in
    subst P (sym is) (h (reverse type.results) s)
