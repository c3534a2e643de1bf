-- The function of a number.
use Rattle.std.proofs.Common.{◌≡◌, ℕ, ◌+◌, ◌-◌, ◌<◌, ◌≤◌, List, map, length, get_or, slice_get, Some, option_map, sym, ap, ◌∙◌, arith}
use Rattle.std.proofs.lemmas.Bool.{le-ltb}
use Rattle.std.proofs.lemmas.Option.{slice_get-map, slice_get-get_or}
use Rattle.spec_modules.specs.Syntax.{Func, Module}
use Rattle.module_tree.specs.Readers.{imported_funcs, defined_func}

-- the item of a list of views
pub item_at : {X Y : Type 0} (view : X → Y) (xs : List X) (x : X) (i : ℕ) → i < length xs → x ≡ get_or xs i x → slice_get (map view xs) i ≡ Some (view x)
item_at view xs x i lt at = slice_get-map view xs i ∙ (ap (option_map view) (slice_get-get_or xs i x lt) ∙ ap (λ y. Some (view y)) (sym at))

pub defined_at : (m : Module) (n k : ℕ) (f : Func) → n ≡ imported_funcs m.imports + k → slice_get m.funcs k ≡ Some f → defined_func m n ≡ Some f
defined_at m n k f at there =
    let le : imported_funcs m.imports ≤ n = omega (arith, at) in
    let off : n - imported_funcs m.imports ≡ k = omega (arith, at) in
    rw (le-ltb n (imported_funcs m.imports) le) (ap (slice_get m.funcs) off ∙ there)
