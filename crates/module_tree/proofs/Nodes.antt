-- The defined function of a number, and the ordinals in its body.
use Rattle.std.proofs.Common.{◌≡◌, ℕ, zero, suc, ◌+◌, ◌-◌, ◌≤◌, true, List, [], ◌∷◌, map, Option, Some, None, IfSome, Bor, nat_eq, refl, sym, ap, ◌∙◌, arith}
use Rattle.std.specs.Prelude.{slice_get, option_map}
use Rattle.std.proofs.lemmas.Bool.{le-ltb}
use Rattle.std.proofs.lemmas.Bool.Decides.{nat_tests}
use Rattle.spec_modules.specs.Limits.{counts_from, first, second}
use Rattle.spec_modules.specs.Syntax as syntax
use Rattle.module_tree.specs.declared.module.Func.{Func}
use Rattle.module_tree.specs.declared.instr.Instr.{Instr}
use Rattle.module_tree.specs.View.{ordinal_of}
use Rattle.module_tree.specs.ModuleView.{func_view, func_ordinals, all_numbered}
use Rattle.module_tree.specs.Readers.{imported_funcs, defined_func}

-- ordinals that rise by one from a first: the one at a place
pub rising_at : (from : ℕ) (ns : List ℕ) (k n : ℕ) → counts_from from ns ≡ true → slice_get ns k ≡ Some n → n ≡ from + k
rising_at from [] k n h e = absurd cc
rising_at from (x ∷ ns) zero n h e =
    let same : x ≡ n = cc in
    let at : nat_eq x from ≡ true = first _ _ h in
    grind (arith, nat_tests)
rising_at from (x ∷ ns) (suc k) n h e = omega (arith, rising_at (from + 1) ns k n (second _ _ h) e)

pub all_rising : (lists : List (List ℕ)) (k : ℕ) (ns : List ℕ) → all_numbered lists ≡ true → slice_get lists k ≡ Some ns → counts_from 0 ns ≡ true
all_rising [] k ns h e = absurd cc
all_rising (l ∷ lists) zero ns h e = let same : l ≡ ns = cc in ap (counts_from 0) (sym same) ∙ first _ _ h
all_rising (l ∷ lists) (suc k) ns h e = all_rising lists k ns (second _ _ h) e

pub got_map : {X Y : Type 0} (f : X → Y) (xs : List X) (k : ℕ) (x : X) → slice_get xs k ≡ Some x → slice_get (map f xs) k ≡ Some (f x)
got_map f [] k x e = absurd cc
got_map f (y ∷ xs) zero x e = let same : y ≡ x = cc in ap (λ z. Some (f z)) same
got_map f (y ∷ xs) (suc k) x e = got_map f xs k x e

-- what is lent is the function there
pub lent_view : {A : Type 0} (fs : List (Func A)) (k : ℕ) (o : Option (Bor (Func A))) → option_map (λ f. f.now) o ≡ slice_get fs k
    → option_map (λ f. func_view f.now) o ≡ slice_get (map func_view fs) k
lent_view [] k None e = refl
lent_view [] k (Some x) e = cc
lent_view (f ∷ fs) zero None e = cc
lent_view (f ∷ fs) zero (Some x) e = let same : x.now ≡ f = cc in ap (λ g. Some (func_view g)) same
lent_view (f ∷ fs) (suc k) o e = lent_view fs k o e

pub defined_at : (m : syntax.Module) (n k : ℕ) → imported_funcs m.imports ≤ n → k ≡ n - imported_funcs m.imports → slice_get m.funcs k ≡ defined_func m n
defined_at m n k le is = rw (le-ltb n (imported_funcs m.imports) le, is) refl

pub lent_numbered : {A : Type 0} (fs : List (Func A)) (k : ℕ) (o : Option (Bor (Func A))) → option_map (λ f. f.now) o ≡ slice_get fs k → all_numbered (map func_ordinals fs) ≡ true
    → IfSome o (λ f. counts_from 0 (func_ordinals f.now) ≡ true)
lent_numbered fs k None e h = tt
lent_numbered fs k (Some f) e h = all_rising (map func_ordinals fs) k (func_ordinals f.now) h (got_map func_ordinals fs k f.now (sym e))

-- the instruction found in a body whose ordinals rise by one from 0
pub node_at : {A : Type 0} (ns : List ℕ) (n : ℕ) (o : Option (Bor (Instr A))) → counts_from 0 ns ≡ true → IfSome o (λ i. slice_get ns n ≡ Some (ordinal_of i.now)) → IfSome o (λ i. ordinal_of i.now ≡ n)
node_at ns n None h e = tt
node_at ns n (Some i) h e = omega (arith, rising_at 0 ns n (ordinal_of i.now) h e)
