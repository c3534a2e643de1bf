-- A body has no more instructions than its module's shortest spelling has bytes, and it is nested no deeper than its module is.
use Rattle.std.proofs.Common.{◌≡◌, ℕ, zero, suc, ◌-◌, ◌^◌, ◌<◌, ◌≤◌, true, List, [], ◌∷◌, length, Some, ap, ⊎_elim, arith, length-append, nat_le}
use Rattle.std.specs.Prelude.{slice_get}
use Rattle.std.specs.List.{list_all}
use Rattle.std.proofs.lemmas.Bool.{leb-true, cases_lt, lt-ltb, le-ltb}
use Rattle.spec_modules.specs.Syntax.{Instr, Plain, BrTable, Block, Loop, If, Instrs, nothing, seq, Func, Module}
use Rattle.spec_modules.specs.Shape.{instr_preorder, preorder, instrs_depth}
use Rattle.spec_modules.specs.Limits.{func_fits, expression_fits, module_fits, module_fits-means, first, second}
use Rattle.spec_modules.specs.Profile.{byte_limit, nesting_limit}
use Rattle.spec_modules.specs.Shortest.{shortest, instr_bytes, instrs_bytes, closing_bytes, run_bytes, vector_bytes, u32_bytes, code_bytes, list_section_bytes}
use Rattle.module_tree.specs.Readers.{deepest, imported_funcs, defined_func}

closing_size : (a : List ℕ) (e : Instrs) → length (preorder e) ≤ length a → length (preorder e) ≤ length (closing_bytes a e)
closing_size a nothing h = omega arith
closing_size a (seq i is) h = omega (arith, length-append a (11 ∷ []))

mutual
  instr_size : (i : Instr) → length (instr_preorder i) ≤ length (instr_bytes i)
  instr_size (Plain op) = omega arith
  instr_size (BrTable ls l) = omega arith
  instr_size (Block r b) = omega (arith, instrs_size b, length-append (instrs_bytes b) (11 ∷ []))
  instr_size (Loop r b) = omega (arith, instrs_size b, length-append (instrs_bytes b) (11 ∷ []))
  instr_size (If r t e) =
      omega (arith, instrs_size t, closing_size (instrs_bytes e) e (instrs_size e), length-append (preorder t) (preorder e), length-append (instrs_bytes t) (closing_bytes (instrs_bytes e) e))

  pub instrs_size : (is : Instrs) → length (preorder is) ≤ length (instrs_bytes is)
  instrs_size nothing = omega arith
  instrs_size (seq i is) =
      omega (arith, instr_size i, instrs_size is, length-append (instr_preorder i) (preorder is), length-append (instr_bytes i) (instrs_bytes is))

run_part : {X : Type 0} (f : X → List ℕ) (xs : List X) (k : ℕ) (x : X) → slice_get xs k ≡ Some x → length (f x) ≤ length (run_bytes f xs)
run_part f [] k x e = absurd cc
run_part f (y ∷ xs) zero x e =
    let same : y ≡ x = cc in
    let l = ap (λ z. length (f z)) same in
    omega (arith, l, length-append (f y) (run_bytes f xs))
run_part f (y ∷ xs) (suc k) x e = omega (arith, run_part f xs k x e, length-append (f y) (run_bytes f xs))

section_part : {X : Type 0} (id : ℕ) (f : X → List ℕ) (xs : List X) (k : ℕ) (x : X) → slice_get xs k ≡ Some x → length (f x) ≤ length (list_section_bytes id f xs)
section_part id f [] k x e = absurd cc
section_part id f (y ∷ xs) k x e =
    let r = run_part f (y ∷ xs) k x e in
    let v = length-append (u32_bytes (length (y ∷ xs))) (run_bytes f (y ∷ xs)) in
    let s = length-append (u32_bytes (length (vector_bytes f (y ∷ xs)))) (vector_bytes f (y ∷ xs)) in
    omega (arith, r, v, s)

code_size : (f : Func) → length (preorder f.body) ≤ length (code_bytes f)
code_size f = simp length-append (omega (arith, instrs_size f.body))

body_size : (m : Module) (k : ℕ) (f : Func) → slice_get m.funcs k ≡ Some f → length (preorder f.body) ≤ length (shortest m)
body_size m k f e =
    let s = section_part 10 code_bytes m.funcs k f e in
    let c = code_size f in
    simp length-append (omega (arith, s, c))

at_place : (m : Module) (n : ℕ) (f : Func) → defined_func m n ≡ Some f → slice_get m.funcs (n - imported_funcs m.imports) ≡ Some f
at_place m n f e =
    ⊎_elim
    (λ l. absurd (let q = rw (lt-ltb n (imported_funcs m.imports) l) at e in cc))
    (λ l. rw (le-ltb n (imported_funcs m.imports) l) at e)
    (cases_lt n (imported_funcs m.imports))

pub defined_size : (m : Module) (n : ℕ) (f : Func) → nat_le (length (shortest m)) byte_limit ≡ true → defined_func m n ≡ Some f → length (preorder f.body) < 2 ^ 32
defined_size m n f short e =
    omega (arith, body_size m (n - imported_funcs m.imports) f (at_place m n f e), leb-true (length (shortest m)) byte_limit short)

pub deepest_part : (fs : List Func) (k : ℕ) (f : Func) → slice_get fs k ≡ Some f → instrs_depth f.body ≤ deepest fs
deepest_part [] k f e = absurd cc
deepest_part (y ∷ fs) zero f e = let l = ap (λ (z : Func). instrs_depth z.body) (let same : y ≡ f = cc in same) in omega (arith, l)
deepest_part (y ∷ fs) (suc k) f e = omega (arith, deepest_part fs k f e)

func_depth : (f : Func) → func_fits f ≡ true → instrs_depth f.body ≤ nesting_limit
unfolding expression_fits
func_depth f e = leb-true (instrs_depth f.body) nesting_limit (first _ _ (second _ _ (second _ _ e)))

all_depth : (fs : List Func) → list_all func_fits fs ≡ true → deepest fs ≤ nesting_limit
all_depth [] e = omega arith
all_depth (f ∷ fs) e = omega (arith, func_depth f (first _ _ e), all_depth fs (second _ _ e))

pub module_depth : (m : Module) → module_fits m ≡ true → deepest m.funcs ≤ 128
module_depth m e = all_depth m.funcs (second _ _ (module_fits-means m e).funcs)
