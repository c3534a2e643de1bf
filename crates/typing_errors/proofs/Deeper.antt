-- A sequence within another.
use Rattle.std.proofs.Common.{◌≡◌, ◌<◌, ◌⊎◌, ℕ, zero, suc, List, [], ◌∷◌, Option, Some, None, Result, Ok, Err, IfOk, IfSome, Vec, length, get_or, reverse, inl, inr, refl, sym, ap, subst, ◌∙◌, arith, rules}
use Rattle.wtypes.specs.declared.ValType.{ValType}
use Rattle.spec_modules.specs.Syntax as syntax
use Rattle.module_tree.specs.declared.instr.Instr.{Instr, the_lemmas}
use Rattle.module_tree.specs.declared.instr.Instr as tree
use Rattle.module_tree.specs.View.{instr_view, instrs_view}
use Rattle.typing_errors.specs.Sites.{IsInside, IsDeeper, IsWithin}

is_of : {X : Type 0} (x y : X) → Some x ≡ Some y → x ≡ y
is_of x y e = cc

deeper_at : {A : Type 0} (body : List (Instr A)) (x : Instr A) (i : ℕ) (labels labels' : List (Option ValType)) (is : syntax.Instrs) → i < length body → x ≡ get_or body i x → IsInside labels (instr_view x) labels' is → IsDeeper labels (instrs_view body) labels' is
deeper_at [] x i labels labels' is lt at h = absurd (omega arith)
deeper_at (y ∷ body) x zero labels labels' is lt at h = inl (subst (λ z. IsInside labels (instr_view z) labels' is) at h)
deeper_at (y ∷ body) x (suc i) labels labels' is lt at h = inr (deeper_at body x i labels labels' is (omega arith) at h)

-- in a block of an instruction of the body
pub under_one : {A X : Type 0} (body : List (Instr A)) (x : Instr A) (i : ℕ) (here labels labels' : List (Option ValType)) (r : Option X) (found : X) (sequence : X → syntax.Instrs) → i < length body → x ≡ get_or body i x → here ≡ labels →
    r ≡ Some found → IfSome r (λ f. IsInside (reverse here) (instr_view x) labels' (sequence f)) → IsWithin (reverse labels) (instrs_view body) labels' (sequence found)
under_one body x i here labels labels' None found sequence lt at same e h = cc
under_one {A} {X} body x i here labels labels' (Some f) found sequence lt at same e h =
    let P : List (Option ValType) → Type 0 = λ ls. IsInside (reverse ls) (instr_view x) labels' (sequence f) in
    let Q : X → Type 0 = λ f. IsWithin (reverse labels) (instrs_view body) labels' (sequence f) in
    subst Q (is_of f found e) (inr (deeper_at body x i (reverse labels) labels' (sequence f) lt at (subst P same h)))

pub view_If : {A : Type 0} (n : ℕ) (r : Option ValType) (t e : Vec (Instr A) A) → instr_view (tree.If n r t e) ≡ syntax.If r (instrs_view t.items) (instrs_view e.items)
view_If n r t e = search (rules, the_lemmas)

-- in the second part of an `if`
pub in_else : {X E : Type 0} (r : Result (Option X) E) (sequence : X → syntax.Instrs) (here labels labels' : List (Option ValType)) (block : Option ValType) (on_true on_false : syntax.Instrs) (i : syntax.Instr) →
    i ≡ syntax.If block on_true on_false → here ≡ labels → IfOk r (λ found. IfSome found (λ x. IsWithin (block ∷ reverse here) on_false labels' (sequence x))) →
    IfOk r (λ found. IfSome found (λ x. IsInside (reverse labels) i labels' (sequence x)))
in_else (Err e) sequence here labels labels' block on_true on_false i is same h = tt
in_else (Ok None) sequence here labels labels' block on_true on_false i is same h = tt
in_else (Ok (Some x)) sequence here labels labels' block on_true on_false i is same h =
    let Q : List (Option ValType) → Type 0 = λ ls. IsWithin (block ∷ reverse ls) on_false labels' (sequence x) in
    let P : syntax.Instr → Type 0 = λ i. IsInside (reverse labels) i labels' (sequence x) in
    subst P (sym is) (inr (subst Q same h))
