-- Expressions of one instruction.
use Rattle.std.proofs.Common.{◌≡◌, ◌≢◌, ℕ, List, [], ◌∷◌, Option, None, Vec, length, get_or, refl, sym, ap, ◌∙◌, arith, rules}
use Rattle.wtypes.specs.declared.ValType.{ValType}
use Rattle.wtypes.specs.declared.PlainInstr.{PlainInstr}
use Rattle.spec_modules.specs.Syntax as syntax
use Rattle.module_tree.specs.declared.instr.Instr.{Instr, the_lemmas}
use Rattle.module_tree.specs.declared.instr.Instr as tree
use Rattle.module_tree.specs.View.{instr_view, instrs_view}
use Rattle.module_tree.specs.Readers.{lone_plain}

several : (i j : syntax.Instr) (is : syntax.Instrs) → lone_plain (syntax.seq i (syntax.seq j is)) ≡ None
several (syntax.Plain op) j is = refl
several _ j is = refl

pub not_one : {A : Type 0} (is : List (Instr A)) → length is ≢ 1 → None ≡ lone_plain (instrs_view is)
not_one [] h = refl
not_one (x ∷ []) h = absurd (h refl)
not_one (x ∷ y ∷ is) h = sym (several (instr_view x) (instr_view y) (instrs_view is))

one_instr : {A : Type 0} (is : List (Instr A)) (x : Instr A) → length is ≡ 1 → x ≡ get_or is 0 x → instrs_view is ≡ syntax.seq (instr_view x) syntax.nothing
one_instr [] x e at = absurd (omega (arith, e))
one_instr (y ∷ []) x e at = ap (λ y. syntax.seq (instr_view y) syntax.nothing) (sym at)
one_instr (y ∷ z ∷ is) x e at = absurd (omega (arith, e))

-- what is said of the one instruction is said of the expression
pub lone_at : {A : Type 0} (is : List (Instr A)) (x : Instr A) (i : syntax.Instr) (o : Option PlainInstr) → length is ≡ 1 → x ≡ get_or is 0 x → instr_view x ≡ i →
    o ≡ lone_plain (syntax.seq i syntax.nothing) → o ≡ lone_plain (instrs_view is)
lone_at is x i o one at same h = h ∙ sym (ap lone_plain (one_instr is x one at ∙ ap (λ i. syntax.seq i syntax.nothing) same))

pub view_Plain : (A : Type 0) (n : ℕ) (op : PlainInstr) → instr_view {A = A} (tree.Plain n op) ≡ syntax.Plain op
view_Plain A n op = search (rules, the_lemmas)

pub view_BrTable : {A : Type 0} (n : ℕ) (ls : Vec ℕ A) (l : ℕ) → instr_view {A = A} (tree.BrTable n ls l) ≡ syntax.BrTable ls.items l
view_BrTable n ls l = search (rules, the_lemmas)

pub view_Block : {A : Type 0} (n : ℕ) (r : Option ValType) (b : Vec (Instr A) A) → instr_view (tree.Block n r b) ≡ syntax.Block r (instrs_view b.items)
view_Block n r b = search (rules, the_lemmas)

pub view_Loop : {A : Type 0} (n : ℕ) (r : Option ValType) (b : Vec (Instr A) A) → instr_view (tree.Loop n r b) ≡ syntax.Loop r (instrs_view b.items)
view_Loop n r b = search (rules, the_lemmas)

pub view_If : {A : Type 0} (n : ℕ) (r : Option ValType) (t e : Vec (Instr A) A) → instr_view (tree.If n r t e) ≡ syntax.If r (instrs_view t.items) (instrs_view e.items)
view_If n r t e = search (rules, the_lemmas)
