-- A whole module: what is read is spelled so and keeps the limits, and what is spelled so and keeps them is read. So no
-- bytes spell two trees.
use Rattle.std.proofs.Common.{◌≡◌, ℕ, zero, suc, ◌<◌, ◌≤◌, true, eqb, List, [], ◌∷◌, ◌++◌, length, Option, Some, None, refl, sym, ap, subst, ◌∙◌, arith}
use Rattle.std.specs.List.{All}
use Rattle.std.proofs.lemmas.Bool.{eqb-true, eq-eqb}
use Rattle.spec_modules.specs.Syntax.{Instrs, Global, Element, DataSegment, Module}
use Rattle.spec_modules.specs.Profile.{function_limit}
use Rattle.spec_modules.specs.Language.{Language, ◌⨾◌}
use Rattle.spec_modules.specs.Leb.{unsigned}
use Rattle.spec_modules.specs.Grammar.{vector, func_type, import, table_type, limits, global, export, element, code, data_segment, customs, header, module_grammar}
use Rattle.spec_modules.specs.Spells.{ExpressionFits, FuncFits, ModuleFits, Spells}
use Rattle.spec_modules.specs.Reading.{Read, ◌>>=◌}
use Rattle.spec_modules.specs.NumberLaws.{kept}
use Rattle.laws_modules.specs.ReadingExpressions.{byte_at}
use Rattle.laws_modules.specs.Readers.{Reads, Each, each_any, vector_reads, bind_then, same_some, byte_takes}
use Rattle.laws_modules.specs.ExpressionLaws.{FitsIn}
use Rattle.laws_modules.specs.ReadingModules.{if_empty, skip, slot_at, header_at, module_at}
use Rattle.laws_modules.specs.ItemLaws.{func_type_reads, import_reads, table_type_reads, limits_reads, GlobalIn, global_reads, export_reads, ElementIn, element_reads, DataIn, data_reads}
use Rattle.laws_modules.specs.SectionLaws.{Opens, slot, skip_takes, slot_again, slot_takes}
use Rattle.laws_modules.specs.SectionLaws.{skip_all}
use Rattle.laws_modules.specs.ReaderLaws.{empty_then, append_nil}
use Rattle.laws_modules.specs.ModuleLaws.{list_slot, slot_list, start_reads, start_slot, slot_start, indices_reads, FuncIn, indices_of, length_indices, entries_reads, funcs_if, no_funcs, tail_0, tail_1, tail_2, tail_3, tail_4, tail_5, tail_6, tail_7, tail_8, tail_9, tail_10, tail_11, swap, opens_0, opens_1, opens_2, opens_3, opens_4, opens_5, opens_6, opens_7, opens_8, opens_9, opens_10, opens_11}

abbrev head : List ℕ
head = 0x00 ∷ 0x61 ∷ 0x73 ∷ 0x6D ∷ 0x01 ∷ 0x00 ∷ 0x00 ∷ 0x00 ∷ []

header_again : (a rest : List ℕ) → header a → header_at (a ++ rest) ≡ Some rest
unfolding header_at byte_at
header_again a rest s = ap (λ l. header_at (l ++ rest)) s

more_head : (k : ℕ) (bs mid front rest : List ℕ) → bs ≡ k ∷ mid → mid ≡ front ++ rest → bs ≡ (k ∷ front) ++ rest
more_head k bs mid front rest e f = e ∙ ap (λ l. k ∷ l) f

header_takes : (bs rest : List ℕ) → header_at bs ≡ Some rest → bs ≡ head ++ rest
unfolding header_at
header_takes bs rest e =
    bind_then _ _ _ e (λ b1 h1 e.
    bind_then _ _ _ e (λ b2 h2 e.
    bind_then _ _ _ e (λ b3 h3 e.
    bind_then _ _ _ e (λ b4 h4 e.
    bind_then _ _ _ e (λ b5 h5 e.
    bind_then _ _ _ e (λ b6 h6 e.
    bind_then _ _ _ e (λ b7 h7 e.
    more_head 0x00 bs b1 (0x61 ∷ 0x73 ∷ 0x6D ∷ 0x01 ∷ 0x00 ∷ 0x00 ∷ 0x00 ∷ []) rest (byte_takes 0x00 bs b1 h1) (more_head 0x61 b1 b2 (0x73 ∷ 0x6D ∷ 0x01 ∷ 0x00 ∷ 0x00 ∷ 0x00 ∷ []) rest (byte_takes 0x61 b1 b2 h2) (more_head 0x73 b2 b3 (0x6D ∷ 0x01 ∷ 0x00 ∷ 0x00 ∷ 0x00 ∷ []) rest (byte_takes 0x73 b2 b3 h3) (more_head 0x6D b3 b4 (0x01 ∷ 0x00 ∷ 0x00 ∷ 0x00 ∷ []) rest (byte_takes 0x6D b3 b4 h4) (more_head 0x01 b4 b5 (0x00 ∷ 0x00 ∷ 0x00 ∷ []) rest (byte_takes 0x01 b4 b5 h5) (more_head 0x00 b5 b6 (0x00 ∷ 0x00 ∷ []) rest (byte_takes 0x00 b5 b6 h6) (more_head 0x00 b6 b7 (0x00 ∷ []) rest (byte_takes 0x00 b6 b7 h7) (byte_takes 0x00 b7 rest e))))))))))))))

-- ---- limits

all_each : {X : Type 0} {P Q : X → Type 0} (xs : List X) → ((x : X) → P x → Q x) → All P xs → Each Q xs
all_each [] f h = tt
all_each (x ∷ xs) f h = (f x (h 0 x (omega arith)), all_each xs f (λ k d lt. h (suc k) d (omega (arith, lt))))

each_all : {X : Type 0} {P Q : X → Type 0} (xs : List X) → ((x : X) → P x → Q x) → Each P xs → All Q xs
each_all [] f h k d lt = absurd (omega (arith, lt))
each_all (x ∷ xs) f h zero d lt = f x h.0
each_all (x ∷ xs) f h (suc k) d lt = each_all xs f h.1 k d (omega (arith, lt))

in_from : (is : Instrs) → ExpressionFits is → FitsIn 129 is
in_from is f = record { depth = omega (arith, f.depth); labels = f.labels }

fits_from : (is : Instrs) → FitsIn 129 is → ExpressionFits is
fits_from is f = record { depth = omega (arith, f.depth); labels = f.labels }

-- the limits, but that on the shortest spelling
pub record ModuleIn (m : Module) : Type 0 where
  pub funcs : length m.funcs ≤ function_limit
  pub bodies : Each FuncIn m.funcs
  pub globals : Each GlobalIn m.globals
  pub elements : Each ElementIn m.elements
  pub datas : Each DataIn m.datas

pub module_in : (m : Module) → ModuleFits m → ModuleIn m
module_in m f = record {
  funcs = f.funcs;
  bodies = all_each {P = FuncFits} m.funcs (λ x p. (p.locals, in_from x.body p.body)) f.bodies;
  globals = all_each m.globals (λ x p. in_from x.init p) f.globals;
  elements = all_each m.elements (λ x p. in_from x.offset p) f.elements;
  datas = all_each m.datas (λ x p. in_from x.offset p) f.datas;
}

pub bodies_fit : (m : Module) → ModuleIn m → All FuncFits m.funcs
bodies_fit m f = each_all {Q = FuncFits} m.funcs (λ x p. record { locals = p.0; body = fits_from x.body p.1 }) f.bodies

pub globals_fit : (m : Module) → ModuleIn m → All (λ (g : Global). ExpressionFits g.init) m.globals
globals_fit m f = each_all m.globals (λ x p. fits_from x.init p) f.globals

pub elements_fit : (m : Module) → ModuleIn m → All (λ (e : Element). ExpressionFits e.offset) m.elements
elements_fit m f = each_all m.elements (λ x p. fits_from x.offset p) f.elements

pub datas_fit : (m : Module) → ModuleIn m → All (λ (d : DataSegment). ExpressionFits d.offset) m.datas
datas_fit m f = each_all m.datas (λ x p. fits_from x.offset p) f.datas

-- ---- what is spelled so is read

next_slot : {X : Type 0} {P : X → Type 0} {F : X → Language} {r : List ℕ → Read X} (h : Reads P P F r) (id : ℕ) (some : 0 < id) (absent : X)
    (T : Language) (x : X) → P x → Opens id T → (t b : List ℕ) → (customs ⨾ slot id F absent x ⨾ T) t → skip t ≡ Some b
    → (u : List ℕ) × (v : List ℕ) × T u × (skip u ≡ Some v) × (slot_at id r absent b ≡ Some (x, v))
next_slot {X} {P} {F} {r} h id some absent T x p opens t b s e =
    let n = slot_again h id some absent T x p opens t s in
    let same : n.1 ≡ b = same_some n.1 b (sym n.4 ∙ e) in
    (n.0, n.2, n.3, n.5, subst (λ c. slot_at id r absent c ≡ Some (x, n.2)) same n.6)

next_then : {X R : Type 0} {P : X → Type 0} {F : X → Language} {r : List ℕ → Read X} (h : Reads P P F r) (id : ℕ) (some : 0 < id) (absent : X)
    (T : Language) (x : X) → P x → Opens id T → (t b : List ℕ) → (customs ⨾ slot id F absent x ⨾ T) t → skip t ≡ Some b
    → ((u v : List ℕ) → T u → skip u ≡ Some v → slot_at id r absent b ≡ Some (x, v) → R) → R
next_then h id some absent T x p opens t b s e k =
    let n = next_slot h id some absent T x p opens t b s e in
    k n.0 n.1 n.2 n.3 n.4

then_is : {A B : Type 0} (o : Option A) (f : A → Option B) (x : A) (y : Option B) → o ≡ Some x → f x ≡ y → (o >>= f) ≡ y
then_is o f x y e h = ap (λ z. z >>= f) e ∙ h

pub module_again : (m : Module) (bytes : List ℕ) → module_grammar m bytes → ModuleIn m → module_at bytes ≡ Some m
unfolding module_at
module_again m bytes g fits =
    let count : length (indices_of m.funcs) ≤ function_limit = omega (arith, length_indices m.funcs, fits.funcs) in
    let start : header_at bytes ≡ Some g.1 = ap header_at g.2 ∙ header_again g.0 g.1 g.3 in
    let o = opens_0 m g.1 g.4 in
    next_then (vector_reads func_type_reads) 1 (omega arith) [] (tail_1 m) m.types (each_any m.types) (opens_1 m) g.1 o.0 (swap (list_slot 1 func_type m.types) g.1 g.4) o.1 (λ u1 v1 g1 e1 q1.
    next_then (vector_reads import_reads) 2 (omega arith) [] (tail_2 m) m.imports (each_any m.imports) (opens_2 m) u1 v1 (swap (list_slot 2 import m.imports) u1 g1) e1 (λ u2 v2 g2 e2 q2.
    next_then (indices_reads) 3 (omega arith) [] (tail_3 m) (indices_of m.funcs) count (opens_3 m) u2 v2 (swap (list_slot 3 (unsigned 32) (indices_of m.funcs)) u2 g2) e2 (λ u3 v3 g3 e3 q3.
    next_then (vector_reads table_type_reads) 4 (omega arith) [] (tail_4 m) m.tables (each_any m.tables) (opens_4 m) u3 v3 (swap (list_slot 4 table_type m.tables) u3 g3) e3 (λ u4 v4 g4 e4 q4.
    next_then (vector_reads limits_reads) 5 (omega arith) [] (tail_5 m) m.memories (each_any m.memories) (opens_5 m) u4 v4 (swap (list_slot 5 limits m.memories) u4 g4) e4 (λ u5 v5 g5 e5 q5.
    next_then (vector_reads global_reads) 6 (omega arith) [] (tail_6 m) m.globals fits.globals (opens_6 m) u5 v5 (swap (list_slot 6 global m.globals) u5 g5) e5 (λ u6 v6 g6 e6 q6.
    next_then (vector_reads export_reads) 7 (omega arith) [] (tail_7 m) m.exports (each_any m.exports) (opens_7 m) u6 v6 (swap (list_slot 7 export m.exports) u6 g6) e6 (λ u7 v7 g7 e7 q7.
    next_then (start_reads) 8 (omega arith) None (tail_8 m) m.start tt (opens_8 m) u7 v7 (swap (start_slot m.start) u7 g7) e7 (λ u8 v8 g8 e8 q8.
    next_then (vector_reads element_reads) 9 (omega arith) [] (tail_9 m) m.elements fits.elements (opens_9 m) u8 v8 (swap (list_slot 9 element m.elements) u8 g8) e8 (λ u9 v9 g9 e9 q9.
    next_then (entries_reads (indices_of m.funcs)) 10 (omega arith) [] (tail_10 m) m.funcs (refl, fits.bodies) (opens_10 m) u9 v9 (swap (list_slot 10 code m.funcs) u9 g9) e9 (λ u10 v10 g10 e10 q10.
    next_then (vector_reads data_reads) 11 (omega arith) [] (tail_11 m) m.datas fits.datas (opens_11 m) u10 v10 (swap (list_slot 11 data_segment m.datas) u10 g10) e10 (λ u11 v11 g11 e11 q11.
    let done : v11 ≡ [] = same_some v11 [] (sym e11 ∙ skip_all u11 g11) in
    let all : eqb (length m.funcs) (length (indices_of m.funcs)) ≡ true = eq-eqb (length m.funcs) (length (indices_of m.funcs)) (sym (length_indices m.funcs)) in
    then_is _ _ _ _ start (then_is _ _ _ _ o.1 (then_is _ _ _ _ q1 (then_is _ _ _ _ q2 (then_is _ _ _ _ q3 (then_is _ _ _ _ q4 (then_is _ _ _ _ q5 (then_is _ _ _ _ q6 (then_is _ _ _ _ q7 (then_is _ _ _ _ q8 (then_is _ _ _ _ q9 (then_is _ _ _ _ q10 (then_is _ _ _ _ q11 (rw (all, done) refl))))))))))))))))))))))))

-- ---- what is read is spelled so

pub module_takes : (bytes : List ℕ) (m : Module) → module_at bytes ≡ Some m → module_grammar m bytes × ModuleIn m
unfolding module_at
module_takes bytes m e =
    bind_then _ _ _ e (λ b h e. bind_then _ _ _ e (λ b0 h0 e.
    bind_then _ _ _ e (λ x1 h1 e.
    bind_then _ _ _ e (λ x2 h2 e.
    bind_then _ _ _ e (λ x3 h3 e.
    bind_then _ _ _ e (λ x4 h4 e.
    bind_then _ _ _ e (λ x5 h5 e.
    bind_then _ _ _ e (λ x6 h6 e.
    bind_then _ _ _ e (λ x7 h7 e.
    bind_then _ _ _ e (λ x8 h8 e.
    bind_then _ _ _ e (λ x9 h9 e.
    bind_then _ _ _ e (λ x10 h10 e.
    bind_then _ _ _ e (λ x11 h11 e.
    let M : Module = record { types = x1.0; imports = x2.0; funcs = x10.0; tables = x4.0; memories = x5.0; globals = x6.0; exports = x7.0; start = x8.0; elements = x9.0; datas = x11.0 } in
    let k = kept (eqb (length x10.0) (length x3.0)) (if_empty M x11.1) m e in
    let sk = skip_takes (length b) b b0 (omega arith) h0 in
    let t1 = slot_takes (vector_reads func_type_reads) (λ x p. p) 1 [] tt b0 x1.0 x1.1 h1 in
    let t2 = slot_takes (vector_reads import_reads) (λ x p. p) 2 [] tt x1.1 x2.0 x2.1 h2 in
    let t3 = slot_takes (indices_reads) (λ x p. p) 3 [] (omega arith) x2.1 x3.0 x3.1 h3 in
    let t4 = slot_takes (vector_reads table_type_reads) (λ x p. p) 4 [] tt x3.1 x4.0 x4.1 h4 in
    let t5 = slot_takes (vector_reads limits_reads) (λ x p. p) 5 [] tt x4.1 x5.0 x5.1 h5 in
    let t6 = slot_takes (vector_reads global_reads) (λ x p. p) 6 [] tt x5.1 x6.0 x6.1 h6 in
    let t7 = slot_takes (vector_reads export_reads) (λ x p. p) 7 [] tt x6.1 x7.0 x7.1 h7 in
    let t8 = slot_takes (start_reads) (λ x p. p) 8 None tt x7.1 x8.0 x8.1 h8 in
    let t9 = slot_takes (vector_reads element_reads) (λ x p. p) 9 [] tt x8.1 x9.0 x9.1 h9 in
    let t10 = slot_takes (entries_reads x3.0) (funcs_if x3.0) 10 [] (no_funcs x3.0) x9.1 x10.0 x10.1 h10 in
    let t11 = slot_takes (vector_reads data_reads) (λ x p. p) 11 [] tt x10.1 x11.0 x11.1 h11 in
    let same : indices_of x10.0 ≡ x3.0 = t10.5.0 (eqb-true (length x10.0) (length x3.0) k.0) in
    let count : length x10.0 ≤ function_limit = omega (arith, ap length same, length_indices x10.0, t3.5) in
    empty_then M x11.1 m k.1 (λ p q.
    let g11 : tail_11 M (t11.1 ++ x11.1) = subst customs (sym (ap (λ l. t11.1 ++ l) q ∙ append_nil t11.1)) t11.4 in
    let g10 : tail_10 M (t10.1 ++ x10.1) = (t10.1, x10.1, refl, t10.4, (t11.0, t11.1 ++ x11.1, t11.2, (slot_list 11 data_segment x11.0 t11.0 t11.3), g11)) in
    let g9 : tail_9 M (t9.1 ++ x9.1) = (t9.1, x9.1, refl, t9.4, (t10.0, t10.1 ++ x10.1, t10.2, (slot_list 10 code x10.0 t10.0 t10.3), g10)) in
    let g8 : tail_8 M (t8.1 ++ x8.1) = (t8.1, x8.1, refl, t8.4, (t9.0, t9.1 ++ x9.1, t9.2, (slot_list 9 element x9.0 t9.0 t9.3), g9)) in
    let g7 : tail_7 M (t7.1 ++ x7.1) = (t7.1, x7.1, refl, t7.4, (t8.0, t8.1 ++ x8.1, t8.2, (slot_start x8.0 t8.0 t8.3), g8)) in
    let g6 : tail_6 M (t6.1 ++ x6.1) = (t6.1, x6.1, refl, t6.4, (t7.0, t7.1 ++ x7.1, t7.2, (slot_list 7 export x7.0 t7.0 t7.3), g7)) in
    let g5 : tail_5 M (t5.1 ++ x5.1) = (t5.1, x5.1, refl, t5.4, (t6.0, t6.1 ++ x6.1, t6.2, (slot_list 6 global x6.0 t6.0 t6.3), g6)) in
    let g4 : tail_4 M (t4.1 ++ x4.1) = (t4.1, x4.1, refl, t4.4, (t5.0, t5.1 ++ x5.1, t5.2, (slot_list 5 limits x5.0 t5.0 t5.3), g5)) in
    let g3 : tail_3 M (t3.1 ++ x3.1) = (t3.1, x3.1, refl, t3.4, (t4.0, t4.1 ++ x4.1, t4.2, (slot_list 4 table_type x4.0 t4.0 t4.3), g4)) in
    let g2 : tail_2 M (t2.1 ++ x2.1) = (t2.1, x2.1, refl, t2.4, (t3.0, t3.1 ++ x3.1, t3.2, (slot_list 3 (unsigned 32) (indices_of x10.0) t3.0 (subst (λ l. slot 3 (vector (unsigned 32)) [] l t3.0) (sym same) t3.3)), g3)) in
    let g1 : tail_1 M (t1.1 ++ x1.1) = (t1.1, x1.1, refl, t1.4, (t2.0, t2.1 ++ x2.1, t2.2, (slot_list 2 import x2.0 t2.0 t2.3), g2)) in
    let g0 : tail_0 M b = (sk.0, b0, sk.1, sk.2, (t1.0, t1.1 ++ x1.1, t1.2, (slot_list 1 func_type x1.0 t1.0 t1.3), g1)) in
    let Found : Module → Type 0 = λ z. module_grammar z bytes × ModuleIn z in
    let limits : ModuleIn M = record { funcs = count; bodies = t10.5.1; globals = t6.5; elements = t9.5; datas = t11.5 } in
    subst Found p ((head, b, header_takes bytes b h, refl, g0), limits)))))))))))))))

pub one_tree : (bytes : List ℕ) (m n : Module) → Spells bytes m → Spells bytes n → m ≡ n
one_tree bytes m n s t = same_some m n (sym (module_again m bytes s.grammar (module_in m s.tree_fits)) ∙ module_again n bytes t.grammar (module_in n t.tree_fits))
