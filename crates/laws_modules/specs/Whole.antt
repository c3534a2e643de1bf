-- The shortest spelling of a module within its limits spells that module.
use Rattle.std.proofs.Common.{◌≡◌, ℕ, zero, suc, ◌<◌, ◌≤◌, Bool, true, ◌&&◌, List, [], ◌∷◌, ◌++◌, length, nat_le, map, Option, Some, None, refl, sym, ap, subst, inl, arith, append_assoc, length-append}
use Rattle.std.specs.List.{list_all, All}
use Rattle.std.proofs.lemmas.Bool.{leb-true}
use Rattle.spec_modules.specs.Syntax.{Instr, Plain, BrTable, Block, Loop, If, Instrs, nothing, seq, Limits, Func, Global, Element, DataSegment, Module}
use Rattle.spec_modules.specs.Shape.{instrs_depth}
use Rattle.spec_modules.specs.Profile.{byte_limit, function_limit, local_limit, nesting_limit, label_limit}
use Rattle.spec_modules.specs.Limits.{is_u32, limits_fit, import_fits, instr_fits, instrs_fit, expression_fits, func_fits, global_fits, export_fits, start_fits, element_fits, data_fits, module_fits, module_fits-means, first, second, both}
use Rattle.spec_modules.specs.Language.{Language, ◌⨾◌}
use Rattle.spec_modules.specs.Leb.{u32}
use Rattle.spec_modules.specs.Grammar.{vector, header, func_type, import, table_type, limits, global, export, element, code, data_segment, customs, list_section, start_section, module_grammar}
use Rattle.spec_modules.specs.Shortest.{u32_bytes, vector_bytes, func_type_bytes, import_bytes, table_type_bytes, limits_bytes, global_type_bytes, global_bytes, export_bytes, element_bytes, code_bytes, data_segment_bytes, expression_bytes, sized_bytes, list_section_bytes, start_bytes, shortest}
use Rattle.spec_modules.specs.Spells.{InstrLabelsFit, LabelsFit, ExpressionFits, FuncFits, ModuleFits, Spells}
use Rattle.laws_modules.specs.ShortestBytes.{AreBytes, all_below, join, u32_are_bytes, u32_some}
use Rattle.laws_modules.specs.ShortestSpellings.{IsSmall, small_left, small_right, u32_spelled, vector_spelled}
use Rattle.laws_modules.specs.ItemBytes.{func_type_are_bytes, limits_are_bytes, table_type_are_bytes, import_are_bytes, export_are_bytes, global_are_bytes, element_are_bytes, data_are_bytes, code_are_bytes, section_are_bytes, start_are_bytes}
use Rattle.laws_modules.specs.Modules.{func_type_spelled, limits_spelled, limits_some, table_type_spelled, import_is_named, import_spelled, import_some, export_is_named, export_spelled, export_some, global_spelled, element_spelled, element_some, data_spelled, data_some, code_spelled, code_some, sized_spelled}

-- each name of an import or export is UTF-8
unfoldable pub names_are_utf8 : Module → Bool
names_are_utf8 m = list_all import_is_named m.imports && list_all export_is_named m.exports

all_both : {X : Type 0} (p q : X → Bool) (xs : List X) → list_all p xs ≡ true → list_all q xs ≡ true → list_all (λ x. p x && q x) xs ≡ true
all_both p q [] e f = refl
all_both p q (x ∷ xs) e f =
    both (p x && q x) (list_all (λ x. p x && q x) xs) (both (p x) (q x) (first (p x) (list_all p xs) e) (first (q x) (list_all q xs) f))
    (all_both p q xs (second (p x) (list_all p xs) e) (second (q x) (list_all q xs) f))

all_map : {X Y : Type 0} (p : Y → Bool) (v : X → Y) (xs : List X) → list_all (λ x. p (v x)) xs ≡ true → list_all p (map v xs) ≡ true
all_map p v [] e = refl
all_map p v (x ∷ xs) e = both (p (v x)) (list_all p (map v xs)) (first (p (v x)) (list_all (λ x. p (v x)) xs) e) (all_map p v xs (second (p (v x)) (list_all (λ x. p (v x)) xs) e))

all_weaker : {X : Type 0} (p q : X → Bool) → ((x : X) → p x ≡ true → q x ≡ true) → (xs : List X) → list_all p xs ≡ true → list_all q xs ≡ true
all_weaker p q w [] e = refl
all_weaker p q w (x ∷ xs) e = both (q x) (list_all q xs) (w x (first (p x) (list_all p xs) e)) (all_weaker p q w xs (second (p x) (list_all p xs) e))

any : {X : Type 0} (xs : List X) → list_all (λ (x : X). true) xs ≡ true
any [] = refl
any (x ∷ xs) = any xs

-- ---- Sections

section_spelled : {X : Type 0} (id : ℕ) (F : X → Language) (f : X → List ℕ) (test : X → Bool) → ((x : X) → test x ≡ true → IsSmall (f x) → F x (f x)) → ((x : X) → 0 < length (f x))
    → (xs : List X) → list_all test xs ≡ true → IsSmall (list_section_bytes id f xs) → list_section id F xs (list_section_bytes id f xs)
section_spelled id F f test spelled some [] e s = inl refl
section_spelled id F f test spelled some (x ∷ xs) e s =
    let v = vector_bytes f (x ∷ xs) in
    let within : IsSmall (sized_bytes v) = omega arith in
    (id ∷ [], sized_bytes v, refl, refl, sized_spelled (vector F (x ∷ xs)) v within (vector_spelled F f test spelled some (x ∷ xs) e (small_right (u32_bytes (length v)) v within)))

start_spelled : (o : Option ℕ) → start_fits o ≡ true → IsSmall (start_bytes o) → start_section o (start_bytes o)
start_spelled None e s = refl
start_spelled (Some f) e s =
    let within : IsSmall (sized_bytes (u32_bytes f)) = omega arith in
    (8 ∷ [], sized_bytes (u32_bytes f), refl, refl, sized_spelled (u32 f) (u32_bytes f) within (u32_spelled f e))

global_some : (x : Global) → 0 < length (global_bytes x)
global_some x = omega (arith, length-append (global_type_bytes x.type) (expression_bytes x.init))

append_nil : (l : List ℕ) → l ++ [] ≡ l
append_nil [] = refl
append_nil (x ∷ l) = ap (λ k. x ∷ k) (append_nil l)

to_right : (h a b c d e f g s i j k : List ℕ)
    → ((((((((((h ++ a) ++ b) ++ c) ++ d) ++ e) ++ f) ++ g) ++ s) ++ i) ++ j) ++ k ≡ h ++ (a ++ (b ++ (c ++ (d ++ (e ++ (f ++ (g ++ (s ++ (i ++ (j ++ (k ++ [])))))))))))
to_right h a b c d e f g s i j k = simp (append_assoc, append_nil)

no_customs : customs []
no_customs = (0, refl)

-- a section, and no custom section behind it
after_it : (P Q : Language) (a b : List ℕ) → P a → Q b → (P ⨾ customs ⨾ Q) (a ++ b)
after_it P Q a b p q = (a, b, refl, p, ([], b, refl, no_customs, q))

indices_fit : (fs : List Func) → list_all func_fits fs ≡ true → list_all is_u32 (map (λ (f : Func). f.type_index) fs) ≡ true
indices_fit fs e = all_map is_u32 (λ (f : Func). f.type_index) fs (all_weaker func_fits (λ (f : Func). is_u32 f.type_index) (λ f h. first _ _ h) fs e)

pub grammar_of_shortest : (m : Module) → module_fits m ≡ true → names_are_utf8 m ≡ true → IsSmall (shortest m) → module_grammar m (shortest m)
unfolding names_are_utf8
grammar_of_shortest m fits named small =
    let h : List ℕ = 0x00 ∷ 0x61 ∷ 0x73 ∷ 0x6D ∷ 0x01 ∷ 0x00 ∷ 0x00 ∷ 0x00 ∷ [] in
    let a = list_section_bytes 1 func_type_bytes m.types in
    let b = list_section_bytes 2 import_bytes m.imports in
    let c = list_section_bytes 3 u32_bytes (map (λ (f : Func). f.type_index) m.funcs) in
    let d = list_section_bytes 4 table_type_bytes m.tables in
    let e = list_section_bytes 5 limits_bytes m.memories in
    let f = list_section_bytes 6 global_bytes m.globals in
    let g = list_section_bytes 7 export_bytes m.exports in
    let s = start_bytes m.start in
    let i = list_section_bytes 9 element_bytes m.elements in
    let j = list_section_bytes 10 code_bytes m.funcs in
    let k = list_section_bytes 11 data_segment_bytes m.datas in
    let p = module_fits-means m fits in
    let rk = k ++ [] in
    let rj = j ++ rk in
    let ri = i ++ rj in
    let rs = s ++ ri in
    let rg = g ++ rs in
    let rf = f ++ rg in
    let re = e ++ rf in
    let rd = d ++ re in
    let rc = c ++ rd in
    let rb = b ++ rc in
    let ra = a ++ rb in
    let order : shortest m ≡ h ++ ra = to_right h a b c d e f g s i j k in
    let w0 : IsSmall (h ++ ra) = subst IsSmall order small in
    let w1 = small_right h ra w0 in
    let w2 = small_right a rb w1 in
    let w3 = small_right b rc w2 in
    let w4 = small_right c rd w3 in
    let w5 = small_right d re w4 in
    let w6 = small_right e rf w5 in
    let w7 = small_right f rg w6 in
    let w8 = small_right g rs w7 in
    let w9 = small_right s ri w8 in
    let w10 = small_right i rj w9 in
    let w11 = small_right j rk w10 in
    let funcs = second (nat_le (length m.funcs) function_limit) (list_all func_fits m.funcs) p.funcs in
    subst (module_grammar m) (sym order)
    (after_it header _ h ra refl
    (after_it (list_section 1 func_type m.types) _ a rb (section_spelled 1 func_type func_type_bytes (λ t. true) (λ t _. func_type_spelled t) (λ t. omega arith) m.types (any m.types) (small_left a rb w1))
    (after_it (list_section 2 import m.imports) _ b rc (section_spelled 2 import import_bytes (λ x. import_fits x && import_is_named x) import_spelled import_some m.imports (all_both import_fits import_is_named m.imports p.imports (first (list_all import_is_named m.imports) (list_all export_is_named m.exports) named)) (small_left b rc w2))
    (after_it (list_section 3 u32 (map (λ (f : Func). f.type_index) m.funcs)) _ c rd (section_spelled 3 u32 u32_bytes is_u32 (λ n t _. u32_spelled n t) u32_some (map (λ (f : Func). f.type_index) m.funcs) (indices_fit m.funcs funcs) (small_left c rd w3))
    (after_it (list_section 4 table_type m.tables) _ d re (section_spelled 4 table_type table_type_bytes limits_fit (λ l t _. table_type_spelled l t) (λ l. omega arith) m.tables p.tables (small_left d re w4))
    (after_it (list_section 5 limits m.memories) _ e rf (section_spelled 5 limits limits_bytes limits_fit (λ l t _. limits_spelled l t) (λ l. limits_some l.min l.max) m.memories p.memories (small_left e rf w5))
    (after_it (list_section 6 global m.globals) _ f rg (section_spelled 6 global global_bytes global_fits global_spelled (λ x. global_some x) m.globals p.globals (small_left f rg w6))
    (after_it (list_section 7 export m.exports) _ g rs (section_spelled 7 export export_bytes (λ x. export_fits x && export_is_named x) export_spelled export_some m.exports (all_both export_fits export_is_named m.exports p.exports (second (list_all import_is_named m.imports) (list_all export_is_named m.exports) named)) (small_left g rs w7))
    (after_it (start_section m.start) _ s ri (start_spelled m.start p.start (small_left s ri w8))
    (after_it (list_section 9 element m.elements) _ i rj (section_spelled 9 element element_bytes element_fits element_spelled element_some m.elements p.elements (small_left i rj w9))
    (after_it (list_section 10 code m.funcs) _ j rk (section_spelled 10 code code_bytes func_fits code_spelled code_some m.funcs funcs (small_left j rk w10))
    (k, [], refl, section_spelled 11 data_segment data_segment_bytes data_fits data_spelled data_some m.datas p.datas (small_left k [] w11), no_customs))))))))))))

-- ---- Bytes

table_type_some : (l : Limits) → 0 < length (table_type_bytes l)
table_type_some l = omega arith

bytes_of_shortest : (m : Module) → module_fits m ≡ true → names_are_utf8 m ≡ true → AreBytes (shortest m)
unfolding names_are_utf8
bytes_of_shortest m fits named =
    let h : List ℕ = 0x00 ∷ 0x61 ∷ 0x73 ∷ 0x6D ∷ 0x01 ∷ 0x00 ∷ 0x00 ∷ 0x00 ∷ [] in
    let indices = map (λ (f : Func). f.type_index) m.funcs in
    let p = module_fits-means m fits in
    let imports = all_both import_fits import_is_named m.imports p.imports (first (list_all import_is_named m.imports) (list_all export_is_named m.exports) named) in
    let exports = all_both export_fits export_is_named m.exports p.exports (second (list_all import_is_named m.imports) (list_all export_is_named m.exports) named) in
    let funcs = second (nat_le (length m.funcs) function_limit) (list_all func_fits m.funcs) p.funcs in
    let a = list_section_bytes 1 func_type_bytes m.types in
    let b = list_section_bytes 2 import_bytes m.imports in
    let c = list_section_bytes 3 u32_bytes indices in
    let d = list_section_bytes 4 table_type_bytes m.tables in
    let e = list_section_bytes 5 limits_bytes m.memories in
    let f = list_section_bytes 6 global_bytes m.globals in
    let g = list_section_bytes 7 export_bytes m.exports in
    let s = start_bytes m.start in
    let i = list_section_bytes 9 element_bytes m.elements in
    let j = list_section_bytes 10 code_bytes m.funcs in
    let k = list_section_bytes 11 data_segment_bytes m.datas in
    let ha = h ++ a in
    let hb = ha ++ b in
    let hc = hb ++ c in
    let hd = hc ++ d in
    let he = hd ++ e in
    let hf = he ++ f in
    let hg = hf ++ g in
    let hs = hg ++ s in
    let hi = hs ++ i in
    let hj = hi ++ j in
    let to_a : AreBytes ha = join h a (λ s. refl) (section_are_bytes 1 func_type_bytes (λ t. true) refl (λ t _. func_type_are_bytes t) (λ t. omega arith) m.types (any m.types)) in
    let to_b : AreBytes hb = join ha b to_a (section_are_bytes 2 import_bytes (λ x. import_fits x && import_is_named x) refl import_are_bytes import_some m.imports imports) in
    let to_c : AreBytes hc = join hb c to_b (section_are_bytes 3 u32_bytes is_u32 refl u32_are_bytes u32_some indices (indices_fit m.funcs funcs)) in
    let to_d : AreBytes hd = join hc d to_c (section_are_bytes 4 table_type_bytes limits_fit refl table_type_are_bytes table_type_some m.tables p.tables) in
    let to_e : AreBytes he = join hd e to_d (section_are_bytes 5 limits_bytes limits_fit refl limits_are_bytes (λ l. limits_some l.min l.max) m.memories p.memories) in
    let to_f : AreBytes hf = join he f to_e (section_are_bytes 6 global_bytes global_fits refl global_are_bytes global_some m.globals p.globals) in
    let to_g : AreBytes hg = join hf g to_f (section_are_bytes 7 export_bytes (λ x. export_fits x && export_is_named x) refl export_are_bytes export_some m.exports exports) in
    let to_s : AreBytes hs = join hg s to_g (start_are_bytes m.start p.start) in
    let to_i : AreBytes hi = join hs i to_s (section_are_bytes 9 element_bytes element_fits refl element_are_bytes element_some m.elements p.elements) in
    let to_j : AreBytes hj = join hi j to_i (section_are_bytes 10 code_bytes func_fits refl code_are_bytes code_some m.funcs funcs) in
    join hj k to_j (section_are_bytes 11 data_segment_bytes data_fits refl data_are_bytes data_some m.datas p.datas)

-- ---- Limits

mutual
  instr_labels : (i : Instr) → instr_fits i ≡ true → InstrLabelsFit i
  instr_labels (Plain op) e = tt
  instr_labels (BrTable ls l) e = leb-true (length ls) label_limit (first (nat_le (length ls) label_limit) (list_all is_u32 ls && is_u32 l) e)
  instr_labels (Block r b) e = instrs_labels b e
  instr_labels (Loop r b) e = instrs_labels b e
  instr_labels (If r t d) e = (instrs_labels t (first (instrs_fit t) (instrs_fit d) e), instrs_labels d (second (instrs_fit t) (instrs_fit d) e))

  instrs_labels : (is : Instrs) → instrs_fit is ≡ true → LabelsFit is
  instrs_labels nothing e = tt
  instrs_labels (seq i is) e = (instr_labels i (first (instr_fits i) (instrs_fit is) e), instrs_labels is (second (instr_fits i) (instrs_fit is) e))

expression_limits : (is : Instrs) → expression_fits is ≡ true → ExpressionFits is
unfolding expression_fits
expression_limits is e = record {
  depth = leb-true (instrs_depth is) nesting_limit (first (nat_le (instrs_depth is) nesting_limit) (instrs_fit is) e);
  labels = instrs_labels is (second (nat_le (instrs_depth is) nesting_limit) (instrs_fit is) e);
}

func_limits : (f : Func) → func_fits f ≡ true → FuncFits f
func_limits f e =
    let rest = second (is_u32 f.type_index) (nat_le (length f.locals) local_limit && expression_fits f.body) e in
    record {
      locals = leb-true (length f.locals) local_limit (first (nat_le (length f.locals) local_limit) (expression_fits f.body) rest);
      body = expression_limits f.body (second (nat_le (length f.locals) local_limit) (expression_fits f.body) rest);
    }

all_of : {X : Type 0} (test : X → Bool) (P : X → Type 0) → ((x : X) → test x ≡ true → P x) → (xs : List X) → list_all test xs ≡ true → All P xs
all_of test P w [] e k d l = absurd (omega arith)
all_of test P w (x ∷ xs) e zero d l = w x (first (test x) (list_all test xs) e)
all_of test P w (x ∷ xs) e (suc k) d l = all_of test P w xs (second (test x) (list_all test xs) e) k d (omega arith)

module_limits : (m : Module) → module_fits m ≡ true → length (shortest m) ≤ byte_limit → ModuleFits m
module_limits m fits few =
    let p = module_fits-means m fits in
    record {
      funcs = leb-true (length m.funcs) function_limit (first (nat_le (length m.funcs) function_limit) (list_all func_fits m.funcs) p.funcs);
      bodies = all_of func_fits FuncFits func_limits m.funcs (second (nat_le (length m.funcs) function_limit) (list_all func_fits m.funcs) p.funcs);
      globals = all_of global_fits (λ (g : Global). ExpressionFits g.init) (λ g e. expression_limits g.init e) m.globals p.globals;
      elements = all_of element_fits (λ (x : Element). ExpressionFits x.offset) (λ x e. expression_limits x.offset (first _ _ (second _ _ e))) m.elements p.elements;
      datas = all_of data_fits (λ (x : DataSegment). ExpressionFits x.offset) (λ x e. expression_limits x.offset (first _ _ (second _ _ e))) m.datas p.datas;
      bytes = few;
    }

-- a module within the limits is spelled by its shortest spelling
pub shortest_spells : (m : Module) → module_fits m ≡ true → names_are_utf8 m ≡ true → nat_le (length (shortest m)) byte_limit ≡ true → Spells (shortest m) m
shortest_spells m fits named short =
    let few : length (shortest m) ≤ byte_limit = leb-true (length (shortest m)) byte_limit short in
    record {
      bytes_fit = few;
      are_bytes = all_below (shortest m) (bytes_of_shortest m fits named (omega arith));
      grammar = grammar_of_shortest m fits named (omega arith);
      tree_fits = module_limits m fits few;
    }
