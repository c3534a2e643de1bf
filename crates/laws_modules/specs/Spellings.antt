-- Whatever bytes spell a module within its limits, its numbers are in range; and whatever bytes spell a module, its
-- shortest spelling is no longer.
use Rattle.std.proofs.Common.{◌≡◌, ℕ, ◌≤◌, true, ◌&&◌, List, [], ◌∷◌, ◌++◌, length, nat_le, map, refl, ap, arith, append_assoc}
use Rattle.std.specs.Prelude.{⊤}
use Rattle.std.specs.List.{list_all}
use Rattle.std.proofs.lemmas.List.{append-nil}
use Rattle.std.proofs.lemmas.Bool.{le-leb}
use Rattle.spec_modules.specs.Syntax.{Func, Module}
use Rattle.spec_modules.specs.Profile.{function_limit, local_limit}
use Rattle.spec_modules.specs.Limits.{is_u32, is_byte, limits_fit, import_fits, expression_fits, func_fits, global_fits, export_fits, element_fits, data_fits, module_fits, module_fits-from, both}
use Rattle.spec_modules.specs.Language.{Language, ◌⨾◌}
use Rattle.spec_modules.specs.Grammar.{header, customs, module_grammar}
use Rattle.spec_modules.specs.Shortest.{u32_bytes, func_type_bytes, import_bytes, table_type_bytes, limits_bytes, global_bytes, export_bytes, start_bytes, element_bytes, code_bytes, data_segment_bytes, list_section_bytes, shortest}
use Rattle.laws_modules.specs.Readers.{Each}
use Rattle.laws_modules.specs.ItemLaws.{GlobalIn, ElementIn, DataIn}
use Rattle.laws_modules.specs.ModuleLaws.{FuncIn}
use Rattle.laws_modules.specs.OneTree.{ModuleIn}
use Rattle.laws_modules.specs.Parts.{Good, good_as, good_then, IsU32, good_u32, all_of_each, all_of_limits, good_list_section, good_skip}
use Rattle.laws_modules.specs.Items.{good_func_type, good_limits, good_table_type, good_import, good_export, good_global, good_start, good_element, good_data, good_code}

abbrev head : List ℕ
head = 0x00 ∷ 0x61 ∷ 0x73 ∷ 0x6D ∷ 0x01 ∷ 0x00 ∷ 0x00 ∷ 0x00 ∷ []

good_header : Good header ⊤ head
good_header = record { keeps = λ bs w s. (tt, omega (arith, ap length s)) }

-- custom sections at the end
good_customs : Good customs ⊤ []
good_customs = record { keeps = λ bs w s. (tt, omega arith) }

to_right : (h a b c d e f g s i j k : List ℕ)
    → ((((((((((h ++ a) ++ b) ++ c) ++ d) ++ e) ++ f) ++ g) ++ s) ++ i) ++ j) ++ k ≡ h ++ (a ++ (b ++ (c ++ (d ++ (e ++ (f ++ (g ++ (s ++ (i ++ (j ++ (k ++ [])))))))))))
to_right h a b c d e f g s i j k = simp (append_assoc, append-nil)

no_more : (a b : List ℕ) → a ≡ b → length a ≤ length b
no_more a b e = omega (arith, ap length e)

-- the index of a function's type stands in one section, and its body in another
abbrev BodyFits : Func → Type 0
BodyFits f = FuncIn f → (nat_le (length f.locals) local_limit && expression_fits f.body) ≡ true

all_funcs : (fs : List Func) → Each IsU32 (map (λ (f : Func). f.type_index) fs) → Each BodyFits fs → Each FuncIn fs → list_all func_fits fs ≡ true
all_funcs [] i h l = refl
all_funcs (f ∷ fs) i h l =
    both (func_fits f) (list_all func_fits fs) (both (is_u32 f.type_index) (nat_le (length f.locals) local_limit && expression_fits f.body) i.0 (h.0 l.0)) (all_funcs fs i.1 h.1 l.1)

-- a section, and custom sections behind it
behind : {P Q : Language} {T U : Type 0} {a b : List ℕ} → Good P T a → Good Q U b → Good (P ⨾ customs ⨾ Q) (T × U) (a ++ b)
behind g h = good_then g (good_skip h)

good_module : (m : Module) → Good (module_grammar m) (ModuleIn m → module_fits m ≡ true) (shortest m)
good_module m =
    good_as (λ bs s. s)
    (λ p limits.
    let q2 = p.1.1 in
    let q3 = q2.1 in
    let q4 = q3.1 in
    let q5 = q4.1 in
    let q6 = q5.1 in
    let q7 = q6.1 in
    let q8 = q7.1 in
    let q9 = q8.1 in
    let q10 = q9.1 in
    let q11 = q10.1 in
    module_fits-from m (record {
      imports = all_of_each import_fits m.imports q2.0;
      funcs = both (nat_le (length m.funcs) function_limit) (list_all func_fits m.funcs) (le-leb (length m.funcs) function_limit limits.funcs) (all_funcs m.funcs q3.0 q10.0 limits.bodies);
      tables = all_of_each limits_fit m.tables q4.0;
      memories = all_of_each limits_fit m.memories q5.0;
      globals = all_of_limits GlobalIn global_fits m.globals q6.0 limits.globals;
      exports = all_of_each export_fits m.exports q7.0;
      start = q8.0;
      elements = all_of_limits ElementIn element_fits m.elements q9.0 limits.elements;
      datas = all_of_limits DataIn data_fits m.datas q11.0 limits.datas;
    }))
    (no_more _ _ (to_right head (list_section_bytes 1 func_type_bytes m.types) (list_section_bytes 2 import_bytes m.imports) (list_section_bytes 3 u32_bytes (map (λ (f : Func). f.type_index) m.funcs))
    (list_section_bytes 4 table_type_bytes m.tables) (list_section_bytes 5 limits_bytes m.memories) (list_section_bytes 6 global_bytes m.globals) (list_section_bytes 7 export_bytes m.exports) (start_bytes m.start)
    (list_section_bytes 9 element_bytes m.elements) (list_section_bytes 10 code_bytes m.funcs) (list_section_bytes 11 data_segment_bytes m.datas)))
    (behind good_header
    (behind (good_list_section 1 good_func_type m.types)
    (behind (good_list_section 2 good_import m.imports)
    (behind (good_list_section 3 good_u32 (map (λ (f : Func). f.type_index) m.funcs))
    (behind (good_list_section 4 good_table_type m.tables)
    (behind (good_list_section 5 good_limits m.memories)
    (behind (good_list_section 6 good_global m.globals)
    (behind (good_list_section 7 good_export m.exports)
    (behind (good_start m.start)
    (behind (good_list_section 9 good_element m.elements)
    (behind (good_list_section 10 good_code m.funcs)
    (good_then (good_list_section 11 good_data m.datas) good_customs))))))))))))

-- what is spelled has its numbers in range, where it is within the limits on functions, locals, nesting and labels
pub spelled_fits : (bytes : List ℕ) (m : Module) → list_all is_byte bytes ≡ true → module_grammar m bytes → ModuleIn m → module_fits m ≡ true
spelled_fits bytes m w s limits = ((good_module m).keeps bytes w s).0 limits

-- no spelling is shorter than the shortest spelling
pub shortest_no_longer : (bytes : List ℕ) (m : Module) → list_all is_byte bytes ≡ true → module_grammar m bytes → length (shortest m) ≤ length bytes
shortest_no_longer bytes m w s = ((good_module m).keeps bytes w s).1
