-- Modules: what is read is spelled so and keeps the limits, and what is spelled so and keeps them is read.
use Rattle.std.proofs.Common.{◌≡◌, ℕ, suc, ◌≤◌, eqb, leb, List, [], ◌∷◌, ◌++◌, length, Option, Some, None, map, refl, sym, ap, subst, ◌∙◌, inl, inr, arith}
use Rattle.std.proofs.lemmas.Bool.{eqb-true, eq-eqb, leb-true, le-leb}
use Rattle.std.proofs.lemmas.Option.{some_pair_parts}
use Rattle.spec_modules.specs.Syntax.{Func, Module}
use Rattle.spec_modules.specs.Profile.{function_limit}
use Rattle.spec_modules.specs.Language.{Language, run, ◌⨾◌}
use Rattle.spec_modules.specs.Leb.{unsigned}
use Rattle.spec_modules.specs.Grammar.{vector, func_type, import, table_type, limits, global, export, element, code, data_segment, customs, list_section, start_section}
use Rattle.spec_modules.specs.NumberLaws.{kept, unsigned_takes, unsigned_again}
use Rattle.laws_modules.specs.Readers.{Reads, Any, Each, each_any, vector_reads, items_takes, items_again, bind_then, map_then, fst_is, snd_is, join_found, seam}
use Rattle.laws_modules.specs.ExpressionLaws.{FitsIn}
use Rattle.laws_modules.specs.ReadingModules.{u32_at, made_at, codes_at, indices_at, entries_at}
use Rattle.laws_modules.specs.ItemLaws.{u32_reads, func_type_reads, import_reads, table_type_reads, limits_reads, global_reads, export_reads, element_reads, data_reads, LocalsIn, code_reads}
use Rattle.laws_modules.specs.SectionLaws.{Opens, slot, customs_open, slot_opens}

-- ---- what slots hold

pub list_slot : {X : Type 0} (id : ℕ) (F : X → Language) (xs : List X) (c : List ℕ) → list_section id F xs c → slot id (vector F) [] xs c
list_slot id F [] c (inl e) = inl (e, refl)
list_slot id F [] c (inr s) = inr s
list_slot id F (x ∷ xs) c s = inr s

pub slot_list : {X : Type 0} (id : ℕ) (F : X → Language) (xs : List X) (c : List ℕ) → slot id (vector F) [] xs c → list_section id F xs c
slot_list id F [] c (inl e) = inl e.0
slot_list id F [] c (inr s) = inr s
slot_list id F (x ∷ xs) c (inl e) = absurd (no_cons x xs e.1)
  where
    no_cons : {X : Type 0} (x : X) (xs : List X) → [] ≡ x ∷ xs → ⊥
    no_cons x xs e = cc
slot_list id F (x ∷ xs) c (inr s) = s

abbrev pub start_index : Option ℕ → Language
start_index None bytes = ⊥
start_index (Some f) bytes = unsigned 32 f bytes

pub start_reads : Reads Any Any start_index (made_at (λ f. Some f) u32_at)
start_reads = record {
  takes = λ bs x rest e. map_then _ _ _ e (λ f h q.
      let t = unsigned_takes 32 bs f.0 f.1 h in
      ((t.0, t.1 ∙ ap (λ l. t.0 ++ l) (snd_is _ _ q), subst (λ z. start_index z t.0) (fst_is _ _ q) t.2), tt));
  again = λ x a rest p s. start_again x a rest s;
}
  where
    start_again : (x : Option ℕ) (a rest : List ℕ) → start_index x a → made_at (λ f. Some f) u32_at (a ++ rest) ≡ Some (x, rest)
    start_again None a rest s = absurd s
    start_again (Some f) a rest s = rw (unsigned_again 32 a f rest s) refl

pub start_slot : (x : Option ℕ) (c : List ℕ) → start_section x c → slot 8 start_index None x c
start_slot None c s = inl (s, refl)
start_slot (Some f) c s = inr s

pub slot_start : (x : Option ℕ) (c : List ℕ) → slot 8 start_index None x c → start_section x c
slot_start None c (inl e) = e.0
slot_start None c (inr s) = absurd s.4.4
slot_start (Some f) c (inl e) = absurd (no_some f e.1)
  where
    no_some : (f : ℕ) → None ≡ Some f → ⊥
    no_some f e = cc
slot_start (Some f) c (inr s) = s

abbrev pub IndicesIn : List ℕ → Type 0
IndicesIn is = length is ≤ function_limit

pub indices_reads : Reads IndicesIn IndicesIn (vector (unsigned 32)) indices_at
unfolding indices_at
indices_reads = record {
  takes = λ bs xs rest e. bind_then _ _ _ e (λ n h e.
      let k = kept (leb n.0 function_limit) _ (xs, rest) e in
      let f = unsigned_takes 32 bs n.0 n.1 h in
      let g = items_takes u32_reads n.0 n.1 xs rest k.1 in (
        (f.0 ++ g.0, join_found bs n.1 rest f.0 g.0 f.1 g.1, (f.0, g.0, refl, subst (λ k. unsigned 32 k f.0) (sym g.3) f.2, g.2)),
        omega (arith, leb-true n.0 function_limit k.0, g.3),
      ));
  again = λ xs a rest p s.
      ap indices_at (seam a s.0 s.1 rest s.2)
      ∙ rw (unsigned_again 32 s.0 (length xs) (s.1 ++ rest) s.3, le-leb (length xs) function_limit p) (items_again u32_reads xs s.1 rest (each_any xs) s.4);
}

abbrev pub FuncIn : Func → Type 0
FuncIn f = LocalsIn f.locals × FitsIn 129 f.body

abbrev pub indices_of : List Func → List ℕ
indices_of fs = map (λ (f : Func). f.type_index) fs

-- one entry for each of these type indices
abbrev pub FuncsIn : List ℕ → List Func → Type 0
FuncsIn is fs = (indices_of fs ≡ is) × Each FuncIn fs

-- if there is one for each
abbrev pub FuncsIf : List ℕ → List Func → Type 0
FuncsIf is fs = (length fs ≡ length is → indices_of fs ≡ is) × Each FuncIn fs

codes_takes : (is bs : List ℕ) (fs : List Func) (rest : List ℕ) → codes_at is bs ≡ Some (fs, rest) → (a : List ℕ) × (bs ≡ a ++ rest) × run code fs a × FuncsIn is fs
unfolding codes_at
codes_takes [] bs fs rest e =
    let q = some_pair_parts [] fs bs rest e in
    let S : List Func → Type 0 = λ l. run code l [] × FuncsIn [] l in
    let w = subst S q.0 (refl, (refl, tt)) in
    ([], q.1, w.0, w.1)
codes_takes (i ∷ is) bs fs rest e = bind_then _ _ _ e (λ c h e. map_then _ _ _ e (λ s k q.
    let t = code_reads.takes bs c.0 c.1 h in
    let m = codes_takes is c.1 s.0 s.1 k in
    let f : Func = record { type_index = i; locals = c.0.0; body = c.0.1 } in
    let S : List Func → Type 0 = λ l. run code l (t.0.0 ++ m.0) × FuncsIn (i ∷ is) l in
    let w = subst S (fst_is _ _ q) ((t.0.0, m.0, refl, t.0.2, m.2), (ap (λ l. i ∷ l) m.3.0, (t.1, m.3.1))) in
    (t.0.0 ++ m.0, join_found bs c.1 rest t.0.0 m.0 t.0.1 (m.1 ∙ ap (λ l. m.0 ++ l) (snd_is _ _ q)), w.0, w.1)))

codes_again : (fs : List Func) (a rest : List ℕ) → Each FuncIn fs → run code fs a → codes_at (indices_of fs) (a ++ rest) ≡ Some (fs, rest)
unfolding codes_at
codes_again [] a rest k s = ap (λ l. Some ([], l ++ rest)) s
codes_again (f ∷ fs) a rest k s =
    ap (codes_at (f.type_index ∷ indices_of fs)) (seam a s.0 s.1 rest s.2)
    ∙ rw (code_reads.again (f.locals, f.body) s.0 (s.1 ++ rest) k.0 s.3, codes_again fs s.1 rest k.1 s.4) refl

pub length_indices : (fs : List Func) → length (indices_of fs) ≡ length fs
length_indices [] = refl
length_indices (f ∷ fs) = ap suc (length_indices fs)

pub entries_reads : (is : List ℕ) → Reads (FuncsIn is) (FuncsIn is) (vector code) (entries_at is)
unfolding entries_at
entries_reads is = record {
  takes = λ bs fs rest e. bind_then _ _ _ e (λ n h e.
      let k = kept (eqb n.0 (length is)) (codes_at is n.1) (fs, rest) e in
      let f = unsigned_takes 32 bs n.0 n.1 h in
      let m = codes_takes is n.1 fs rest k.1 in
      let count : n.0 ≡ length fs = eqb-true n.0 (length is) k.0 ∙ ap length (sym m.3.0) ∙ length_indices fs in
      ((f.0 ++ m.0, join_found bs n.1 rest f.0 m.0 f.1 m.1, (f.0, m.0, refl, subst (λ k. unsigned 32 k f.0) count f.2, m.2)), m.3));
  again = λ fs a rest p s.
      let count : length fs ≡ length is = sym (length_indices fs) ∙ ap length p.0 in
      ap (entries_at is) (seam a s.0 s.1 rest s.2)
      ∙ rw (unsigned_again 32 s.0 (length fs) (s.1 ++ rest) s.3, eq-eqb (length fs) (length is) count)
      (ap (λ l. codes_at l (s.1 ++ rest)) (sym p.0) ∙ codes_again fs s.1 rest p.1 s.4);
}

pub funcs_if : (is : List ℕ) (fs : List Func) → FuncsIn is fs → FuncsIf is fs
funcs_if is fs p = (λ e. p.0, p.1)

pub no_funcs : (is : List ℕ) → FuncsIf is []
no_funcs [] = (λ e. refl, tt)
no_funcs (i ∷ is) = (λ e. absurd (omega (arith, e)), tt)

-- ---- the parts of a module, from the last to the first

abbrev pub tail_11 : Module → Language
tail_11 m = customs

abbrev pub tail_10 : Module → Language
tail_10 m = customs ⨾ list_section 11 data_segment m.datas ⨾ tail_11 m

abbrev pub tail_9 : Module → Language
tail_9 m = customs ⨾ list_section 10 code m.funcs ⨾ tail_10 m

abbrev pub tail_8 : Module → Language
tail_8 m = customs ⨾ list_section 9 element m.elements ⨾ tail_9 m

abbrev pub tail_7 : Module → Language
tail_7 m = customs ⨾ start_section m.start ⨾ tail_8 m

abbrev pub tail_6 : Module → Language
tail_6 m = customs ⨾ list_section 7 export m.exports ⨾ tail_7 m

abbrev pub tail_5 : Module → Language
tail_5 m = customs ⨾ list_section 6 global m.globals ⨾ tail_6 m

abbrev pub tail_4 : Module → Language
tail_4 m = customs ⨾ list_section 5 limits m.memories ⨾ tail_5 m

abbrev pub tail_3 : Module → Language
tail_3 m = customs ⨾ list_section 4 table_type m.tables ⨾ tail_4 m

abbrev pub tail_2 : Module → Language
tail_2 m = customs ⨾ list_section 3 (unsigned 32) (indices_of m.funcs) ⨾ tail_3 m

abbrev pub tail_1 : Module → Language
tail_1 m = customs ⨾ list_section 2 import m.imports ⨾ tail_2 m

abbrev pub tail_0 : Module → Language
tail_0 m = customs ⨾ list_section 1 func_type m.types ⨾ tail_1 m

-- a part said otherwise
pub swap : {L M T : Language} → ((c : List ℕ) → L c → M c) → (t : List ℕ) → (customs ⨾ L ⨾ T) t → (customs ⨾ M ⨾ T) t
swap f t s = (s.0, s.1, s.2, s.3, (s.4.0, s.4.1, s.4.2, f s.4.0 s.4.3, s.4.4))

pub opens_11 : (m : Module) → Opens 11 (tail_11 m)
opens_11 m = customs_open 11

pub opens_10 : (m : Module) → Opens 10 (tail_10 m)
opens_10 m t s = slot_opens (vector_reads data_reads) 11 (omega arith) [] (tail_11 m) m.datas 10 (omega arith) (opens_11 m) t (swap (list_slot 11 data_segment m.datas) t s)

pub opens_9 : (m : Module) → Opens 9 (tail_9 m)
opens_9 m t s = slot_opens (entries_reads (indices_of m.funcs)) 10 (omega arith) [] (tail_10 m) m.funcs 9 (omega arith) (opens_10 m) t (swap (list_slot 10 code m.funcs) t s)

pub opens_8 : (m : Module) → Opens 8 (tail_8 m)
opens_8 m t s = slot_opens (vector_reads element_reads) 9 (omega arith) [] (tail_9 m) m.elements 8 (omega arith) (opens_9 m) t (swap (list_slot 9 element m.elements) t s)

pub opens_7 : (m : Module) → Opens 7 (tail_7 m)
opens_7 m t s = slot_opens (start_reads) 8 (omega arith) None (tail_8 m) m.start 7 (omega arith) (opens_8 m) t (swap (start_slot m.start) t s)

pub opens_6 : (m : Module) → Opens 6 (tail_6 m)
opens_6 m t s = slot_opens (vector_reads export_reads) 7 (omega arith) [] (tail_7 m) m.exports 6 (omega arith) (opens_7 m) t (swap (list_slot 7 export m.exports) t s)

pub opens_5 : (m : Module) → Opens 5 (tail_5 m)
opens_5 m t s = slot_opens (vector_reads global_reads) 6 (omega arith) [] (tail_6 m) m.globals 5 (omega arith) (opens_6 m) t (swap (list_slot 6 global m.globals) t s)

pub opens_4 : (m : Module) → Opens 4 (tail_4 m)
opens_4 m t s = slot_opens (vector_reads limits_reads) 5 (omega arith) [] (tail_5 m) m.memories 4 (omega arith) (opens_5 m) t (swap (list_slot 5 limits m.memories) t s)

pub opens_3 : (m : Module) → Opens 3 (tail_3 m)
opens_3 m t s = slot_opens (vector_reads table_type_reads) 4 (omega arith) [] (tail_4 m) m.tables 3 (omega arith) (opens_4 m) t (swap (list_slot 4 table_type m.tables) t s)

pub opens_2 : (m : Module) → Opens 2 (tail_2 m)
opens_2 m t s = slot_opens (indices_reads) 3 (omega arith) [] (tail_3 m) (indices_of m.funcs) 2 (omega arith) (opens_3 m) t (swap (list_slot 3 (unsigned 32) (indices_of m.funcs)) t s)

pub opens_1 : (m : Module) → Opens 1 (tail_1 m)
opens_1 m t s = slot_opens (vector_reads import_reads) 2 (omega arith) [] (tail_2 m) m.imports 1 (omega arith) (opens_2 m) t (swap (list_slot 2 import m.imports) t s)

pub opens_0 : (m : Module) → Opens 0 (tail_0 m)
opens_0 m t s = slot_opens (vector_reads func_type_reads) 1 (omega arith) [] (tail_1 m) m.types 0 (omega arith) (opens_1 m) t (swap (list_slot 1 func_type m.types) t s)
