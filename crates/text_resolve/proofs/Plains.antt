-- Type uses and instructions that hold no other, as they are resolved and by the definitions.
use Rattle.std.proofs.Common.{◌≡◌, ◌≢◌, ℕ, suc, ◌+◌, ◌^◌, ◌<◌, Bool, true, false, ◌||◌, cond, List, [], ◌∷◌, length, map, Option, Some, None, refl, ap, ◌∙◌, subst, arith, inl, inr}
use Rattle.std.specs.Prelude.{option_map, option_and_then, slice_get, nat_le}
use Rattle.std.proofs.lemmas.Option.{none-some, same_Some}
use Rattle.std.proofs.lemmas.Bool.{cond-true, cond-false, leb-true, le-leb}
use Rattle.wtypes.specs.declared.ValType.{ValType}
use Rattle.wtypes.specs.declared.ValType.TheVariants.{I32, I64}
use Rattle.wtypes.specs.declared.Value.{Value}
use Rattle.wtypes.specs.declared.LoadOp.{LoadOp}
use Rattle.wtypes.specs.declared.LoadOp.TheVariants.{I32Load, I64Load, I32Load8S, I32Load8U, I32Load16S, I32Load16U, I64Load8S, I64Load8U, I64Load16S, I64Load16U, I64Load32S, I64Load32U}
use Rattle.wtypes.specs.declared.StoreOp.{StoreOp}
use Rattle.wtypes.specs.declared.StoreOp.TheVariants.{I32Store, I64Store, I32Store8, I32Store16, I64Store8, I64Store16, I64Store32}
use Rattle.wtypes.specs.declared.PlainInstr.{PlainInstr}
use Rattle.wtypes.specs.declared.PlainInstr.TheVariants as P
use Rattle.spec_modules.specs.Syntax as S
use Rattle.spec_modules.specs.Syntax.{FuncType}
use Rattle.spec_modules.specs.Profile.{label_limit}
use Rattle.spec_modules.specs.Spells.{InstrLabelsFit}
use Rattle.spec_modules.specs.Operators.{value_of}
use Rattle.spec_modules.specs.Storage.{load_width, store_width}
use Rattle.spec_text.specs.Numbers.{IsU32, IsConstant, constant}
use Rattle.spec_text.specs.FieldsOfBytes as N
use Rattle.spec_text.specs.Spaces.{Names, Spaces}
use Rattle.spec_text.specs.TypeUses.{FirstType, this_type, later_type, Uses, inline, alone, again, written_type, names_of}
use Rattle.spec_text.specs.Instructions.{indexed, names_in, OffsetOf, no_offset, an_offset, AlignOf, no_align, an_align, Becomes, simply, with_index, br_table, call_indirect, load, store, const}
use Rattle.lexer.specs.Values.{bits_at}
use Rattle.lexer.proofs.Amounts.{bits_are_read, read_are_bits}
use Rattle.text_resolve.specs.Lookup.{u32_at, stands_at, all_stand_at}
use Rattle.text_resolve.proofs.Lookups.{mapped, picked, u32_found, u32_is_found}
use Rattle.text_resolve.proofs.Standing.{chained, stands_is_read, read_stands, all_are_read, read_all_stand}
use Rattle.text_resolve.specs.Types.{same_func, first_type, given, is_bare, use_at}
use Rattle.text_resolve.specs.Plain.{exponent_at, offset_at, align_at, constant_at, table_at, access_at, operator_at, plain_at}
use Rattle.text_resolve.proofs.Alike.{func_same, func_is}
use Rattle.text_resolve.proofs.Numbers.{exponent_is, exponent_found}

-- ---- types

other_func : (u t : FuncType) → u ≢ t → same_func u t ≡ false
other_func u t ne = by_test (same_func u t) refl
  where
    by_test : (b : Bool) → same_func u t ≡ b → same_func u t ≡ false
    by_test true e = absurd (ne (func_is u t e))
    by_test false e = e

pub type_is_found : {t : FuncType} {ts : List FuncType} {i : ℕ} → FirstType t ts i → first_type t ts ≡ Some i
type_is_found {t} (this_type {u} {ts} e) = cond-true (same_func u t) (Some 0) _ (ap (λ x. same_func x t) e ∙ func_same t)
type_is_found {t} (later_type {u} {ts} {i} ne f) =
    cond-false (same_func u t) (Some 0) _ (other_func u t ne) ∙ ap (option_map (λ (i : ℕ). i + 1)) (type_is_found f) ∙ ap (λ (k : ℕ). Some k) (let s : i + 1 ≡ suc i = omega arith in s)

pub found_is_type : (t : FuncType) (ts : List FuncType) (i : ℕ) → first_type t ts ≡ Some i → FirstType t ts i
found_is_type t [] i e = absurd (none-some i e)
found_is_type t (u ∷ ts) i e = elim (picked (same_func u t) (Some 0) (option_map (λ i. i + 1) (first_type t ts)) (Some i) e) [
  | inl p ↦ subst (FirstType t (u ∷ ts)) (same_Some 0 i p.1) (this_type (func_is u t p.0))
  | inr p ↦
      let m = mapped (λ (i : ℕ). i + 1) (first_type t ts) i p.1 in
      let s : suc m.0 ≡ i = omega (arith, m.2) in
      let ne : u ≢ t = λ same. absurd (let q : same_func u t ≡ true = ap (λ x. same_func x t) same ∙ func_same t in let r = p.0 in cc) in
      subst (FirstType t (u ∷ ts)) s (later_type ne (found_is_type t ts m.0 m.1))
]

or_true : (a b : Bool) → b ≡ true → (a || b) ≡ true
or_true true b e = refl
or_true false b e = e

pub use_is_read : {names ns : Names} {types : List FuncType} {w : N.TypeUse} {i : ℕ} → Uses names types w i ns → use_at names types w ≡ Some i
use_is_read (inline f) = type_is_found f
use_is_read {types = types} (alone {index} {i} {t} s g) =
    let w : N.TypeUse = record { index = Some index; params = []; results = [] } in
    ap (option_and_then (given types w)) (stands_is_read s) ∙ ap (option_and_then (λ (t : FuncType). cond (is_bare w || same_func t (written_type w)) (Some i) None)) g
use_is_read {types = types} (again {index} {ps} {rs} {i} s g) =
    let w : N.TypeUse = record { index = Some index; params = ps; results = rs } in
    ap (option_and_then (given types w)) (stands_is_read s) ∙ ap (option_and_then (λ (t : FuncType). cond (is_bare w || same_func t (written_type w)) (Some i) None)) g
    ∙ cond-true (is_bare w || same_func (written_type w) (written_type w)) (Some i) None (or_true (is_bare w) (same_func (written_type w) (written_type w)) (func_same (written_type w)))

of_given : (names : Names) (types : List FuncType) (index : N.Index) (ps : List N.Binding) (rs : List ValType) (n : ℕ) (t : FuncType) → stands_at names index ≡ Some n → slice_get types n ≡ Some t
    → (is_bare (record { index = Some index; params = ps; results = rs }) || same_func t (written_type (record { index = Some index; params = ps; results = rs }))) ≡ true
    → (ns : Names) × Uses names types (record { index = Some index; params = ps; results = rs }) n ns
of_given names types index [] [] n t s g e = (map (λ _. None) t.params, alone (read_stands names index n s) g)
of_given names types index [] (r ∷ rs) n t s g e = (names_of [], again (read_stands names index n s) (g ∙ ap (λ (x : FuncType). Some x) (func_is t _ e)))
of_given names types index (p ∷ ps) rs n t s g e = (names_of (p ∷ ps), again (read_stands names index n s) (g ∙ ap (λ (x : FuncType). Some x) (func_is t _ e)))

pub read_use : (names : Names) (types : List FuncType) (index : Option N.Index) (ps : List N.Binding) (rs : List ValType) (i : ℕ)
    → use_at names types (record { index = index; params = ps; results = rs }) ≡ Some i → (ns : Names) × Uses names types (record { index = index; params = ps; results = rs }) i ns
read_use names types None ps rs i e = (names_of ps, inline (found_is_type _ types i e))
read_use names types (Some index) ps rs i e =
    let w : N.TypeUse = record { index = Some index; params = ps; results = rs } in
    let c = chained (given types w) (stands_at names index) i e in
    let d = chained (λ (t : FuncType). cond (is_bare w || same_func t (written_type w)) (Some c.0) None) (slice_get types c.0) i c.2 in
    elim (picked (is_bare w || same_func d.0 (written_type w)) (Some c.0) None (Some i) d.2) [
      | inl p ↦ let u = of_given names types index ps rs c.0 d.0 c.1 d.1 p.0 in (u.0, subst (λ (k : ℕ). Uses names types w k u.0) (same_Some c.0 i p.1) u.1)
      | inr p ↦ absurd (none-some i p.1)
    ]

-- ---- offsets, alignments and constants

offset_is_read : {o : Option (List ℕ)} {n : ℕ} → OffsetOf o n → offset_at o ≡ Some n
offset_is_read no_offset = refl
offset_is_read (an_offset {text} {n} u) = u32_found text n u

read_offset : (o : Option (List ℕ)) (n : ℕ) → offset_at o ≡ Some n → OffsetOf o n
read_offset None n e = subst (OffsetOf None) (same_Some 0 n e) no_offset
read_offset (Some text) n e = an_offset (u32_is_found text n e)

align_is_read : {width e : ℕ} {o : Option (List ℕ)} → width < 2 ^ 32 → AlignOf width o e → align_at width o ≡ Some e
align_is_read {width} l (no_align {e} is) = exponent_found width e is l
align_is_read l (an_align {text} {e} u) = ap (option_and_then exponent_at) (u32_found text (2 ^ e) u) ∙ exponent_found (2 ^ e) e refl u.1

read_align : (width : ℕ) (o : Option (List ℕ)) (e : ℕ) → align_at width o ≡ Some e → AlignOf width o e
read_align width None e h = no_align (exponent_is width e h)
read_align width (Some text) e h =
    let c = chained exponent_at (u32_at text) e h in
    an_align (subst (IsU32 text) (exponent_is c.0 e c.2) (u32_is_found text c.0 c.1))

constant_is_read : {t : ValType} {text : List ℕ} {v : Value} → IsConstant t text v → constant_at t text ≡ Some v
constant_is_read {t} (constant b) = ap (option_map (value_of t)) (bits_are_read b)

read_constant : (t : ValType) (text : List ℕ) (v : Value) → constant_at t text ≡ Some v → IsConstant t text v
read_constant I32 text v e = let m = mapped (value_of I32) (bits_at 32 text) v e in subst (IsConstant I32 text) m.2 (constant (read_are_bits 32 (omega arith) text m.0 m.1))
read_constant I64 text v e = let m = mapped (value_of I64) (bits_at 64 text) v e in subst (IsConstant I64 text) m.2 (constant (read_are_bits 64 (omega arith) text m.0 m.1))

-- ---- instructions that hold no other

load_small : (op : LoadOp) → load_width op < 2 ^ 32
load_small I32Load = omega arith
load_small I64Load = omega arith
load_small I32Load8S = omega arith
load_small I32Load8U = omega arith
load_small I32Load16S = omega arith
load_small I32Load16U = omega arith
load_small I64Load8S = omega arith
load_small I64Load8U = omega arith
load_small I64Load16S = omega arith
load_small I64Load16U = omega arith
load_small I64Load32S = omega arith
load_small I64Load32U = omega arith

store_small : (op : StoreOp) → store_width op < 2 ^ 32
store_small I32Store = omega arith
store_small I64Store = omega arith
store_small I32Store8 = omega arith
store_small I32Store16 = omega arith
store_small I64Store8 = omega arith
store_small I64Store16 = omega arith
store_small I64Store32 = omega arith

abbrev Fitting : Spaces → (locals labels : Names) → N.Flat → S.Instr → Type 0
Fitting s locals labels f i = Becomes s locals labels f i × InstrLabelsFit i

fitting_plain : (s : Spaces) (locals labels : Names) (f : N.Flat) (p : PlainInstr) (i : S.Instr) → S.Plain p ≡ i → Becomes s locals labels f (S.Plain p) → Fitting s locals labels f i
fitting_plain s locals labels f p i e b = subst (Fitting s locals labels f) e (b, tt)

access_parts : (make : ℕ → ℕ → PlainInstr) (width : ℕ) (offset align : Option (List ℕ)) (p : PlainInstr) → access_at make width offset align ≡ Some p
    → (o : ℕ) × (a : ℕ) × OffsetOf offset o × AlignOf width align a × (make a o ≡ p)
access_parts make width offset align p e =
    let c = chained (λ (o : ℕ). option_map (λ a. make a o) (align_at width align)) (offset_at offset) p e in
    let m = mapped (λ (a : ℕ). make a c.0) (align_at width align) p c.2 in
    (c.0, m.0, read_offset offset c.0 c.1, read_align width align m.0 m.1, m.2)

operator_is : (s : Spaces) (locals labels : Names) (f : N.Flat) (p : PlainInstr) → operator_at s locals labels f ≡ Some p → Becomes s locals labels f (S.Plain p)
operator_is s locals labels (N.Simple op) p e = simply e
operator_is s locals labels (N.Indexed op i) p e =
    let c = chained (λ q. option_map q.1 (stands_at (names_in s locals labels q.0) i)) (indexed op) p e in
    let m = mapped c.0.1 (stands_at (names_in s locals labels c.0.0) i) p c.2 in
    subst (λ (x : PlainInstr). Becomes s locals labels (N.Indexed op i) (S.Plain x)) m.2 (with_index {space = c.0.0} {make = c.0.1} c.1 (read_stands (names_in s locals labels c.0.0) i m.0 m.1))
operator_is s locals labels (N.CallIndirect w) p e =
    let m = mapped (λ (i : ℕ). P.CallIndirect i) (use_at s.type_names s.types w) p e in
    let u = read_use s.type_names s.types w.index w.params w.results m.0 m.1 in
    subst (λ (x : PlainInstr). Becomes s locals labels (N.CallIndirect w) (S.Plain x)) m.2 (call_indirect u.1)
operator_is s locals labels (N.Load op offset align) p e =
    let c = access_parts (λ a o. P.Load op a o) (load_width op) offset align p e in
    subst (λ (x : PlainInstr). Becomes s locals labels (N.Load op offset align) (S.Plain x)) c.4 (load c.2 c.3)
operator_is s locals labels (N.Store op offset align) p e =
    let c = access_parts (λ a o. P.Store op a o) (store_width op) offset align p e in
    subst (λ (x : PlainInstr). Becomes s locals labels (N.Store op offset align) (S.Plain x)) c.4 (store c.2 c.3)
operator_is s locals labels (N.Const t text) p e =
    let m = mapped (λ (v : Value). P.Const v) (constant_at t text) p e in
    subst (λ (x : PlainInstr). Becomes s locals labels (N.Const t text) (S.Plain x)) m.2 (const (read_constant t text m.0 m.1))
operator_is s locals labels (N.BrTable is last) p e = absurd (none-some p e)
operator_is s locals labels (N.Opens o label result) p e = absurd (none-some p e)
operator_is s locals labels (N.Else label) p e = absurd (none-some p e)
operator_is s locals labels (N.End label) p e = absurd (none-some p e)

table_is : (s : Spaces) (locals labels : Names) (is : List N.Index) (last : N.Index) (i : S.Instr) → table_at labels is last ≡ Some i → Fitting s locals labels (N.BrTable is last) i
table_is s locals labels is last i e =
    let c = chained (λ (ns : List ℕ). cond (nat_le (length ns) label_limit) (option_map (λ n. S.BrTable ns n) (stands_at labels last)) None) (all_stand_at (stands_at labels) is) i e in
    elim (picked (nat_le (length c.0) label_limit) (option_map (λ n. S.BrTable c.0 n) (stands_at labels last)) None (Some i) c.2) [
      | inl p ↦
          let m = mapped (λ (n : ℕ). S.BrTable c.0 n) (stands_at labels last) i p.1 in
          subst (Fitting s locals labels (N.BrTable is last)) m.2 (br_table (read_all_stand labels is c.0 c.1) (read_stands labels last m.0 m.1), leb-true (length c.0) label_limit p.0)
      | inr p ↦ absurd (none-some i p.1)
    ]

by_operator : (s : Spaces) (locals labels : Names) (f : N.Flat) (i : S.Instr) → option_map (λ p. S.Plain p) (operator_at s locals labels f) ≡ Some i → Fitting s locals labels f i
by_operator s locals labels f i e =
    let m = mapped (λ (p : PlainInstr). S.Plain p) (operator_at s locals labels f) i e in
    fitting_plain s locals labels f m.0 i m.2 (operator_is s locals labels f m.0 m.1)

pub plain_is : (s : Spaces) (locals labels : Names) (f : N.Flat) (i : S.Instr) → plain_at s locals labels f ≡ Some i → Fitting s locals labels f i
plain_is s locals labels (N.BrTable is last) i e = table_is s locals labels is last i e
plain_is s locals labels (N.Simple op) i e = by_operator s locals labels (N.Simple op) i e
plain_is s locals labels (N.Indexed op x) i e = by_operator s locals labels (N.Indexed op x) i e
plain_is s locals labels (N.CallIndirect w) i e = by_operator s locals labels (N.CallIndirect w) i e
plain_is s locals labels (N.Load op offset align) i e = by_operator s locals labels (N.Load op offset align) i e
plain_is s locals labels (N.Store op offset align) i e = by_operator s locals labels (N.Store op offset align) i e
plain_is s locals labels (N.Const t text) i e = by_operator s locals labels (N.Const t text) i e
plain_is s locals labels (N.Opens o label result) i e = by_operator s locals labels (N.Opens o label result) i e
plain_is s locals labels (N.Else label) i e = by_operator s locals labels (N.Else label) i e
plain_is s locals labels (N.End label) i e = by_operator s locals labels (N.End label) i e

access_is_read : (make : ℕ → ℕ → PlainInstr) {width o a : ℕ} {offset align : Option (List ℕ)} → width < 2 ^ 32 → OffsetOf offset o → AlignOf width align a → access_at make width offset align ≡ Some (make a o)
access_is_read make {width} {o} {a} {offset} {align} l f g =
    ap (option_and_then (λ (o : ℕ). option_map (λ a. make a o) (align_at width align))) (offset_is_read f) ∙ ap (option_map (λ (a : ℕ). make a o)) (align_is_read l g)

pub becomes_is_read : {s : Spaces} {locals labels : Names} {f : N.Flat} {i : S.Instr} → Becomes s locals labels f i → InstrLabelsFit i → plain_at s locals labels f ≡ Some i
becomes_is_read (simply e) fit = ap (option_map (λ (p : PlainInstr). S.Plain p)) e
becomes_is_read {s} {locals} {labels} (with_index {op} {space} {make} {i} {n} e st) fit =
    ap (option_map (λ (p : PlainInstr). S.Plain p)) (ap (option_and_then (λ q. option_map q.1 (stands_at (names_in s locals labels q.0) i))) e ∙ ap (option_map make) (stands_is_read st))
becomes_is_read {s} {locals} {labels} (br_table {is} {last} {ns} {n} st sl) fit =
    ap (option_and_then (λ (ns : List ℕ). cond (nat_le (length ns) label_limit) (option_map (λ n. S.BrTable ns n) (stands_at labels last)) None)) (all_are_read st)
    ∙ cond-true (nat_le (length ns) label_limit) (option_map (λ n. S.BrTable ns n) (stands_at labels last)) None (le-leb (length ns) label_limit fit) ∙ ap (option_map (λ (n : ℕ). S.BrTable ns n)) (stands_is_read sl)
becomes_is_read (call_indirect u) fit = ap (λ (o : Option ℕ). option_map (λ (p : PlainInstr). S.Plain p) (option_map (λ i. P.CallIndirect i) o)) (use_is_read u)
becomes_is_read (load {op} f g) fit = ap (option_map (λ (p : PlainInstr). S.Plain p)) (access_is_read (λ a o. P.Load op a o) (load_small op) f g)
becomes_is_read (store {op} f g) fit = ap (option_map (λ (p : PlainInstr). S.Plain p)) (access_is_read (λ a o. P.Store op a o) (store_small op) f g)
becomes_is_read (const c) fit = ap (λ (o : Option Value). option_map (λ (p : PlainInstr). S.Plain p) (option_map (λ v. P.Const v) o)) (constant_is_read c)
