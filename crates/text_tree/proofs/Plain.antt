-- Fields without instructions, as they are read and in the grammar.
use Rattle.std.proofs.Common.{◌≡◌, ℕ, List, ◌∷◌, Option, Some, refl, sym, ap, ◌∙◌, subst}
use Rattle.std.specs.Prelude.{IsUtf8}
use Rattle.wtypes.specs.declared.ValType.{ValType}
use Rattle.spec_text.specs.declared.KeyWord.{KeyWord}
use Rattle.spec_text.specs.declared.KeyWord.TheVariants as k
use Rattle.spec_text.specs.Words.{Word, LeftBracket, RightBracket, Key, Str}
use Rattle.spec_text.specs.FieldsOfPlaces as N
use Rattle.spec_text.specs.Grammar as G
use Rattle.spec_text.specs.Grammar.{OptionalId, IsIndex, Bindings, Results, Descs, FieldWords}
use Rattle.text_body.specs.declared.parts.Part.TheVariants as part
use Rattle.text_body.specs.Reading.{index_at, close_at, bindings_at, results_at}
use Rattle.text_body.proofs.Pieces.{none_some, close_is, index_read, index_found, bindings_read, bindings_found, results_read, results_found}
use Rattle.text_tree.specs.declared.parts.Inner.TheVariants as inner
use Rattle.text_tree.specs.Reading.{both, closing, behind, bracket_at, opened_at, optional_at, name_at, kind_at, table_type_at, memory_type_at, Described, desc_at, Signature, signature_at, type_field_at, import_field_at, table_field_at, memory_field_at, exported_at, export_field_at, start_field_at, plain_field_at}
use Rattle.text_tree.proofs.Readers.{both_read, both_found, closing_read, closing_found, made_read, made_found, behind_read, behind_found, bracket_found, opened_found, optional_read, optional_found, name_read, name_found, kind_read, kind_found, table_type_read, table_type_found, memory_type_read, memory_type_found}
use Rattle.text_tree.proofs.Exports.{desc_read, desc_found}

-- ---- types

abbrev type_of : Option N.Placed × Signature → N.Field
type_of p = N.TypeField p.0 p.1.0 p.1.1

signature_read : {ws us vs : List Word} {ps : List N.Binding} {rs : List ValType} → Bindings k.Param ws us ps → Results us (RightBracket ∷ RightBracket ∷ vs) rs → signature_at ws ≡ Some ((ps, rs), vs)
signature_read b r = closing_read (closing (both (bindings_at part.Param) results_at) close_at) close_at (closing_read (both (bindings_at part.Param) results_at) close_at (both_read (bindings_at part.Param) results_at (bindings_read part.Param b) (results_read r)) refl) refl

record SignatureFound (ws vs : List Word) (p : Signature) : Type 0 where
  between : List Word
  params : Bindings k.Param ws between p.0
  results : G.Results between (RightBracket ∷ RightBracket ∷ vs) p.1

signature_found : (ws vs : List Word) (p : Signature) → signature_at ws ≡ Some (p, vs) → SignatureFound ws vs p
signature_found ws vs p e =
    let c = closing_found (closing (both (bindings_at part.Param) results_at) close_at) close_at ws vs p e in
    let d = closing_found (both (bindings_at part.Param) results_at) close_at ws c.before p c.one in
    let b = both_found (bindings_at part.Param) results_at ws d.before p d.one in
    let closed : d.before ≡ RightBracket ∷ RightBracket ∷ vs = close_is d.before c.before d.close ∙ ap (λ (xs : List Word). RightBracket ∷ xs) (close_is c.before vs c.close) in
    record {
      between = b.between;
      params = bindings_found part.Param ws b.between p.0 b.one;
      results = subst (λ (xs : List Word). G.Results b.between xs p.1) closed (results_found b.between d.before p.1 b.other);
    }

type_found : (ws vs : List Word) (f : N.Field) → type_field_at ws ≡ Some (f, vs) → FieldWords (Key k.Type ∷ ws) vs f
type_found ws vs f e =
    let m = made_found type_of (both optional_at (behind (opened_at inner.Func) signature_at)) ws vs f e in
    let b = both_found optional_at (behind (opened_at inner.Func) signature_at) ws vs m.from m.one in
    let o = behind_found (opened_at inner.Func) signature_at b.between vs m.from.1 b.other in
    let s = signature_found o.after vs m.from.1 o.one in
    subst (λ (x : N.Field). FieldWords (Key k.Type ∷ ws) vs x) m.is
    (G.type_field (subst (λ (xs : List Word). OptionalId ws xs m.from.0) (opened_found inner.Func b.between o.after o.pass) (optional_found ws b.between m.from.0 b.one)) s.params s.results)

-- ---- imports

abbrev import_of : List ℕ × (List ℕ × Described) → N.Field
import_of p = N.ImportField p.0 p.1.0 p.1.1.0 p.1.1.1

import_read : {ws vs : List Word} {from_module item : List ℕ} {id : Option N.Placed} {desc : N.Desc} → IsUtf8 from_module → IsUtf8 item → Descs ws (RightBracket ∷ vs) id desc
    → import_field_at (Str from_module ∷ Str item ∷ ws) ≡ Some (N.ImportField from_module item id desc, vs)
import_read {ws} {from_module = from_module} {item = item} m i d =
    made_read import_of (both name_at (both name_at (closing desc_at close_at))) {ws = Str from_module ∷ Str item ∷ ws}
    (both_read name_at (both name_at (closing desc_at close_at)) {ws = Str from_module ∷ Str item ∷ ws} (name_read (Str item ∷ ws) m) (both_read name_at (closing desc_at close_at) {ws = Str item ∷ ws} (name_read ws i) (closing_read desc_at close_at (desc_read d) refl)))

import_found : (ws vs : List Word) (f : N.Field) → import_field_at ws ≡ Some (f, vs) → FieldWords (Key k.Import ∷ ws) vs f
import_found ws vs f e =
    let m = made_found import_of (both name_at (both name_at (closing desc_at close_at))) ws vs f e in
    let b = both_found name_at (both name_at (closing desc_at close_at)) ws vs m.from m.one in
    let d = both_found name_at (closing desc_at close_at) b.between vs m.from.1 b.other in
    let c = closing_found desc_at close_at d.between vs m.from.1.1 d.other in
    let from_module = name_found ws b.between m.from.0 b.one in
    let item = name_found b.between d.between m.from.1.0 d.one in
    let is : ws ≡ Str m.from.0 ∷ Str m.from.1.0 ∷ d.between = from_module.is ∙ ap (λ (xs : List Word). Str m.from.0 ∷ xs) item.is in
    let desc : Descs d.between (RightBracket ∷ vs) m.from.1.1.0 m.from.1.1.1 = subst (λ (xs : List Word). Descs d.between xs m.from.1.1.0 m.from.1.1.1) (close_is c.before vs c.close) (desc_found d.between c.before m.from.1.1 c.one) in
    subst (λ (x : N.Field). FieldWords (Key k.Import ∷ ws) vs x) m.is
    (subst (λ (xs : List Word). FieldWords (Key k.Import ∷ xs) vs (import_of m.from)) (sym is) (G.import_field from_module.utf8 item.utf8 desc))

-- ---- tables, memories and starts

table_found : (ws vs : List Word) (f : N.Field) → table_field_at ws ≡ Some (f, vs) → FieldWords (Key k.Table ∷ ws) vs f
table_found ws vs f e =
    let m = made_found (λ p. N.TableField p.0 p.1) (both optional_at table_type_at) ws vs f e in
    let b = both_found optional_at table_type_at ws vs m.from m.one in
    subst (λ (x : N.Field). FieldWords (Key k.Table ∷ ws) vs x) m.is (G.table_field (optional_found ws b.between m.from.0 b.one) (table_type_found b.between vs m.from.1 b.other))

memory_found : (ws vs : List Word) (f : N.Field) → memory_field_at ws ≡ Some (f, vs) → FieldWords (Key k.Memory ∷ ws) vs f
memory_found ws vs f e =
    let m = made_found (λ p. N.MemoryField p.0 p.1) (both optional_at memory_type_at) ws vs f e in
    let b = both_found optional_at memory_type_at ws vs m.from m.one in
    subst (λ (x : N.Field). FieldWords (Key k.Memory ∷ ws) vs x) m.is (G.memory_field (optional_found ws b.between m.from.0 b.one) (memory_type_found b.between vs m.from.1 b.other))

start_found : (ws vs : List Word) (f : N.Field) → start_field_at ws ≡ Some (f, vs) → FieldWords (Key k.Start ∷ ws) vs f
start_found ws vs f e =
    let m = made_found (λ i. N.StartField i) (closing index_at close_at) ws vs f e in
    let c = closing_found index_at close_at ws vs m.from m.one in
    let i = index_found ws c.before m.from c.one in
    let is : ws ≡ i.0 ∷ RightBracket ∷ vs = i.2 ∙ ap (λ (xs : List Word). i.0 ∷ xs) (close_is c.before vs c.close) in
    subst (λ (x : N.Field). FieldWords (Key k.Start ∷ ws) vs x) m.is
    (subst (λ (xs : List Word). FieldWords (Key k.Start ∷ xs) vs (N.StartField m.from)) (sym is) (G.start_field i.1))

-- ---- exports

abbrev export_of : List ℕ × (N.Kind × N.Index) → N.Field
export_of p = N.ExportField p.0 p.1.0 p.1.1

export_read : {key : KeyWord} {of : N.Kind} {w : Word} {i : N.Index} {item : List ℕ} (vs : List Word) → IsUtf8 item → G.IsKind key of → IsIndex w i
    → export_field_at (Str item ∷ LeftBracket ∷ Key key ∷ w ∷ RightBracket ∷ RightBracket ∷ vs) ≡ Some (N.ExportField item of i, vs)
export_read {key} {of} {w} {i = n} {item} vs u h i =
    let behind_kind : List Word = w ∷ RightBracket ∷ RightBracket ∷ vs in
    let all : List Word = Str item ∷ LeftBracket ∷ Key key ∷ behind_kind in
    let exported : exported_at (Key key ∷ behind_kind) ≡ Some ((of, n), vs) =
    closing_read (closing (both kind_at index_at) close_at) close_at {ws = Key key ∷ behind_kind} (closing_read (both kind_at index_at) close_at {ws = Key key ∷ behind_kind}
    (both_read kind_at index_at {ws = Key key ∷ behind_kind} (kind_read behind_kind h) (index_read (RightBracket ∷ RightBracket ∷ vs) i)) refl) refl in
    made_read export_of (both name_at (behind bracket_at exported_at)) {ws = all} (both_read name_at (behind bracket_at exported_at) {ws = all} (name_read (LeftBracket ∷ Key key ∷ behind_kind) u) exported)

export_found : (ws vs : List Word) (f : N.Field) → export_field_at ws ≡ Some (f, vs) → FieldWords (Key k.Export ∷ ws) vs f
export_found ws vs f e =
    let m = made_found export_of (both name_at (behind bracket_at exported_at)) ws vs f e in
    let b = both_found name_at (behind bracket_at exported_at) ws vs m.from m.one in
    let o = behind_found bracket_at exported_at b.between vs m.from.1 b.other in
    let c = closing_found (closing (both kind_at index_at) close_at) close_at o.after vs m.from.1 o.one in
    let d = closing_found (both kind_at index_at) close_at o.after c.before m.from.1 c.one in
    let p = both_found kind_at index_at o.after d.before m.from.1 d.one in
    let n = name_found ws b.between m.from.0 b.one in
    let h = kind_found o.after p.between m.from.1.0 p.one in
    let i = index_found p.between d.before m.from.1.1 p.other in
    let closed : d.before ≡ RightBracket ∷ RightBracket ∷ vs = close_is d.before c.before d.close ∙ ap (λ (xs : List Word). RightBracket ∷ xs) (close_is c.before vs c.close) in
    let inner_is : o.after ≡ Key h.key ∷ i.0 ∷ RightBracket ∷ RightBracket ∷ vs = h.is ∙ ap (λ (xs : List Word). Key h.key ∷ xs) (i.2 ∙ ap (λ (xs : List Word). i.0 ∷ xs) closed) in
    let is : ws ≡ Str m.from.0 ∷ LeftBracket ∷ Key h.key ∷ i.0 ∷ RightBracket ∷ RightBracket ∷ vs =
    n.is ∙ ap (λ (xs : List Word). Str m.from.0 ∷ xs) (bracket_found b.between o.after o.pass ∙ ap (λ (xs : List Word). LeftBracket ∷ xs) inner_is) in
    subst (λ (x : N.Field). FieldWords (Key k.Export ∷ ws) vs x) m.is
    (subst (λ (xs : List Word). FieldWords (Key k.Export ∷ xs) vs (export_of m.from)) (sym is) (G.export_field n.utf8 h.is_kind i.1))

-- ---- any of them

pub plain_found : (key : KeyWord) (ws vs : List Word) (f : N.Field) → plain_field_at key ws ≡ Some (f, vs) → FieldWords (Key key ∷ ws) vs f
plain_found k.Type ws vs f e = type_found ws vs f e
plain_found k.Import ws vs f e = import_found ws vs f e
plain_found k.Table ws vs f e = table_found ws vs f e
plain_found k.Memory ws vs f e = memory_found ws vs f e
plain_found k.Export ws vs f e = export_found ws vs f e
plain_found k.Start ws vs f e = start_found ws vs f e
plain_found key ws vs f e = absurd (none_some (f, vs) e)

-- the words of fields with instructions
pub record IsPlain (key : KeyWord) : Type 0 where
  pub no_func : key ≡ k.Func → ⊥
  pub no_global : key ≡ k.Global → ⊥
  pub no_elem : key ≡ k.Elem → ⊥
  pub no_data : key ≡ k.Data → ⊥

pub plain_read : {key : KeyWord} {ws vs : List Word} {f : N.Field} → IsPlain key → FieldWords (Key key ∷ ws) vs f → plain_field_at key ws ≡ Some (f, vs)
plain_read p (G.type_field {ws = ws} {us = us} i b r) =
    made_read type_of (both optional_at (behind (opened_at inner.Func) signature_at)) {ws = ws}
    (both_read optional_at (behind (opened_at inner.Func) signature_at) {ws = ws} (optional_read i) (behind_read (opened_at inner.Func) signature_at {ws = LeftBracket ∷ Key k.Func ∷ us} refl (signature_read b r)))
plain_read p (G.import_field m i d) = import_read m i d
plain_read p (G.func_field i x u l b) = absurd (p.no_func refl)
plain_read p (G.table_field {ws = ws} i l) = made_read (λ (p : Option N.Placed × N.Bounds). N.TableField p.0 p.1) (both optional_at table_type_at) {ws = ws} (both_read optional_at table_type_at {ws = ws} (optional_read i) (table_type_read l))
plain_read p (G.memory_field {ws = ws} i l) = made_read (λ (p : Option N.Placed × N.Bounds). N.MemoryField p.0 p.1) (both optional_at memory_type_at) {ws = ws} (both_read optional_at memory_type_at {ws = ws} (optional_read i) (memory_type_read l))
plain_read p (G.global_field i t b) = absurd (p.no_global refl)
plain_read p (G.export_field {vs = vs} u h i) = export_read vs u h i
plain_read p (G.start_field {w = w} {vs = vs} i) = made_read (λ i. N.StartField i) (closing index_at close_at) {ws = w ∷ RightBracket ∷ vs} (closing_read index_at close_at {ws = w ∷ RightBracket ∷ vs} (index_read (RightBracket ∷ vs) i) refl)
plain_read p (G.elem_field i b is) = absurd (p.no_elem refl)
plain_read p (G.data_field i b s) = absurd (p.no_data refl)
