-- The fields without the places: they are what is seen of the code's fields, and stand in the same order.
use Rattle.std.proofs.Common.{◌≡◌, ℕ, Bool, false, List, [], ◌∷◌, map, Option, Some, None, refl, ap, ap₂, ◌∙◌, cond}
use Rattle.std.specs.Prelude.{option_map, string_bytes, ◌&&◌}
use Rattle.spec_text.specs.Forms as F
use Rattle.spec_text.specs.Forms.{index_by, binding_by, use_by, flat_by, bounds_by, desc_by, field_by}
use Rattle.spec_text.specs.Words.{Placed}
use Rattle.spec_text.specs.FieldsOfPlaces as P
use Rattle.spec_text.specs.FieldsOfBytes as N
use Rattle.lexer.specs.declared.word.Piece.{Piece}
use Rattle.text_body.specs.declared.flat.Index.{Index}
use Rattle.text_body.specs.declared.flat.Index.TheVariants as index
use Rattle.text_body.specs.declared.flat.Binding.{Binding}
use Rattle.text_body.specs.declared.flat.TypeUse.{TypeUse}
use Rattle.text_body.specs.declared.flat.Flat.{Flat}
use Rattle.text_body.specs.declared.flat.Flat.TheVariants as flat
use Rattle.text_body.specs.Views as V
use Rattle.text_body.specs.Places as W
use Rattle.text_tree.specs.declared.field.Bounds.{Bounds}
use Rattle.text_tree.specs.declared.field.Desc.{Desc}
use Rattle.text_tree.specs.declared.field.Desc.TheVariants as desc
use Rattle.text_tree.specs.declared.field.Field.{Field}
use Rattle.text_tree.specs.declared.field.Field.TheVariants as field
use Rattle.text_tree.specs.declared.field.Text.{Text}
use Rattle.text_tree.specs.Views as VT
use Rattle.text_tree.specs.Places as WT
use Rattle.module_tree.specs.ModuleView.{global_type_view}
use Rattle.text_tree.specs.Order.{is_import, is_start, defines, none, imports_first, one_start, in_order}

abbrev bytes : Placed → List ℕ
bytes p = p.text

all_same : {X Y Z : Type 0} (f : X → Z) (g : Y → Z) (h : X → Y) → ((x : X) → f x ≡ g (h x)) → (xs : List X) → map f xs ≡ map g (map h xs)
all_same f g h same [] = refl
all_same f g h same (x ∷ xs) = ap₂ (λ y ys. y ∷ ys) (same x) (all_same f g h same xs)

part_same : (p : Option Piece) → V.text_of p ≡ option_map bytes (W.text_of p)
part_same None = refl
part_same (Some p) = refl

index_same : (i : Index) → V.index_of i ≡ index_by bytes (W.index_of i)
index_same (index.Numbered p) = refl
index_same (index.Named p) = refl

some_index_same : (i : Option Index) → option_map V.index_of i ≡ option_map (index_by bytes) (option_map W.index_of i)
some_index_same None = refl
some_index_same (Some i) = ap (λ (j : N.Index). Some j) (index_same i)

binding_same : (b : Binding) → V.binding_of b ≡ binding_by bytes (W.binding_of b)
binding_same b = ap (λ (n : Option (List ℕ)). record { name = n; type = b.value_type }) (part_same b.name)

use_same : {A : Type 0} (u : TypeUse A) → V.use_of u ≡ use_by bytes (W.use_of u)
use_same u =
    ap₂ (λ (i : Option N.Index) (ps : List N.Binding). record { index = i; params = ps; results = u.results.items }) (some_index_same u.index)
    (all_same V.binding_of (binding_by bytes) W.binding_of binding_same u.params.items)

flat_same : {A : Type 0} (f : Flat A) → V.flat_of f ≡ flat_by bytes (W.flat_of f)
flat_same (flat.Simple op) = refl
flat_same (flat.Indexed op i) = ap (λ (j : N.Index). N.Indexed op j) (index_same i)
flat_same (flat.BrTable is last) = ap₂ (λ (js : List N.Index) (l : N.Index). N.BrTable js l) (all_same V.index_of (index_by bytes) W.index_of index_same is.items) (index_same last)
flat_same (flat.CallIndirect u) = ap (λ (w : N.TypeUse). N.CallIndirect w) (use_same u)
flat_same (flat.Load op offset align) = ap₂ (λ (o a : Option (List ℕ)). N.Load op o a) (part_same offset) (part_same align)
flat_same (flat.Store op offset align) = ap₂ (λ (o a : Option (List ℕ)). N.Store op o a) (part_same offset) (part_same align)
flat_same (flat.Const t p) = refl
flat_same (flat.Opens o label result) = ap (λ (l : Option (List ℕ)). N.Opens (V.opener_of o) l result) (part_same label)
flat_same (flat.Else label) = ap (λ (l : Option (List ℕ)). N.Else l) (part_same label)
flat_same (flat.End label) = ap (λ (l : Option (List ℕ)). N.End l) (part_same label)

flats_same : {A : Type 0} (fs : List (Flat A)) → V.flats_of fs ≡ map (flat_by bytes) (W.flats_of fs)
flats_same fs = all_same V.flat_of (flat_by bytes) W.flat_of flat_same fs

bounds_same : (b : Bounds) → VT.bounds_of b ≡ bounds_by bytes (WT.bounds_of b)
bounds_same b = ap (λ (m : Option (List ℕ)). record { min = b.min.text.now; max = m }) (part_same b.max)

desc_same : {A : Type 0} (d : Desc A) → VT.desc_of d ≡ desc_by bytes (WT.desc_of d)
desc_same (desc.Func u) = ap (λ (w : N.TypeUse). N.FuncDesc w) (use_same u)
desc_same (desc.Table b) = ap (λ (c : N.Bounds). N.TableDesc c) (bounds_same b)
desc_same (desc.Memory b) = ap (λ (c : N.Bounds). N.MemoryDesc c) (bounds_same b)
desc_same (desc.Global t) = refl

bindings_same : (bs : List Binding) → map V.binding_of bs ≡ map (binding_by bytes) (map W.binding_of bs)
bindings_same bs = all_same V.binding_of (binding_by bytes) W.binding_of binding_same bs

field_same : {A : Type 0} (f : Field A) → VT.field_of f ≡ field_by bytes (WT.field_of f)
field_same (field.Type f) = ap₂ (λ (n : Option (List ℕ)) (ps : List N.Binding). N.TypeField n ps f.results.items) (part_same f.name) (bindings_same f.params.items)
field_same (field.Import f) = ap₂ (λ (n : Option (List ℕ)) (d : N.Desc). N.ImportField (string_bytes f.from_module) (string_bytes f.item) n d) (part_same f.name) (desc_same f.desc)
field_same (field.Func f) =
    ap₂ (λ (p : Option (List ℕ) × N.TypeUse) (q : List N.Binding × List N.Flat). N.FuncField p.0 (map string_bytes f.exports.items) p.1 q.0 q.1)
    (ap₂ (λ (n : Option (List ℕ)) (u : N.TypeUse). (n, u)) (part_same f.name) (use_same f.written))
    (ap₂ (λ (ls : List N.Binding) (fs : List N.Flat). (ls, fs)) (bindings_same f.locals.items) (flats_same f.body.items))
field_same (field.Table f) = ap₂ (λ (n : Option (List ℕ)) (b : N.Bounds). N.TableField n b) (part_same f.name) (bounds_same f.bounds)
field_same (field.Memory f) = ap₂ (λ (n : Option (List ℕ)) (b : N.Bounds). N.MemoryField n b) (part_same f.name) (bounds_same f.bounds)
field_same (field.Global f) = ap₂ (λ (n : Option (List ℕ)) (fs : List N.Flat). N.GlobalField n (global_type_view f.global_type) fs) (part_same f.name) (flats_same f.init.items)
field_same (field.Export f) = ap (λ (i : N.Index). N.ExportField (string_bytes f.item) (VT.kind_of f.kind) i) (index_same f.index)
field_same (field.Start i) = ap (λ (j : N.Index). N.StartField j) (index_same i)
field_same (field.Elem f) =
    ap₂ (λ (i : N.Index) (p : List N.Flat × List N.Index). N.ElemField i p.0 p.1) (index_same f.table)
    (ap₂ (λ (fs : List N.Flat) (is : List N.Index). (fs, is)) (flats_same f.offset.items) (all_same V.index_of (index_by bytes) W.index_of index_same f.funcs.items))
field_same (field.Data f) = ap₂ (λ (i : N.Index) (fs : List N.Flat). N.DataField i fs f.bytes.items) (index_same f.memory) (flats_same f.offset.items)

pub fields_same : {A : Type 0} (t : Text A) → VT.fields_of t ≡ P.without_places (WT.fields_of t)
fields_same t = all_same VT.field_of (field_by bytes) WT.field_of field_same t.fields.items

-- ---- order

import_kept : (f : P.Field) → is_import (field_by bytes f) ≡ is_import f
import_kept (F.TypeField a b c) = refl
import_kept (F.ImportField a b c d) = refl
import_kept (F.FuncField a b c d e) = refl
import_kept (F.TableField a b) = refl
import_kept (F.MemoryField a b) = refl
import_kept (F.GlobalField a b c) = refl
import_kept (F.ExportField a b c) = refl
import_kept (F.StartField a) = refl
import_kept (F.ElemField a b c) = refl
import_kept (F.DataField a b c) = refl

start_kept : (f : P.Field) → is_start (field_by bytes f) ≡ is_start f
start_kept (F.TypeField a b c) = refl
start_kept (F.ImportField a b c d) = refl
start_kept (F.FuncField a b c d e) = refl
start_kept (F.TableField a b) = refl
start_kept (F.MemoryField a b) = refl
start_kept (F.GlobalField a b c) = refl
start_kept (F.ExportField a b c) = refl
start_kept (F.StartField a) = refl
start_kept (F.ElemField a b c) = refl
start_kept (F.DataField a b c) = refl

defines_kept : (f : P.Field) → defines (field_by bytes f) ≡ defines f
defines_kept (F.TypeField a b c) = refl
defines_kept (F.ImportField a b c d) = refl
defines_kept (F.FuncField a b c d e) = refl
defines_kept (F.TableField a b) = refl
defines_kept (F.MemoryField a b) = refl
defines_kept (F.GlobalField a b c) = refl
defines_kept (F.ExportField a b c) = refl
defines_kept (F.StartField a) = refl
defines_kept (F.ElemField a b c) = refl
defines_kept (F.DataField a b c) = refl

none_kept : (p : N.Field → Bool) (q : P.Field → Bool) → ((f : P.Field) → p (field_by bytes f) ≡ q f) → (fs : List P.Field) → none p (P.without_places fs) ≡ none q fs
none_kept p q kept [] = refl
none_kept p q kept (f ∷ fs) = ap₂ (λ b c. cond b false c) (kept f) (none_kept p q kept fs)

imports_kept : (fs : List P.Field) → imports_first (P.without_places fs) ≡ imports_first fs
imports_kept [] = refl
imports_kept (f ∷ fs) =
    ap (λ b. cond b (none is_import (P.without_places fs)) (imports_first (P.without_places fs))) (defines_kept f)
    ∙ ap₂ (λ b c. cond (defines f) b c) (none_kept (λ x. is_import x) (λ x. is_import x) import_kept fs) (imports_kept fs)

starts_kept : (fs : List P.Field) → one_start (P.without_places fs) ≡ one_start fs
starts_kept [] = refl
starts_kept (f ∷ fs) =
    ap (λ b. cond b (none is_start (P.without_places fs)) (one_start (P.without_places fs))) (start_kept f)
    ∙ ap₂ (λ b c. cond (is_start f) b c) (none_kept (λ x. is_start x) (λ x. is_start x) start_kept fs) (starts_kept fs)

pub order_kept : (fs : List P.Field) → in_order (P.without_places fs) ≡ in_order fs
order_kept fs = ap₂ (λ b c. b && c) (imports_kept fs) (starts_kept fs)
