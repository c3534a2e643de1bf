-- The rules on order, field after field.
use Rattle.std.proofs.Common.{◌≡◌, Bool, true, false, cond, List, [], ◌∷◌, refl}
use Rattle.std.specs.Prelude.{◌&&◌}
use Rattle.spec_text.specs.declared.KeyWord.{KeyWord}
use Rattle.spec_text.specs.Words.{Word}
use Rattle.spec_text.specs.FieldsOfPlaces as N
use Rattle.spec_text.specs.Grammar as G
use Rattle.text_tree.specs.Order.{is_import, is_start, none, imports_first, one_start}
use Rattle.text_tree.specs.Reading.{forbids_of, defined_behind, started_behind}
use Rattle.text_tree.specs.Texts.{OfField}

-- the fields are in order behind others, where something is defined or not, and started or not
abbrev pub stands : Bool → Bool → List N.Field → Bool
stands defined started fs = cond defined (none is_import fs) (imports_first fs) && cond started (none is_start fs) (one_start fs)

and_false : (b : Bool) → (b && false) ≡ false
and_false true = refl
and_false false = refl

defines : (d s : Bool) (gs : List N.Field) → (cond d (none is_import gs) (none is_import gs) && cond s (none is_start gs) (one_start gs)) ≡ stands true s gs
defines true s gs = refl
defines false s gs = refl

imports : (d s : Bool) (gs : List N.Field) → (cond d false (imports_first gs) && cond s (none is_start gs) (one_start gs)) ≡ cond d false (stands d s gs)
imports true s gs = refl
imports false s gs = refl

starts : (d s : Bool) (gs : List N.Field) → (cond d (none is_import gs) (imports_first gs) && cond s false (none is_start gs)) ≡ cond s false (stands d true gs)
starts d true gs = and_false (cond d (none is_import gs) (imports_first gs))
starts d false gs = refl

pub step : {key : KeyWord} {ws vs : List Word} {f : N.Field} → OfField key ws vs f → (d s : Bool) (gs : List N.Field)
    → stands d s (f ∷ gs) ≡ cond (forbids_of d s key) false (stands (defined_behind d key) (started_behind s key) gs)
step (G.type_field i b r) d s gs = refl
step (G.import_field m i c) d s gs = imports d s gs
step (G.func_field i x u l b) d s gs = defines d s gs
step (G.table_field i l) d s gs = defines d s gs
step (G.memory_field i l) d s gs = defines d s gs
step (G.global_field i t b) d s gs = defines d s gs
step (G.export_field u h i) d s gs = refl
step (G.start_field i) d s gs = starts d s gs
step (G.elem_field i b is) d s gs = refl
step (G.data_field i b x) d s gs = refl

pub none_left : (d s : Bool) → stands d s [] ≡ true
none_left true true = refl
none_left true false = refl
none_left false true = refl
none_left false false = refl
