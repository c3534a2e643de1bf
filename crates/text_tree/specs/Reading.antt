-- The parts of fields, as they are read from the front of words.
use Rattle.std.specs.Prelude.{ℕ, suc, Bool, true, false, List, [], ◌∷◌, ◌++◌, length, Option, Some, None, option_map, cond}
use Rattle.std.specs.Str.{is_utf8}
use Rattle.wtypes.specs.declared.ValType.{ValType}
use Rattle.spec_modules.specs.Syntax as S
use Rattle.spec_text.specs.declared.KeyWord.{KeyWord}
use Rattle.spec_text.specs.declared.KeyWord.TheVariants as k
use Rattle.spec_text.specs.Words.{Word, LeftBracket, RightBracket, Key, Number, Str}
use Rattle.spec_text.specs.FieldsOfPlaces as N
use Rattle.text_body.specs.declared.parts.Part.TheVariants as part
use Rattle.text_body.specs.Reading.{Read, ◌>>=◌, id_at, index_at, indices_at, close_at, next_at, repeated, bindings_at, results_at, use_at}
use Rattle.text_tree.specs.declared.parts.Inner.{Inner}
use Rattle.text_tree.specs.declared.parts.Inner.TheVariants as inner

-- ---- one after another

abbrev pub Pass : Type 0
Pass = List Word → Option (List Word)

-- one, then the other
abbrev pub both : {X Y : Type 0} → (List Word → Read X) → (List Word → Read Y) → List Word → Read (X × Y)
both r s ws = r ws >>= λ x. option_map (λ y. ((x.0, y.0), y.1)) (s x.1)

-- what is passed stands behind it, or before it
abbrev pub closing : {X : Type 0} → (List Word → Read X) → Pass → List Word → Read X
closing r c ws = r ws >>= λ x. option_map (λ us. (x.0, us)) (c x.1)

abbrev pub behind : {X : Type 0} → Pass → (List Word → Read X) → List Word → Read X
behind c r ws = c ws >>= r

-- what is made of it
abbrev pub made : {X Y : Type 0} → (X → Y) → (List Word → Read X) → List Word → Read Y
made f r ws = option_map (λ x. (f x.0, x.1)) (r ws)

-- ---- words

abbrev pub inner_key : Inner → KeyWord
inner_key inner.Module = k.Module
inner_key inner.Func = k.Func
inner_key inner.Offset = k.Offset
inner_key inner.Mut = k.Mut
inner_key inner.Funcref = k.Funcref

abbrev pub is_inner : Inner → KeyWord → Bool
is_inner inner.Module k.Module = true
is_inner inner.Func k.Func = true
is_inner inner.Offset k.Offset = true
is_inner inner.Mut k.Mut = true
is_inner inner.Funcref k.Funcref = true
is_inner p key = false

abbrev pub inner_at : Inner → Pass
inner_at p (Key key ∷ ws) = cond (is_inner p key) (Some ws) None
inner_at p ws = None

-- (
abbrev pub bracket_at : Pass
bracket_at (LeftBracket ∷ ws) = Some ws
bracket_at ws = None

abbrev pub opened_at : Inner → Pass
opened_at p ws = bracket_at ws >>= inner_at p

abbrev pub optional_at : List Word → Read (Option N.Placed)
optional_at ws = Some (id_at ws)

abbrev pub typed_at : List Word → Read ValType
typed_at (Key (k.Value t) ∷ ws) = Some (t, ws)
typed_at ws = None

-- a string that is UTF-8
abbrev pub utf8_in : List ℕ → Option (List ℕ)
utf8_in s = cond (is_utf8 s) (Some s) None

abbrev pub name_at : List Word → Read (List ℕ)
name_at (Str s ∷ ws) = option_map (λ n. (n, ws)) (utf8_in s)
name_at ws = None

abbrev pub kind_of_key : KeyWord → Option N.Kind
kind_of_key k.Func = Some N.OfFunc
kind_of_key k.Table = Some N.OfTable
kind_of_key k.Memory = Some N.OfMemory
kind_of_key k.Global = Some N.OfGlobal
kind_of_key key = None

abbrev pub kind_at : List Word → Read N.Kind
kind_at (Key key ∷ ws) = option_map (λ kind. (kind, ws)) (kind_of_key key)
kind_at ws = None

-- ---- types

abbrev pub number_at : List Word → Read N.Placed
number_at (Number text ∷ ws) = Some (text, ws)
number_at ws = None

-- a number, if there is one
abbrev pub next_number_at : List Word → Option N.Placed × List Word
next_number_at (Number text ∷ ws) = (Some text, ws)
next_number_at ws = (None, ws)

abbrev pub bounds : N.Placed → Option N.Placed → N.Bounds
bounds min max = record { min = min; max = max }

abbrev pub limits_at : List Word → Read N.Bounds
limits_at ws = option_map (λ min. (bounds min.0 (next_number_at min.1).0, (next_number_at min.1).1)) (number_at ws)

-- limits funcref )
abbrev pub table_type_at : List Word → Read N.Bounds
table_type_at ws = closing (closing limits_at (inner_at inner.Funcref)) close_at ws

-- limits )
abbrev pub memory_type_at : List Word → Read N.Bounds
memory_type_at ws = closing limits_at close_at ws

abbrev pub constant_of : ValType → S.GlobalType
constant_of t = record { type = t; is_mutable = false }

abbrev pub variable_of : ValType → S.GlobalType
variable_of t = record { type = t; is_mutable = true }

-- mut type )
abbrev pub variable_at : List Word → Read ValType
variable_at ws = behind (inner_at inner.Mut) (closing typed_at close_at) ws

abbrev pub global_type_at : List Word → Read S.GlobalType
global_type_at (LeftBracket ∷ ws) = made variable_of variable_at ws
global_type_at ws = made constant_of typed_at ws

-- ---- strings

-- str )
abbrev pub closed_name_at : List Word → Read (List ℕ)
closed_name_at ws = closing name_at close_at ws

abbrev pub next_export_at : List Word → Option (Option (List ℕ) × List Word)
next_export_at ws = next_at part.Export closed_name_at ws

abbrev pub exports_at : List Word → Read (List (List ℕ))
exports_at ws = repeated next_export_at (suc (length ws)) ws

-- a string, if there is one
abbrev pub next_string_at : List Word → Option (List ℕ) × List Word
next_string_at (Str s ∷ ws) = (Some s, ws)
next_string_at ws = (None, ws)

abbrev pub before_strings : List ℕ → List ℕ × List Word → List ℕ × List Word
before_strings s r = (s ++ r.0, r.1)

abbrev pub all_strings : List Word → List ℕ × List Word
all_strings (Str s ∷ ws) = before_strings s (all_strings ws)
all_strings ws = ([], ws)

abbrev pub strings_at : List Word → Read (List ℕ)
strings_at ws = Some (all_strings ws)

-- ---- descriptions

abbrev pub desc_of_kind : N.Kind → List Word → Read N.Desc
desc_of_kind N.OfFunc ws = made (λ u. N.FuncDesc u) (closing use_at close_at) ws
desc_of_kind N.OfTable ws = made (λ b. N.TableDesc b) table_type_at ws
desc_of_kind N.OfMemory ws = made (λ b. N.MemoryDesc b) memory_type_at ws
desc_of_kind N.OfGlobal ws = made (λ t. N.GlobalDesc t) (closing global_type_at close_at) ws

abbrev pub Described : Type 0
Described = Option N.Placed × N.Desc

-- behind a (
abbrev pub described_at : List Word → Read Described
described_at ws = kind_at ws >>= λ kind. both optional_at (desc_of_kind kind.0) kind.1

abbrev pub desc_at : List Word → Read Described
desc_at ws = behind bracket_at described_at ws

-- ---- fields without instructions, behind their words

abbrev pub Signature : Type 0
Signature = List N.Binding × List ValType

-- param* result* ) )
abbrev pub signature_at : List Word → Read Signature
signature_at ws = closing (closing (both (bindings_at part.Param) results_at) close_at) close_at ws

abbrev pub type_field_at : List Word → Read N.Field
type_field_at ws = made (λ p. N.TypeField p.0 p.1.0 p.1.1) (both optional_at (behind (opened_at inner.Func) signature_at)) ws

abbrev pub import_field_at : List Word → Read N.Field
import_field_at ws = made (λ p. N.ImportField p.0 p.1.0 p.1.1.0 p.1.1.1) (both name_at (both name_at (closing desc_at close_at))) ws

abbrev pub table_field_at : List Word → Read N.Field
table_field_at ws = made (λ p. N.TableField p.0 p.1) (both optional_at table_type_at) ws

abbrev pub memory_field_at : List Word → Read N.Field
memory_field_at ws = made (λ p. N.MemoryField p.0 p.1) (both optional_at memory_type_at) ws

-- kind idx ) )
abbrev pub exported_at : List Word → Read (N.Kind × N.Index)
exported_at ws = closing (closing (both kind_at index_at) close_at) close_at ws

abbrev pub export_field_at : List Word → Read N.Field
export_field_at ws = made (λ p. N.ExportField p.0 p.1.0 p.1.1) (both name_at (behind bracket_at exported_at)) ws

abbrev pub start_field_at : List Word → Read N.Field
start_field_at ws = made (λ i. N.StartField i) (closing index_at close_at) ws

abbrev pub short_field_at : KeyWord → List Word → Read N.Field
short_field_at k.Table ws = table_field_at ws
short_field_at k.Memory ws = memory_field_at ws
short_field_at k.Start ws = start_field_at ws
short_field_at key ws = None

abbrev pub plain_field_at : KeyWord → List Word → Read N.Field
plain_field_at k.Type ws = type_field_at ws
plain_field_at k.Import ws = import_field_at ws
plain_field_at k.Export ws = export_field_at ws
plain_field_at key ws = short_field_at key ws

-- ---- what stands before instructions, and behind them

abbrev pub Head : Type 0
Head = Option N.Placed × (List (List ℕ) × (N.TypeUse × List N.Binding))

abbrev pub func_head_at : List Word → Read Head
func_head_at ws = both optional_at (both exports_at (both use_at (bindings_at part.Local))) ws

abbrev pub global_head_at : List Word → Read (Option N.Placed × S.GlobalType)
global_head_at ws = both optional_at global_type_at ws

-- idx ( offset
abbrev pub segment_head_at : List Word → Read N.Index
segment_head_at ws = closing index_at (opened_at inner.Offset) ws

-- idx* )
abbrev pub elem_tail_at : List Word → Read (List N.Index)
elem_tail_at ws = closing indices_at close_at ws

-- str* )
abbrev pub data_tail_at : List Word → Read (List ℕ)
data_tail_at ws = closing strings_at close_at ws

-- ---- fields one after another

-- the module's ), or a ( and a word
abbrev pub next_key_at : List Word → Option (Option KeyWord × List Word)
next_key_at (RightBracket ∷ ws) = Some (None, ws)
next_key_at (LeftBracket ∷ Key key ∷ ws) = Some (Some key, ws)
next_key_at ws = None

-- whether a field that begins with this word stands too late, behind a definition, or behind a start
abbrev pub forbids_of : Bool → Bool → KeyWord → Bool
forbids_of defined started k.Import = defined
forbids_of defined started k.Start = started
forbids_of defined started key = false

abbrev pub defined_behind : Bool → KeyWord → Bool
defined_behind defined k.Func = true
defined_behind defined k.Table = true
defined_behind defined k.Memory = true
defined_behind defined k.Global = true
defined_behind defined key = defined

abbrev pub started_behind : Bool → KeyWord → Bool
started_behind started k.Start = true
started_behind started key = started
