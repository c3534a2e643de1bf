-- The parts of instructions, as they are read from the front of words.
use Rattle.std.specs.Prelude.{ℕ, zero, suc, Bool, true, false, List, [], ◌∷◌, length, Option, Some, None, option_map, option_and_then, cond}
use Rattle.wtypes.specs.declared.ValType.{ValType}
use Rattle.spec_text.specs.declared.KeyWord.{KeyWord}
use Rattle.spec_text.specs.declared.KeyWord.TheVariants as k
use Rattle.spec_text.specs.declared.Operator.{Operator}
use Rattle.spec_text.specs.declared.Operator.TheVariants as o
use Rattle.spec_text.specs.Words.{Word, LeftBracket, RightBracket, Key, OffsetIs, AlignIs, Id, Number}
use Rattle.spec_text.specs.FieldsOfPlaces as N
use Rattle.spec_text.specs.Grammar.{is_simple, is_indexed, are_unnamed}
use Rattle.text_body.specs.declared.parts.Part.{Part}
use Rattle.text_body.specs.declared.parts.Part.TheVariants as part

-- what is read and the words behind it, or None where it is not there
abbrev pub Read : Type 0 → Type 0
Read X = Option (X × List Word)

infixl 10 ◌>>=◌
abbrev pub ◌>>=◌ : {A B : Type 0} → Option A → (A → Option B) → Option B
o >>= f = option_and_then f o

-- ---- what may be there

abbrev pub id_at : List Word → Option N.Placed × List Word
id_at (Id id ∷ ws) = (Some id, ws)
id_at ws = (None, ws)

abbrev pub offset_at : List Word → Option N.Placed × List Word
offset_at (OffsetIs text ∷ ws) = (Some text, ws)
offset_at ws = (None, ws)

abbrev pub align_at : List Word → Option N.Placed × List Word
align_at (AlignIs text ∷ ws) = (Some text, ws)
align_at ws = (None, ws)

-- ---- indices

abbrev pub index_of_word : Word → Option N.Index
index_of_word (Number text) = Some (N.Numbered text)
index_of_word (Id id) = Some (N.Named id)
index_of_word _ = None

abbrev pub index_at : List Word → Read N.Index
index_at [] = None
index_at (w ∷ ws) = option_map (λ i. (i, ws)) (index_of_word w)

-- an index, if there is one
abbrev pub next_index_at : List Word → Option (Option N.Index × List Word)
next_index_at ws = elim (index_at ws) [ None ↦ Some (None, ws) | Some r ↦ Some (Some r.0, r.1) ]

-- ---- parts in brackets

abbrev pub key_of : Part → KeyWord
key_of part.Type = k.Type
key_of part.Param = k.Param
key_of part.Result = k.Result
key_of part.Local = k.Local
key_of part.Export = k.Export
key_of part.Else = k.Else

abbrev pub is_key : Part → KeyWord → Bool
is_key part.Type k.Type = true
is_key part.Param k.Param = true
is_key part.Result k.Result = true
is_key part.Local k.Local = true
is_key part.Export k.Export = true
is_key part.Else k.Else = true
is_key p key = false

abbrev pub behind_bracket : Part → List Word → Option (List Word)
behind_bracket p (Key key ∷ ws) = cond (is_key p key) (Some ws) None
behind_bracket p _ = None

-- the words behind the opening bracket and the word of the part, if it is there
abbrev pub ahead : Part → List Word → Option (List Word)
ahead p (LeftBracket ∷ ws) = behind_bracket p ws
ahead p _ = None

-- )
abbrev pub close_at : List Word → Option (List Word)
close_at (RightBracket ∷ ws) = Some ws
close_at _ = None

-- type )
abbrev pub valued_at : List Word → Read ValType
valued_at (Key (k.Value t) ∷ ws) = option_map (λ us. (t, us)) (close_at ws)
valued_at _ = None

-- $id? type )
abbrev pub binding_at : List Word → Read N.Binding
binding_at ws = option_map (λ r. (record { name = (id_at ws).0; type = r.0 }, r.1)) (valued_at (id_at ws).1)

-- the part, if it is there, and what one reads in it
abbrev pub next_at : {X : Type 0} → Part → (List Word → Read X) → List Word → Option (Option X × List Word)
next_at p one ws = elim (ahead p ws) [ None ↦ Some (None, ws) | Some us ↦ option_map (λ r. (Some r.0, r.1)) (one us) ]

abbrev pub more_of : {X : Type 0} → X → Read (List X) → Read (List X)
more_of x None = None
more_of x (Some r) = Some (x ∷ r.0, r.1)

-- so long as next finds one; the number bounds the turns, and more than the count of the words is always enough
unfoldable pub repeated : {X : Type 0} → (List Word → Option (Option X × List Word)) → ℕ → List Word → Read (List X)
repeated next zero ws = None
repeated next (suc n) ws = next ws >>= λ r. elim r.0 [ None ↦ Some ([], r.1) | Some x ↦ more_of x (repeated next n r.1) ]

abbrev pub indices_at : List Word → Read (List N.Index)
indices_at ws = repeated next_index_at (suc (length ws)) ws

abbrev pub bindings_at : Part → List Word → Read (List N.Binding)
bindings_at p ws = repeated (next_at p binding_at) (suc (length ws)) ws

abbrev pub results_at : List Word → Read (List ValType)
results_at ws = repeated (next_at part.Result valued_at) (suc (length ws)) ws

-- ( result type )?
abbrev pub result_at : List Word → Read (Option ValType)
result_at ws = next_at part.Result valued_at ws

-- $id? result?
abbrev pub header_at : List Word → Read (Option N.Placed × Option ValType)
header_at ws = option_map (λ r. (((id_at ws).0, r.0), r.1)) (result_at (id_at ws).1)

-- ---- typeuses

abbrev pub types_at : Option N.Index → List Word → Read N.TypeUse
types_at index ws = bindings_at part.Param ws >>= λ ps. option_map (λ rs. (record { index = index; params = ps.0; results = rs.0 }, rs.1)) (results_at ps.1)

-- idx )
abbrev pub closed_index_at : List Word → Read N.Index
closed_index_at ws = index_at ws >>= λ i. option_map (λ us. (i.0, us)) (close_at i.1)

abbrev pub use_at : List Word → Read N.TypeUse
use_at ws = elim (ahead part.Type ws) [ None ↦ types_at None ws | Some us ↦ closed_index_at us >>= λ i. types_at (Some i.0) i.1 ]

-- ---- plain instructions

abbrev pub const_at : ValType → List Word → Read N.Flat
const_at t (Number text ∷ ws) = Some (N.Const t text, ws)
const_at t _ = None

-- the items and the last one
abbrev pub with_front : {X : Type 0} → X → Option (List X × X) → List X × X
with_front x None = ([], x)
with_front x (Some r) = (x ∷ r.0, r.1)

abbrev pub last_of : {X : Type 0} → List X → Option (List X × X)
last_of [] = None
last_of (x ∷ xs) = Some (with_front x (last_of xs))

abbrev pub table_at : List Word → Read N.Flat
table_at ws = indices_at ws >>= λ found. option_map (λ r. (N.BrTable r.0 r.1, found.1)) (last_of found.0)

abbrev pub indirect_at : List Word → Read N.Flat
indirect_at ws = use_at ws >>= λ u. cond (are_unnamed u.0.params) (Some (N.CallIndirect u.0, u.1)) None

-- the offset, the alignment and the words behind them
abbrev pub argument_at : List Word → Option N.Placed × Option N.Placed × List Word
argument_at ws = ((offset_at ws).0, (align_at (offset_at ws).1).0, (align_at (offset_at ws).1).1)

abbrev pub other_at : Operator → List Word → Read N.Flat
other_at op ws = cond (is_simple op) (Some (N.Simple op, ws)) (cond (is_indexed op) (option_map (λ i. (N.Indexed op i.0, i.1)) (index_at ws)) None)

abbrev pub plain_at : Operator → List Word → Read N.Flat
plain_at (o.Const t) ws = const_at t ws
plain_at (o.Load op) ws = Some (N.Load op (argument_at ws).0 (argument_at ws).1, (argument_at ws).2)
plain_at (o.Store op) ws = Some (N.Store op (argument_at ws).0 (argument_at ws).1, (argument_at ws).2)
plain_at o.BrTable ws = table_at ws
plain_at o.CallIndirect ws = indirect_at ws
plain_at op ws = other_at op ws

-- ---- what the functions return, behind their references

-- the words that are left, if they were moved on
abbrev pub moved : Bool → List Word → Option (List Word)
moved true rest = Some rest
moved false rest = None
