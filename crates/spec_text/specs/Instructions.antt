-- A flat list of instructions with names becomes a sequence of instructions (Core 6.5, Instructions).
use Rattle.std.specs.Prelude.{◌≡◌, ℕ, ◌^◌, List, [], ◌∷◌, Option, Some, None}
use Rattle.wtypes.specs.declared.ValType.{ValType}
use Rattle.wtypes.specs.declared.LoadOp.{LoadOp}
use Rattle.wtypes.specs.declared.StoreOp.{StoreOp}
use Rattle.wtypes.specs.declared.Value.{Value}
use Rattle.wtypes.specs.declared.PlainInstr.{PlainInstr}
use Rattle.wtypes.specs.declared.PlainInstr.TheVariants as P
use Rattle.spec_modules.specs.Syntax as S
use Rattle.spec_modules.specs.Syntax.{Instr, Instrs}
use Rattle.spec_modules.specs.Storage.{load_width, store_width}
use Rattle.spec_text.specs.declared.Operator.{Operator}
use Rattle.spec_text.specs.declared.Operator.TheVariants as o
use Rattle.spec_text.specs.FieldsOfBytes
use Rattle.spec_text.specs.FieldsOfBytes.{Index, TypeUse, Flat}
use Rattle.spec_text.specs.Numbers.{IsU32, IsConstant}
use Rattle.spec_text.specs.Spaces.{Names, Spaces, Stands}
use Rattle.spec_text.specs.TypeUses.{Uses}

-- the index spaces that an instruction's index may be of
pub data Space : Type 0 where
  Labels Funcs Locals Globals : Space

-- what an operator with nothing after its name is (6.5.2, 6.5.3, 6.5.5, 6.5.6)
abbrev pub simple : Operator → Option PlainInstr
simple o.Unreachable = Some P.Unreachable
simple o.Nop = Some P.Nop
simple o.Return = Some P.Return
simple o.Drop = Some P.Drop
simple o.Select = Some P.Select
simple o.MemorySize = Some P.MemorySize
simple o.MemoryGrow = Some P.MemoryGrow
simple (o.Unary op) = Some (P.Unary op)
simple (o.Binary op) = Some (P.Binary op)
simple (o.Test op) = Some (P.Test op)
simple (o.Compare op) = Some (P.Compare op)
simple (o.Convert op) = Some (P.Convert op)
simple _ = None

-- the space of an operator's index, and what it makes of the number (6.5.2, 6.5.4)
abbrev pub indexed : Operator → Option (Space × (ℕ → PlainInstr))
indexed o.Br = Some (Labels, λ n. P.Br n)
indexed o.BrIf = Some (Labels, λ n. P.BrIf n)
indexed o.Call = Some (Funcs, λ n. P.Call n)
indexed o.LocalGet = Some (Locals, λ n. P.LocalGet n)
indexed o.LocalSet = Some (Locals, λ n. P.LocalSet n)
indexed o.LocalTee = Some (Locals, λ n. P.LocalTee n)
indexed o.GlobalGet = Some (Globals, λ n. P.GlobalGet n)
indexed o.GlobalSet = Some (Globals, λ n. P.GlobalSet n)
indexed _ = None

abbrev pub names_in : Spaces → (locals labels : Names) → Space → Names
names_in s locals labels Labels = labels
names_in s locals labels Funcs = s.funcs
names_in s locals labels Locals = locals
names_in s locals labels Globals = s.globals

-- 6.5.5: offset ::= 'offset='o:u32 ⇒ o | ε ⇒ 0
pub data OffsetOf : Option (List ℕ) → ℕ → Type 0 where
  -- ε ⇒ 0
  no_offset : OffsetOf None 0
  -- 'offset='o:u32 ⇒ o
  an_offset : {text : List ℕ} {n : ℕ} → IsU32 text n → OffsetOf (Some text) n

-- 6.5.5: memarg_N ::= o:offset a:align_N ⇒ {align n, offset o} (if a = 2ⁿ), where N is the width in bytes
-- align_N ::= 'align='a:u32 ⇒ a | ε ⇒ N
pub data AlignOf (width : ℕ) : Option (List ℕ) → ℕ → Type 0 where
  -- ε ⇒ N
  no_align : {e : ℕ} → width ≡ 2 ^ e → AlignOf width None e
  -- 'align='a:u32 ⇒ a
  an_align : {text : List ℕ} {e : ℕ} → IsU32 text (2 ^ e) → AlignOf width (Some text) e

-- 6.1.4: vec(A) ::= xⁿ:Aⁿ ⇒ xⁿ, of indices
pub data AllStand (names : Names) : List Index → List ℕ → Type 0 where
  none_stands : AllStand names [] []
  one_stands : {i : Index} {n : ℕ} {is : List Index} {ns : List ℕ} → Stands names i n → AllStand names is ns → AllStand names (i ∷ is) (n ∷ ns)

-- A flat instruction that holds no other is this instruction (6.5.2 to 6.5.6: plaininstr_I).
pub data Becomes (s : Spaces) (locals labels : Names) : Flat → Instr → Type 0 where
  -- 'nop' ⇒ nop, and so for each other name with nothing after it
  simply : {op : Operator} {i : PlainInstr} → simple op ≡ Some i → Becomes s locals labels (FieldsOfBytes.Simple op) (S.Plain i)
  -- 'br' l:labelidx_I ⇒ br l, and so for each other name with one index
  with_index : {op : Operator} {space : Space} {make : ℕ → PlainInstr} {i : Index} {n : ℕ} → indexed op ≡ Some (space, make) → Stands (names_in s locals labels space) i n
      → Becomes s locals labels (FieldsOfBytes.Indexed op i) (S.Plain (make n))
  -- 'br_table' l*:vec(labelidx_I) l_N:labelidx_I ⇒ br_table l* l_N
  br_table : {is : List Index} {last : Index} {ns : List ℕ} {n : ℕ} → AllStand labels is ns → Stands labels last n → Becomes s locals labels (FieldsOfBytes.BrTable is last) (S.BrTable ns n)
  -- 'call_indirect' x,I′:typeuse_I ⇒ call_indirect x
  call_indirect : {w : TypeUse} {i : ℕ} {ns : Names} → Uses s.type_names s.types w i ns → Becomes s locals labels (FieldsOfBytes.CallIndirect w) (S.Plain (P.CallIndirect i))
  -- 'i32.load' m:memarg₄ ⇒ i32.load m, and so for each other load
  load : {op : LoadOp} {offset align : Option (List ℕ)} {o a : ℕ} → OffsetOf offset o → AlignOf (load_width op) align a → Becomes s locals labels (FieldsOfBytes.Load op offset align) (S.Plain (P.Load op a o))
  -- 'i32.store' m:memarg₄ ⇒ i32.store m, and so for each other store
  store : {op : StoreOp} {offset align : Option (List ℕ)} {o a : ℕ} → OffsetOf offset o → AlignOf (store_width op) align a → Becomes s locals labels (FieldsOfBytes.Store op offset align) (S.Plain (P.Store op a o))
  -- 'i32.const' n:i32 ⇒ i32.const n, 'i64.const' n:i64 ⇒ i64.const n
  const : {t : ValType} {text : List ℕ} {c : Value} → IsConstant t text c → Becomes s locals labels (FieldsOfBytes.Const t text) (S.Plain (P.Const c))

-- 6.5.2: after 'end' and 'else' stands no name, or the label's (if id? = ε ∨ id? = label)
pub data Closes : (label closing : Option (List ℕ)) → Type 0 where
  not_named : {label : Option (List ℕ)} → Closes label None
  named_again : {id : List ℕ} → Closes (Some id) (Some id)

-- 6.5.2: blockinstr_I. The flat instructions fs, up to gs, are this sequence; a block's instructions are read with its label before the others,
-- so that label 0 is the innermost (6.5.1: label_I ::= v:id ⇒ {labels v} ⊕ I | ε ⇒ {labels (ε)} ⊕ I). A label hides an equal outer one.
pub data Body (s : Spaces) (locals : Names) : (labels : Names) (fs gs : List Flat) → Instrs → Type 0 where
  -- ε
  nothing : {labels : Names} {fs : List Flat} → Body s locals labels fs fs S.nothing
  -- in:plaininstr_I, and more
  plain : {labels : Names} {f : Flat} {i : Instr} {fs gs : List Flat} {is : Instrs} → Becomes s locals labels f i → Body s locals labels fs gs is → Body s locals labels (f ∷ fs) gs (S.seq i is)
  -- 'block' I′:label_I [t?]:resulttype (in:instr_I′)* 'end' id? ⇒ block [t?] in* end, and more
  block : {labels : Names} {label closing : Option (List ℕ)} {result : Option ValType} {fs hs gs : List Flat} {body is : Instrs}
      → Body s locals (label ∷ labels) fs (FieldsOfBytes.End closing ∷ hs) body → Closes label closing → Body s locals labels hs gs is
      → Body s locals labels (FieldsOfBytes.Opens FieldsOfBytes.Block label result ∷ fs) gs (S.seq (S.Block result body) is)
  -- 'loop' I′:label_I [t?]:resulttype (in:instr_I′)* 'end' id? ⇒ loop [t?] in* end, and more
  loop : {labels : Names} {label closing : Option (List ℕ)} {result : Option ValType} {fs hs gs : List Flat} {body is : Instrs}
      → Body s locals (label ∷ labels) fs (FieldsOfBytes.End closing ∷ hs) body → Closes label closing → Body s locals labels hs gs is
      → Body s locals labels (FieldsOfBytes.Opens FieldsOfBytes.Loop label result ∷ fs) gs (S.seq (S.Loop result body) is)
  -- 'if' I′:label_I [t?]:resulttype (in:instr_I′)* 'end' id? ⇒ if [t?] in* else end, and more
  if_then : {labels : Names} {label closing : Option (List ℕ)} {result : Option ValType} {fs hs gs : List Flat} {body is : Instrs}
      → Body s locals (label ∷ labels) fs (FieldsOfBytes.End closing ∷ hs) body → Closes label closing → Body s locals labels hs gs is
      → Body s locals labels (FieldsOfBytes.Opens FieldsOfBytes.If label result ∷ fs) gs (S.seq (S.If result body S.nothing) is)
  -- 'if' I′:label_I [t?]:resulttype (in₁:instr_I′)* 'else' id₁? (in₂:instr_I′)* 'end' id₂? ⇒ if [t?] in₁* else in₂* end, and more
  if_else : {labels : Names} {label other closing : Option (List ℕ)} {result : Option ValType} {fs es hs gs : List Flat} {body else_body is : Instrs}
      → Body s locals (label ∷ labels) fs (FieldsOfBytes.Else other ∷ es) body → Closes label other → Body s locals (label ∷ labels) es (FieldsOfBytes.End closing ∷ hs) else_body → Closes label closing
      → Body s locals labels hs gs is → Body s locals labels (FieldsOfBytes.Opens FieldsOfBytes.If label result ∷ fs) gs (S.seq (S.If result body else_body) is)
