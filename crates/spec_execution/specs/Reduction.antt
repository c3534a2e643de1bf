-- The reduction of configurations (Core 4.4, Instructions). The headings are the standard's sections. "Own" marks what this product adds: the
-- charge, which is 1 for an instruction of the code and 0 else; what an import asks of the host; and two limits, 1,024 pages
-- (`page_limit`; in version 1 `old_page_limit`) and 256 frames (`frame_limit`).
use Rattle.std.specs.Int.{cast_signed, w64}
use Rattle.std.specs.Prelude.{ℕ, ℤ, zero, suc, ◌+◌, ◌-◌, ◌*◌, ◌/◌, ◌%◌, ◌^◌, min, max, Bool, true, false, ◌&&◌, ◌==◌, nat_lt, nat_le, if◌then◌else◌, List, [], ◌∷◌, ◌++◌, length, map, take, drop, reverse, replicate, Option, Some, None, Result, Ok, Err, slice_get, slice_set, unwrap_or, option_map}
use Rattle.wtypes.specs.declared.ValType.{ValType}
use Rattle.wtypes.specs.declared.ValType.TheVariants.{I32}
use Rattle.wtypes.specs.declared.Value.{Value}
use Rattle.wtypes.specs.declared.Value.TheVariants as value
use Rattle.wtypes.specs.declared.TrapCode.{TrapCode}
use Rattle.wtypes.specs.declared.TrapCode.TheVariants as trap
use Rattle.wtypes.specs.declared.PlainInstr.{PlainInstr}
use Rattle.wtypes.specs.declared.PlainInstr.TheVariants.{Unreachable, Nop, Br, BrIf, Return, Call, CallIndirect, Drop, Select, LocalGet, LocalSet, LocalTee, GlobalGet, GlobalSet, Load, Store, MemorySize, MemoryGrow, Const, Unary, Binary, Test, Compare, Convert}
use Rattle.spec_modules.specs.Syntax.{Instr, Plain, BrTable, Block, Loop, If, Instrs, nothing, seq, FuncType, Limits}
use Rattle.spec_modules.specs.Shape.{size}
use Rattle.spec_ledger.specs.declared.CellKey.{CellKey}
use Rattle.spec_ledger.specs.declared.Op.{Op}
use Rattle.spec_ledger.specs.declared.Op.TheVariants as op
use Rattle.spec_ledger.specs.declared.Reply.{Reply}
use Rattle.spec_ledger.specs.declared.Reply.TheVariants as reply
use Rattle.wtypes.specs.declared.HostCall.{HostCall}
use Rattle.wtypes.specs.declared.HostCall.TheVariants as host
use Rattle.spec_ledger.specs.declared.Version.{Version}
use Rattle.spec_ledger.specs.declared.Version.TheVariants.{One, Two}
use Rattle.spec_modules.specs.Profile.{page_limit, page_size, frame_limit}
use Rattle.spec_modules.specs.Operators.{same_type, type_of, bits_of, value_of, word, truth, unary, unary_type, binary, binary_type, test, test_type, compare, compare_type, convert, convert_from, convert_to}
use Rattle.spec_modules.specs.Storage.{load_type, load_width, extended, store_type, store_width}
use Rattle.spec_modules.specs.Memory.{load, store}
use Rattle.spec_execution.specs.Configuration.{Contract, Function, Hosted, Defined, function_at, function_type, Seq, End, Val, Code, Free, Label, Frame, Invoke, code, values, State}

-- What a call of an import asks of the host: an operation on storage; a run of an export of a contract, with this argument; or the answer to the
-- last of these.
pub data HostEffect : Type 0 where
  Of : Op → HostEffect
  Ask : (contract export : ℕ) (argument : ℤ) → HostEffect
  Answer : HostEffect

-- What a sequence does next, seen from inside the labels and frames around it.
pub data Next : Type 0 where
  -- it reduces to this one
  Goes : (charge : ℕ) → State → Seq → Next
  -- it reduces to a trap
  Traps : (charge : ℕ) → TrapCode → Next
  -- it asks the host, and by a reply it goes on with this one
  Asks : HostEffect → (Reply → Seq) → Next
  -- it branches to the label so many labels out, with these values before the branch, topmost first
  Branches : (charge : ℕ) (label : ℕ) → List Value → Next
  -- it returns, with these values before the return, topmost first
  Returns : (charge : ℕ) → List Value → Next
  -- it is values, topmost first
  Ended : List Value → Next
  -- no rule fits
  Stuck : Next

-- ---- what an instruction takes from the stack (4.4: "pop the value from the stack"). The standard's assertions, due to validation, are Stuck

-- the topmost value's number, where the value is of this type, and the values below
abbrev pub with_number : ValType → List Value → (ℕ → List Value → Next) → Next
with_number t [] go = Stuck
with_number t (v ∷ vs) go = if same_type t (type_of v) then go (bits_of v) vs else Stuck

-- the topmost value, and the values below
abbrev pub with_value : List Value → (Value → List Value → Next) → Next
with_value [] go = Stuck
with_value (v ∷ vs) go = go v vs

-- the topmost n values, and the values below
abbrev pub with_values : ℕ → List Value → (List Value → List Value → Next) → Next
with_values n vs go = if nat_le n (length vs) then go (take n vs) (drop n vs) else Stuck

abbrev pub found : {X : Type 0} → Option X → (X → Next) → Next
found None go = Stuck
found (Some x) go = go x

-- what comes of an operator, a load or a store, or its trap
abbrev pub answered : {X : Type 0} → ℕ → Result X TrapCode → (X → Next) → Next
answered charge (Ok x) go = go x
answered charge (Err code) go = Traps charge code

abbrev pub arity : Option ValType → ℕ
arity None = 0
arity (Some t) = 1

-- ---- 4.4.4, memory instructions

-- the pages of a memory of this length (4.2.8, Memory Instances)
abbrev pub pages : List ℕ → ℕ
pages memory = length memory / page_size

-- the limit of version 1
abbrev pub old_page_limit : ℕ
old_page_limit = 256

-- the most pages that a memory of this minimum grows to, where it declares no maximum: own
abbrev pub pages_of : Version → ℕ → ℕ
pages_of One min = max old_page_limit min
pages_of Two min = page_limit

-- the most pages that memory grows to; own: a declared maximum counts where it is below these
abbrev pub most_pages : Version → List Limits → ℕ
most_pages v [] = page_limit
most_pages v (l ∷ ls) = min (pages_of v l.min) (unwrap_or l.max (pages_of v l.min))

abbrev pub with_memory : State → List ℕ → State
with_memory s memory = record s { memory = memory }

-- t.load memarg, t.loadN_sx memarg
unfoldable pub loaded : ℕ → State → ValType → ℕ → (ℕ → ℕ) → ℕ → List Value → Seq → Next
loaded charge s t bytes extend at vs rest =
    answered charge (load s.memory at bytes) (λ x. Goes charge s (values vs (Val (value_of t (extend x)) rest)))

-- t.store memarg, t.storeN memarg
unfoldable pub stored : ℕ → State → ℕ → ℕ → ℕ → List Value → Seq → Next
stored charge s bytes at x vs rest =
    answered charge (store s.memory at bytes x) (λ memory. Goes charge (with_memory s memory) (values vs rest))

-- memory.grow, which never fails for lack of memory: own
unfoldable pub grown : Contract → ℕ → State → ℕ → List Value → Seq → Next
grown c charge s delta vs rest =
    let old = pages s.memory in
    if nat_le (old + delta) (most_pages c.version c.deployed.tree.memories)
    then Goes charge (with_memory s (s.memory ++ replicate (page_size * delta) 0)) (values vs (Val (value_of I32 old) rest))
    else Goes charge s (values vs (Val (value_of I32 (2 ^ 32 - 1)) rest))

-- ---- 4.4.5, call_indirect

abbrev pub same_types : List ValType → List ValType → Bool
same_types [] [] = true
same_types (t ∷ ts) (u ∷ us) = same_type t u && same_types ts us
same_types ts us = false

abbrev pub same_function_type : FuncType → FuncType → Bool
same_function_type a b = same_types a.params b.params && same_types a.results b.results

-- a call of an element of the table, by the type that it must have
abbrev pub indirect : Contract → ℕ → State → FuncType → Option (Option ℕ) → List Value → Seq → Next
indirect c charge s t None vs rest = Traps charge trap.ElementOutOfTable
indirect c charge s t (Some None) vs rest = Traps charge trap.EmptyElement
indirect c charge s t (Some (Some f)) vs rest =
    found (function_at c.deployed f) (λ g. if same_function_type t (function_type g) then Goes charge s (values vs (Invoke f rest)) else Traps charge trap.TypeMismatch)

-- ---- own: the host's functions

-- the bits of the argument at this place, the first being 0
abbrev pub number_at : List Value → ℕ → ℕ
number_at args i = unwrap_or (option_map bits_of (slice_get args i)) 0

-- its low 32 bits
abbrev pub word_at : List Value → ℕ → ℕ
word_at args i = number_at args i % 2 ^ 32

-- the cell that the first argument names
abbrev pub place_of_key : ℕ → List Value → CellKey
place_of_key contract args = record { contract = contract; key = number_at args 0 }

-- what an import asks of the host, which a contract calls with these arguments
abbrev pub effect_of : ℕ → HostCall → List Value → HostEffect
effect_of contract host.Get args = Of (op.Get (place_of_key contract args))
effect_of contract host.Has args = Of (op.Has (place_of_key contract args))
effect_of contract host.Put args = Of (op.Put (place_of_key contract args) (number_at args 1))
effect_of contract host.Del args = Of (op.Del (place_of_key contract args))
effect_of contract host.Add args = Of (op.Add (place_of_key contract args) (number_at args 1))
effect_of contract host.Total args = Of (op.Total (place_of_key contract args))
effect_of contract host.Ask args = Ask (word_at args 0) (word_at args 1) (cast_signed w64 (number_at args 2))
effect_of contract host.Answer args = Answer

-- the value that the host's reply puts on the stack, if any
abbrev pub replied : Reply → Seq → Seq
replied reply.Nothing rest = rest
replied (reply.I32 x) rest = Val (value.I32 x) rest
replied (reply.I64 x) rest = Val (value.I64 x) rest

-- ---- 4.4.7, function calls

-- a local that is no parameter begins at 0
abbrev pub zero_of : ValType → Value
zero_of t = value_of t 0

-- Invocation: function number f is invoked with these arguments, the first one first, with so many frames around.
-- Own: a host's function asks the host; in the innermost of `frame_limit` frames an invocation traps.
abbrev pub invoke : Contract → ℕ → State → ℕ → Function → List Value → List Value → Seq → Next
invoke c frames s f (Hosted h) args vs rest = Asks (effect_of c.number h args) (λ r. values vs (replied r rest))
invoke c frames s f (Defined t g) args vs rest =
    let n = length t.results in
    if nat_lt frames frame_limit
    then Goes 0 s (values vs (Frame f n (args ++ map zero_of g.locals) (Label n 0 nothing (code 0 g.body End) End) rest))
    else Traps 0 trap.CallDepth

-- ---- 4.4.1 to 4.4.5, instructions

-- An instruction that holds no other one, with these values before it, topmost first, and the rest behind it.
unfoldable pub execute_plain : Contract → State → (charge : ℕ) → PlainInstr → List Value → Seq → Next
-- 4.4.1, numeric instructions
execute_plain c s n (Const v) vs rest = Goes n s (values vs (Val v rest))
execute_plain c s n (Unary o) vs rest =
    with_number (unary_type o) vs (λ a vs. Goes n s (values vs (Val (value_of (unary_type o) (unary (word (unary_type o)) o a)) rest)))
execute_plain c s n (Binary o) vs rest =
    with_number (binary_type o) vs (λ b vs. with_number (binary_type o) vs (λ a vs.
    answered n (binary (word (binary_type o)) o a b) (λ x. Goes n s (values vs (Val (value_of (binary_type o) x) rest)))))
execute_plain c s n (Test o) vs rest =
    with_number (test_type o) vs (λ a vs. Goes n s (values vs (Val (truth (test o a)) rest)))
execute_plain c s n (Compare o) vs rest =
    with_number (compare_type o) vs (λ b vs. with_number (compare_type o) vs (λ a vs.
    Goes n s (values vs (Val (truth (compare (word (compare_type o)) o a b)) rest))))
execute_plain c s n (Convert o) vs rest =
    with_number (convert_from o) vs (λ a vs. Goes n s (values vs (Val (value_of (convert_to o) (convert o a)) rest)))
-- 4.4.2, parametric instructions
execute_plain c s n Drop vs rest = with_value vs (λ a vs. Goes n s (values vs rest))
execute_plain c s n Select vs rest =
    with_number I32 vs (λ k vs. with_value vs (λ b vs. with_value vs (λ a vs. Goes n s (values vs (Val (if k == 0 then b else a) rest)))))
-- 4.4.3, variable instructions
execute_plain c s n (LocalGet x) vs rest = found (slice_get s.locals x) (λ v. Goes n s (values vs (Val v rest)))
execute_plain c s n (LocalSet x) vs rest =
    with_value vs (λ v vs. found (slice_get s.locals x) (λ old. Goes n (record s { locals = slice_set s.locals x v }) (values vs rest)))
execute_plain c s n (LocalTee x) vs rest = with_value vs (λ v vs. Goes n s (values vs (Val v (Val v (Free (Plain (LocalSet x)) rest)))))
execute_plain c s n (GlobalGet x) vs rest = found (slice_get s.globals x) (λ v. Goes n s (values vs (Val v rest)))
execute_plain c s n (GlobalSet x) vs rest =
    with_value vs (λ v vs. found (slice_get s.globals x) (λ old. Goes n (record s { globals = slice_set s.globals x v }) (values vs rest)))
-- 4.4.4, memory instructions
execute_plain c s n (Load o align offset) vs rest =
    with_number I32 vs (λ a vs. loaded n s (load_type o) (load_width o) (extended o) (a + offset) vs rest)
execute_plain c s n (Store o align offset) vs rest =
    with_number (store_type o) vs (λ x vs. with_number I32 vs (λ a vs. stored n s (store_width o) (a + offset) x vs rest))
execute_plain c s n MemorySize vs rest = Goes n s (values vs (Val (value_of I32 (pages s.memory)) rest))
execute_plain c s n MemoryGrow vs rest = with_number I32 vs (λ delta vs. grown c n s delta vs rest)
-- 4.4.5, control instructions
execute_plain c s n Nop vs rest = Goes n s (values vs rest)
execute_plain c s n Unreachable vs rest = Traps n trap.Unreachable
execute_plain c s n (Br label) vs rest = Branches n label vs
execute_plain c s n (BrIf label) vs rest =
    with_number I32 vs (λ k vs. Goes n s (values vs (if k == 0 then rest else Free (Plain (Br label)) rest)))
execute_plain c s n Return vs rest = Returns n vs
execute_plain c s n (Call f) vs rest = Goes n s (values vs (Invoke f rest))
execute_plain c s n (CallIndirect t) vs rest =
    with_number I32 vs (λ k vs. found (slice_get c.deployed.tree.types t) (λ type. indirect c n s type (slice_get s.table k) vs rest))

-- The same for any instruction; at is its ordinal. 4.4.5: br_table, block, loop and if, which enter a block with a label (4.4.6)
unfoldable pub execute : Contract → State → (charge at : ℕ) → Instr → List Value → Seq → Next
execute c s n at (Plain i) vs rest = execute_plain c s n i vs rest
execute c s n at (BrTable labels fallback) vs rest =
    with_number I32 vs (λ k vs. Goes n s (values vs (Free (Plain (Br (unwrap_or (slice_get labels k) fallback))) rest)))
execute c s n at (Block result body) vs rest = Goes n s (values vs (Label (arity result) at nothing (code (at + 1) body End) rest))
execute c s n at (Loop result body) vs rest = Goes n s (values vs (Label 0 at (seq (Loop result body) nothing) (code (at + 1) body End) rest))
execute c s n at (If result a b) vs rest =
    with_number I32 vs (λ k vs. Goes n s (values vs (Label (arity result) at nothing (if k == 0 then code (at + 1 + size a) b End else code (at + 1) a End) rest)))

-- ---- 4.2.13, evaluation contexts; 4.4.6, blocks; 4.4.7, returning from a function

-- What a label does by what the sequence inside it does; vs are the values before the label, topmost first. A branch to it goes on with its
-- continuation (4.4.5, br); values inside it leave it (4.4.6, exiting).
abbrev pub in_label : State → (arity ordinal : ℕ) → Instrs → List Value → Seq → Next → Next
in_label s n at k vs rest (Goes charge s' inside) = Goes charge s' (values vs (Label n at k inside rest))
in_label s n at k vs rest (Traps charge t) = Traps charge t
in_label s n at k vs rest (Asks o go) = Asks o (λ r. values vs (Label n at k (go r) rest))
in_label s n at k vs rest (Branches charge zero ws) = with_values n ws (λ top below. Goes charge s (values vs (values top (code at k rest))))
in_label s n at k vs rest (Branches charge (suc l) ws) = Branches charge l ws
in_label s n at k vs rest (Returns charge ws) = Returns charge ws
in_label s n at k vs rest (Ended ws) = Goes 0 s (values vs (values ws rest))
in_label s n at k vs rest Stuck = Stuck

-- The same for a frame; s is the state outside it. A return (4.4.5) and values inside it leave it (4.4.7, returning).
abbrev pub in_frame : State → (func arity : ℕ) → List Value → List Value → Seq → Next → Next
in_frame s f n locals vs rest (Goes charge s' inside) = Goes charge (record s' { locals = s.locals }) (values vs (Frame f n s'.locals inside rest))
in_frame s f n locals vs rest (Traps charge t) = Traps charge t
in_frame s f n locals vs rest (Asks o go) = Asks o (λ r. values vs (Frame f n locals (go r) rest))
in_frame s f n locals vs rest (Branches charge l ws) = Stuck
in_frame s f n locals vs rest (Returns charge ws) = with_values n ws (λ top below. Goes charge s (values vs (values top rest)))
in_frame s f n locals vs rest (Ended ws) = Goes 0 s (values vs (values ws rest))
in_frame s f n locals vs rest Stuck = Stuck

-- What a sequence does next, in a state, with so many frames around and with these values before it, topmost first.
unfoldable pub reduce : Contract → ℕ → State → List Value → Seq → Next
reduce c frames s vs End = Ended vs
reduce c frames s vs (Val v rest) = reduce c frames s (v ∷ vs) rest
reduce c frames s vs (Code at i rest) = execute c s 1 at i vs rest
reduce c frames s vs (Free i rest) = execute c s 0 0 i vs rest
reduce c frames s vs (Label n at k inside rest) = in_label s n at k vs rest (reduce c frames s [] inside)
reduce c frames s vs (Frame f n locals inside rest) =
    in_frame s f n locals vs rest (reduce c (frames + 1) (record s { locals = locals }) [] inside)
reduce c frames s vs (Invoke f rest) =
    found (function_at c.deployed f) (λ g. with_values (length (function_type g).params) vs (λ top below. invoke c frames s f g (reverse top) below rest))
