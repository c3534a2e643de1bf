-- Reading expressions from left to right.
use Rattle.std.specs.Prelude.{ℕ, zero, suc, List, [], ◌∷◌, length, Option, Some, None, option_map, ◌==◌, ◌||◌, nat_le, if◌then◌else◌}
use Rattle.wtypes.specs.declared.ValType.{ValType}
use Rattle.wtypes.specs.declared.ValType.TheVariants as valtype
use Rattle.wtypes.specs.declared.Value.TheVariants as value
use Rattle.wtypes.specs.declared.PlainInstr.{PlainInstr}
use Rattle.wtypes.specs.declared.PlainInstr.TheVariants.{Br, BrIf, Call, CallIndirect, LocalGet, LocalSet, LocalTee, GlobalGet, GlobalSet, Load, Store, MemorySize, MemoryGrow, Const}
use Rattle.spec_modules.specs.Syntax.{Instr, Plain, BrTable, Block, Loop, If, Instrs, nothing, seq}
use Rattle.spec_modules.specs.Profile.{label_limit}
use Rattle.spec_modules.specs.Reading.{Read, ◌>>=◌, unsigned_at, signed_at}
use Rattle.laws_modules.specs.Opcodes.{simple_at, load_at, store_at}

-- one byte
unfoldable pub byte_at : ℕ → List ℕ → Option (List ℕ)
byte_at k [] = None
byte_at k (b ∷ bs) = if b == k then Some bs else None

-- so many items
unfoldable pub items_at : {X : Type 0} → (List ℕ → Read X) → ℕ → List ℕ → Read (List X)
items_at one zero bs = Some ([], bs)
items_at one (suc n) bs = one bs >>= λ r. option_map (λ s. (r.0 ∷ s.0, s.1)) (items_at one n r.1)

-- a count, and that many items
unfoldable pub vector_at : {X : Type 0} → (List ℕ → Read X) → List ℕ → Read (List X)
vector_at one bs = unsigned_at 32 bs >>= λ n. items_at one n.0 n.1

-- an alignment and an offset
unfoldable pub memarg_at : List ℕ → Read (ℕ × ℕ)
memarg_at bs = unsigned_at 32 bs >>= λ a. option_map (λ o. ((a.0, o.0), o.1)) (unsigned_at 32 a.1)

-- the instructions with one index
unfoldable pub index_at : ℕ → List ℕ → Read PlainInstr
index_at b bs =
    if b == 0x0C then option_map (λ r. (Br r.0, r.1)) (unsigned_at 32 bs)
    else (if b == 0x0D then option_map (λ r. (BrIf r.0, r.1)) (unsigned_at 32 bs)
    else (if b == 0x10 then option_map (λ r. (Call r.0, r.1)) (unsigned_at 32 bs)
    else (if b == 0x20 then option_map (λ r. (LocalGet r.0, r.1)) (unsigned_at 32 bs)
    else (if b == 0x21 then option_map (λ r. (LocalSet r.0, r.1)) (unsigned_at 32 bs)
    else (if b == 0x22 then option_map (λ r. (LocalTee r.0, r.1)) (unsigned_at 32 bs)
    else (if b == 0x23 then option_map (λ r. (GlobalGet r.0, r.1)) (unsigned_at 32 bs)
    else (if b == 0x24 then option_map (λ r. (GlobalSet r.0, r.1)) (unsigned_at 32 bs)
    else None)))))))

-- the constants, and the instructions with a zero byte
unfoldable pub other_at : ℕ → List ℕ → Read PlainInstr
other_at b bs =
    if b == 0x11 then (unsigned_at 32 bs >>= λ r. option_map (λ s. (CallIndirect r.0, s)) (byte_at 0x00 r.1))
    else (if b == 0x3F then option_map (λ s. (MemorySize, s)) (byte_at 0x00 bs)
    else (if b == 0x40 then option_map (λ s. (MemoryGrow, s)) (byte_at 0x00 bs)
    else (if b == 0x41 then option_map (λ r. (Const (value.I32 r.0), r.1)) (signed_at 32 bs)
    else (if b == 0x42 then option_map (λ r. (Const (value.I64 r.0), r.1)) (signed_at 64 bs)
    else index_at b bs))))

-- the first that is there
abbrev pub by_simple : Option PlainInstr → List ℕ → Read PlainInstr → Read PlainInstr
by_simple None bs next = next
by_simple (Some op) bs next = Some (op, bs)

abbrev pub by_access : {Op : Type 0} → (Op → ℕ → ℕ → PlainInstr) → Option Op → List ℕ → Read PlainInstr → Read PlainInstr
by_access make None bs next = next
by_access make (Some op) bs next = option_map (λ r. (make op r.0.0 r.0.1, r.1)) (memarg_at bs)

-- the instruction behind its first byte
unfoldable pub plain_at : ℕ → List ℕ → Read PlainInstr
plain_at b bs = by_simple (simple_at b) bs (by_access (λ op a o. Load op a o) (load_at b) bs (by_access (λ op a o. Store op a o) (store_at b) bs (other_at b bs)))

unfoldable pub result_at : List ℕ → Read (Option ValType)
result_at [] = None
result_at (b ∷ bs) =
    if b == 0x40 then Some (None, bs)
    else (if b == 0x7F then Some (Some valtype.I32, bs)
    else (if b == 0x7E then Some (Some valtype.I64, bs)
    else None))

-- labels within the limit, and the default label
unfoldable pub table_at : List ℕ → Read Instr
table_at bs =
    unsigned_at 32 bs >>= λ n. if nat_le n.0 label_limit
    then (items_at (unsigned_at 32) n.0 n.1 >>= λ ls. option_map (λ l. (BrTable ls.0 l.0, l.1)) (unsigned_at 32 ls.1))
    else None

-- instructions, the byte that closes them (end or else), and the bytes after it
abbrev pub Body : Type 0
Body = Option (Instrs × ℕ × List ℕ)

-- the number bounds the turns; the count of the bytes is always enough
unfoldable pub seq_at : (ℕ → List ℕ → Read Instr) → ℕ → List ℕ → Body
seq_at one zero bs = None
seq_at one (suc n) [] = None
seq_at one (suc n) (b ∷ bs) =
    if (b == 0x0B) || (b == 0x05) then Some (nothing, b, bs)
    else (one b bs >>= λ r. option_map (λ s. (seq r.0 s.0, s.1, s.2)) (seq_at one n r.1))

-- a body that ends here
abbrev pub ended : {X : Type 0} → (Instrs → X) → Instrs × ℕ × List ℕ → Read X
ended f s = if s.1 == 0x0B then Some (f s.0, s.2) else None

-- an instruction whose first byte is b, where body reads the instructions of a block
unfoldable pub one_with : (List ℕ → Body) → ℕ → List ℕ → Read Instr
one_with body b bs =
    if b == 0x02 then (result_at bs >>= λ r. body r.1 >>= λ s. ended (Block r.0) s)
    else (if b == 0x03 then (result_at bs >>= λ r. body r.1 >>= λ s. ended (Loop r.0) s)
    else (if b == 0x04 then (result_at bs >>= λ r. body r.1 >>= λ s.
    if s.1 == 0x0B then Some (If r.0 s.0 nothing, s.2) else (body s.2 >>= λ e. ended (If r.0 s.0) e))
    else (if b == 0x0E then table_at bs
    else option_map (λ r. (Plain r.0, r.1)) (plain_at b bs))))

-- the instructions of a body, which may have so many levels, its own among them
unfoldable pub body_at : ℕ → List ℕ → Body
body_at zero bs = None
body_at (suc d) bs = seq_at (one_with (body_at d)) (length bs) bs

abbrev pub one_at : ℕ → ℕ → List ℕ → Read Instr
one_at d = one_with (body_at d)

-- an expression of at most so many levels, its own among them
unfoldable pub expression_at : ℕ → List ℕ → Read Instrs
expression_at d bs = body_at d bs >>= λ s. ended (λ is. is) s
