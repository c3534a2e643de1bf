-- Each byte of the shortest spelling of an expression is below 256.
use Rattle.std.proofs.Common.{◌≡◌, ℕ, zero, suc, ◌+◌, ◌-◌, ◌*◌, ◌/◌, ◌%◌, ◌<◌, ◌≤◌, Bool, true, ◌&&◌, List, [], ◌∷◌, ◌++◌, length, Option, Some, None, refl, ◌∙◌, ⊎_elim, arith, length-append, ℤ, pos, negsuc}
use Rattle.std.specs.Prelude.{slice_index_or}
use Rattle.std.specs.List.{list_all, All}
use Rattle.std.proofs.lemmas.Bool.{ltb-true, lt-ltb, le-ltb, cases_lt}
use Rattle.std.proofs.lemmas.List.Folds.{list_all-append}
use Rattle.std.proofs.lemmas.List.Sums.{AllPass-from_list_all, list_all-from_AllPass}
use Rattle.wtypes.specs.declared.ValType.{ValType}
use Rattle.wtypes.specs.declared.ValType.TheVariants as valtype
use Rattle.wtypes.specs.declared.Value.TheVariants as value
use Rattle.wtypes.specs.declared.UnOp.{UnOp}
use Rattle.wtypes.specs.declared.UnOp.TheVariants.{Clz, Ctz, Popcnt}
use Rattle.wtypes.specs.declared.BinOp.{BinOp}
use Rattle.wtypes.specs.declared.BinOp.TheVariants.{Add, Sub, Mul, DivS, DivU, RemS, RemU, And, Or, Xor, Shl, ShrS, ShrU, Rotl, Rotr}
use Rattle.wtypes.specs.declared.TestOp.{TestOp}
use Rattle.wtypes.specs.declared.TestOp.TheVariants.{Eqz}
use Rattle.wtypes.specs.declared.RelOp.{RelOp}
use Rattle.wtypes.specs.declared.RelOp.TheVariants.{Equal, NotEqual, LtS, LtU, GtS, GtU, LeS, LeU, GeS, GeU}
use Rattle.wtypes.specs.declared.CvtOp.{CvtOp}
use Rattle.wtypes.specs.declared.CvtOp.TheVariants.{I32WrapI64, I64ExtendI32S, I64ExtendI32U, I32Extend8S, I32Extend16S, I64Extend8S, I64Extend16S, I64Extend32S}
use Rattle.wtypes.specs.declared.LoadOp.{LoadOp}
use Rattle.wtypes.specs.declared.LoadOp.TheVariants.{I32Load, I64Load, I32Load8S, I32Load8U, I32Load16S, I32Load16U, I64Load8S, I64Load8U, I64Load16S, I64Load16U, I64Load32S, I64Load32U}
use Rattle.wtypes.specs.declared.StoreOp.{StoreOp}
use Rattle.wtypes.specs.declared.StoreOp.TheVariants.{I32Store, I64Store, I32Store8, I32Store16, I64Store8, I64Store16, I64Store32}
use Rattle.wtypes.specs.declared.PlainInstr.{PlainInstr}
use Rattle.wtypes.specs.declared.PlainInstr.TheVariants.{Unreachable, Nop, Br, BrIf, Return, Call, CallIndirect, Drop, Select, LocalGet, LocalSet, LocalTee, GlobalGet, GlobalSet, Load, Store, MemorySize, MemoryGrow, Const, Unary, Binary, Test, Compare, Convert}
use Rattle.spec_modules.specs.Syntax.{Instr, Plain, BrTable, Block, Loop, If, Instrs, nothing, seq}
use Rattle.spec_modules.specs.Limits.{is_u32, is_byte, is_signed, plain_in_range, instr_fits, instrs_fit, expression_fits, first, second, both}
use Rattle.spec_modules.specs.Opcodes.{at_type, unary_code, binary_code, test_code, compare_code, convert_code, load_code, store_code, opcode, type_code, result_code}
use Rattle.spec_modules.specs.Shortest.{unsigned_bytes, signed_bytes, u32_bytes, s32_bytes, s64_bytes, run_bytes, vector_bytes, immediate_bytes, closing_bytes, instr_bytes, instrs_bytes, expression_bytes, sized_bytes}

abbrev pub Bytes : List ℕ → Type 0
Bytes bs = list_all is_byte bs ≡ true

pub all_below : (bs : List ℕ) → Bytes bs → All (λ (b : ℕ). b < 256) bs
all_below bs h k d l = ltb-true (slice_index_or bs k d) 256 (AllPass-from_list_all is_byte bs h k d l)

pub from_all_below : (bs : List ℕ) → All (λ (b : ℕ). b < 256) bs → Bytes bs
from_all_below bs h = list_all-from_AllPass is_byte bs (λ k d l. lt-ltb (slice_index_or bs k d) 256 (h k d l))

-- where they are fewer than 2^32
abbrev pub AreBytes : List ℕ → Type 0
AreBytes bs = length bs < 4294967296 → Bytes bs

pub none : AreBytes []
none s = refl

pub front : (b : ℕ) (bs : List ℕ) → is_byte b ≡ true → AreBytes bs → AreBytes (b ∷ bs)
front b bs l h s = both (is_byte b) (list_all is_byte bs) l (h (omega arith))

pub one : (b : ℕ) → is_byte b ≡ true → AreBytes (b ∷ [])
one b l = front b [] l none

pub join : (a b : List ℕ) → AreBytes a → AreBytes b → AreBytes (a ++ b)
join a b p q s =
    list_all-append is_byte a b
    ∙ both (list_all is_byte a) (list_all is_byte b) (p (omega (arith, length-append a b))) (q (omega (arith, length-append a b)))

-- ---- Numbers

-- the numbers below this have a byte and at most so many more
abbrev most : ℕ → ℕ
most zero = 256
most (suc more) = 128 * most more

pub byte_then : (b : ℕ) (bs : List ℕ) → b < 256 → Bytes bs → Bytes (b ∷ bs)
byte_then b bs l h = both (is_byte b) (list_all is_byte bs) (lt-ltb b 256 l) h

unsigned_are_bytes : (more n : ℕ) → n < most more → Bytes (unsigned_bytes more n)
unsigned_are_bytes zero n l = byte_then n [] l refl
unsigned_are_bytes (suc more) n l =
    ⊎_elim
    (λ small. rw (lt-ltb n 128 small) (byte_then n [] (omega arith) refl))
    (λ large. rw (le-ltb n 128 large) (byte_then (128 + n % 128) (unsigned_bytes more (n / 128)) (omega arith) (unsigned_are_bytes more (n / 128) (omega arith))))
    (cases_lt n 128)

positive_are_bytes : (more n : ℕ) → n < most more → Bytes (signed_bytes more (pos n))
positive_are_bytes zero n l = byte_then n [] l refl
positive_are_bytes (suc more) n l =
    ⊎_elim
    (λ small. rw (lt-ltb n 64 small) (byte_then n [] (omega arith) refl))
    (λ large. rw (le-ltb n 64 large) (byte_then (128 + n % 128) (signed_bytes more (pos (n / 128))) (omega arith) (positive_are_bytes more (n / 128) (omega arith))))
    (cases_lt n 64)

negative_are_bytes : (more n : ℕ) → Bytes (signed_bytes more (negsuc n))
negative_are_bytes zero n = byte_then (127 - n) [] (omega arith) refl
negative_are_bytes (suc more) n =
    ⊎_elim
    (λ small. rw (lt-ltb n 64 small) (byte_then (127 - n) [] (omega arith) refl))
    (λ large. rw (le-ltb n 64 large) (byte_then (255 - n % 128) (signed_bytes more (negsuc (n / 128))) (omega arith) (negative_are_bytes more (n / 128))))
    (cases_lt n 64)

count_are_bytes : (n : ℕ) → n < 4294967296 → Bytes (u32_bytes n)
unfolding u32_bytes
count_are_bytes n l = unsigned_are_bytes 4 n (omega arith)

pub u32_are_bytes : (n : ℕ) → is_u32 n ≡ true → AreBytes (u32_bytes n)
u32_are_bytes n e s = count_are_bytes n (ltb-true n 4294967296 e)

pub u32_some : (n : ℕ) → 0 < length (u32_bytes n)
unfolding u32_bytes
u32_some n = ⊎_elim (λ small. rw (lt-ltb n 128 small) (omega arith)) (λ large. rw (le-ltb n 128 large) (omega arith)) (cases_lt n 128)

s32_are_bytes : (z : ℤ) → is_signed 2147483648 z ≡ true → AreBytes (s32_bytes z)
unfolding s32_bytes
s32_are_bytes (pos n) e s = let l = ltb-true n 2147483648 e in positive_are_bytes 4 n (omega (arith, l))
s32_are_bytes (negsuc n) e s = negative_are_bytes 4 n

s64_are_bytes : (z : ℤ) → is_signed 9223372036854775808 z ≡ true → AreBytes (s64_bytes z)
unfolding s64_bytes
s64_are_bytes (pos n) e s = let l = ltb-true n 9223372036854775808 e in positive_are_bytes 9 n (omega (arith, l))
s64_are_bytes (negsuc n) e s = negative_are_bytes 9 n

-- ---- Vectors and sizes

-- there are no fewer bytes than items
pub no_fewer : {X : Type 0} (f : X → List ℕ) → ((x : X) → 0 < length (f x)) → (xs : List X) → length xs ≤ length (run_bytes f xs)
no_fewer f some [] = omega arith
no_fewer f some (x ∷ xs) = omega (arith, some x, no_fewer f some xs, length-append (f x) (run_bytes f xs))

module _ {X : Type 0} (f : X → List ℕ) (test : X → Bool) (each : (x : X) → test x ≡ true → AreBytes (f x)) where
  run_are_bytes : (xs : List X) → list_all test xs ≡ true → AreBytes (run_bytes f xs)
  run_are_bytes [] e = none
  run_are_bytes (x ∷ xs) e = join (f x) (run_bytes f xs) (each x (first _ _ e)) (run_are_bytes xs (second _ _ e))

  pub vector_are_bytes : ((x : X) → 0 < length (f x)) → (xs : List X) → list_all test xs ≡ true → AreBytes (vector_bytes f xs)
  vector_are_bytes some xs e s =
      join (u32_bytes (length xs)) (run_bytes f xs)
      (λ t. count_are_bytes (length xs) (omega (arith, s, no_fewer f some xs, length-append (u32_bytes (length xs)) (run_bytes f xs))))
      (run_are_bytes xs e) s

pub sized_are_bytes : (bs : List ℕ) → AreBytes bs → AreBytes (sized_bytes bs)
sized_are_bytes bs h s =
    join (u32_bytes (length bs)) bs (λ t. count_are_bytes (length bs) (omega (arith, s, length-append (u32_bytes (length bs)) bs))) h s

-- ---- Codes

-- both are bytes
typed : (t : ValType) (a b : ℕ) → (is_byte a && is_byte b) ≡ true → is_byte (at_type t a b) ≡ true
typed valtype.I32 a b e = first _ _ e
typed valtype.I64 a b e = second _ _ e

unary_is_byte : (op : UnOp) → is_byte (unary_code op) ≡ true
unary_is_byte (Clz t) = typed t 0x67 0x79 refl
unary_is_byte (Ctz t) = typed t 0x68 0x7A refl
unary_is_byte (Popcnt t) = typed t 0x69 0x7B refl

binary_is_byte : (op : BinOp) → is_byte (binary_code op) ≡ true
binary_is_byte (Add t) = typed t 0x6A 0x7C refl
binary_is_byte (Sub t) = typed t 0x6B 0x7D refl
binary_is_byte (Mul t) = typed t 0x6C 0x7E refl
binary_is_byte (DivS t) = typed t 0x6D 0x7F refl
binary_is_byte (DivU t) = typed t 0x6E 0x80 refl
binary_is_byte (RemS t) = typed t 0x6F 0x81 refl
binary_is_byte (RemU t) = typed t 0x70 0x82 refl
binary_is_byte (And t) = typed t 0x71 0x83 refl
binary_is_byte (Or t) = typed t 0x72 0x84 refl
binary_is_byte (Xor t) = typed t 0x73 0x85 refl
binary_is_byte (Shl t) = typed t 0x74 0x86 refl
binary_is_byte (ShrS t) = typed t 0x75 0x87 refl
binary_is_byte (ShrU t) = typed t 0x76 0x88 refl
binary_is_byte (Rotl t) = typed t 0x77 0x89 refl
binary_is_byte (Rotr t) = typed t 0x78 0x8A refl

test_is_byte : (op : TestOp) → is_byte (test_code op) ≡ true
test_is_byte (Eqz t) = typed t 0x45 0x50 refl

compare_is_byte : (op : RelOp) → is_byte (compare_code op) ≡ true
compare_is_byte (Equal t) = typed t 0x46 0x51 refl
compare_is_byte (NotEqual t) = typed t 0x47 0x52 refl
compare_is_byte (LtS t) = typed t 0x48 0x53 refl
compare_is_byte (LtU t) = typed t 0x49 0x54 refl
compare_is_byte (GtS t) = typed t 0x4A 0x55 refl
compare_is_byte (GtU t) = typed t 0x4B 0x56 refl
compare_is_byte (LeS t) = typed t 0x4C 0x57 refl
compare_is_byte (LeU t) = typed t 0x4D 0x58 refl
compare_is_byte (GeS t) = typed t 0x4E 0x59 refl
compare_is_byte (GeU t) = typed t 0x4F 0x5A refl

convert_is_byte : (op : CvtOp) → is_byte (convert_code op) ≡ true
convert_is_byte I32WrapI64 = refl
convert_is_byte I64ExtendI32S = refl
convert_is_byte I64ExtendI32U = refl
convert_is_byte I32Extend8S = refl
convert_is_byte I32Extend16S = refl
convert_is_byte I64Extend8S = refl
convert_is_byte I64Extend16S = refl
convert_is_byte I64Extend32S = refl

load_is_byte : (op : LoadOp) → is_byte (load_code op) ≡ true
load_is_byte I32Load = refl
load_is_byte I64Load = refl
load_is_byte I32Load8S = refl
load_is_byte I32Load8U = refl
load_is_byte I32Load16S = refl
load_is_byte I32Load16U = refl
load_is_byte I64Load8S = refl
load_is_byte I64Load8U = refl
load_is_byte I64Load16S = refl
load_is_byte I64Load16U = refl
load_is_byte I64Load32S = refl
load_is_byte I64Load32U = refl

store_is_byte : (op : StoreOp) → is_byte (store_code op) ≡ true
store_is_byte I32Store = refl
store_is_byte I64Store = refl
store_is_byte I32Store8 = refl
store_is_byte I32Store16 = refl
store_is_byte I64Store8 = refl
store_is_byte I64Store16 = refl
store_is_byte I64Store32 = refl

pub type_is_byte : (t : ValType) → is_byte (type_code t) ≡ true
type_is_byte valtype.I32 = refl
type_is_byte valtype.I64 = refl

result_is_byte : (r : Option ValType) → is_byte (result_code r) ≡ true
result_is_byte None = refl
result_is_byte (Some t) = type_is_byte t

-- ---- Instructions

number_behind : (code n : ℕ) → is_byte code ≡ true → is_u32 n ≡ true → AreBytes (code ∷ u32_bytes n)
number_behind code n c e = front code (u32_bytes n) c (u32_are_bytes n e)

-- an access to memory
access_are_bytes : (code align offset : ℕ) → is_byte code ≡ true → (is_u32 align && is_u32 offset) ≡ true → AreBytes (code ∷ (u32_bytes align ++ u32_bytes offset))
access_are_bytes code align offset c e =
    front code (u32_bytes align ++ u32_bytes offset) c (join (u32_bytes align) (u32_bytes offset) (u32_are_bytes align (first _ _ e)) (u32_are_bytes offset (second _ _ e)))

plain_are_bytes : (op : PlainInstr) → plain_in_range op ≡ true → AreBytes (opcode op ∷ immediate_bytes op)
plain_are_bytes (Br l) e = number_behind 0x0C l refl e
plain_are_bytes (BrIf l) e = number_behind 0x0D l refl e
plain_are_bytes (Call f) e = number_behind 0x10 f refl e
plain_are_bytes (CallIndirect t) e = front 0x11 (u32_bytes t ++ 0 ∷ []) refl (join (u32_bytes t) (0 ∷ []) (u32_are_bytes t e) (one 0 refl))
plain_are_bytes (LocalGet x) e = number_behind 0x20 x refl e
plain_are_bytes (LocalSet x) e = number_behind 0x21 x refl e
plain_are_bytes (LocalTee x) e = number_behind 0x22 x refl e
plain_are_bytes (GlobalGet x) e = number_behind 0x23 x refl e
plain_are_bytes (GlobalSet x) e = number_behind 0x24 x refl e
plain_are_bytes (Load op align offset) e = access_are_bytes (load_code op) align offset (load_is_byte op) e
plain_are_bytes (Store op align offset) e = access_are_bytes (store_code op) align offset (store_is_byte op) e
plain_are_bytes (Const (value.I32 z)) e = front 0x41 (s32_bytes z) refl (s32_are_bytes z e)
plain_are_bytes (Const (value.I64 z)) e = front 0x42 (s64_bytes z) refl (s64_are_bytes z e)
plain_are_bytes MemorySize e = front 0x3F (0 ∷ []) refl (one 0 refl)
plain_are_bytes MemoryGrow e = front 0x40 (0 ∷ []) refl (one 0 refl)
plain_are_bytes Unreachable e = one 0x00 refl
plain_are_bytes Nop e = one 0x01 refl
plain_are_bytes Return e = one 0x0F refl
plain_are_bytes Drop e = one 0x1A refl
plain_are_bytes Select e = one 0x1B refl
plain_are_bytes (Unary op) e = one (unary_code op) (unary_is_byte op)
plain_are_bytes (Binary op) e = one (binary_code op) (binary_is_byte op)
plain_are_bytes (Test op) e = one (test_code op) (test_is_byte op)
plain_are_bytes (Compare op) e = one (compare_code op) (compare_is_byte op)
plain_are_bytes (Convert op) e = one (convert_code op) (convert_is_byte op)

pub numbers_are_bytes : (ns : List ℕ) → list_all is_u32 ns ≡ true → AreBytes (vector_bytes u32_bytes ns)
numbers_are_bytes ns e = vector_are_bytes u32_bytes is_u32 u32_are_bytes u32_some ns e

ended : (bs : List ℕ) → AreBytes bs → AreBytes (bs ++ 0x0B ∷ [])
ended bs h = join bs (0x0B ∷ []) h (one 0x0B refl)

closing_are_bytes : (is : Instrs) → AreBytes (instrs_bytes is) → AreBytes (closing_bytes (instrs_bytes is) is)
closing_are_bytes nothing h = one 0x0B refl
closing_are_bytes (seq i is) h = front 0x05 (instrs_bytes (seq i is) ++ 0x0B ∷ []) refl (ended (instrs_bytes (seq i is)) h)

-- a code, the type of a result, and what is behind them
opened : (code : ℕ) (r : Option ValType) (bs : List ℕ) → is_byte code ≡ true → AreBytes bs → AreBytes (code ∷ result_code r ∷ bs)
opened code r bs c h = front code (result_code r ∷ bs) c (front (result_code r) bs (result_is_byte r) h)

mutual
  instr_are_bytes : (i : Instr) → instr_fits i ≡ true → AreBytes (instr_bytes i)
  instr_are_bytes (Plain op) e = plain_are_bytes op e
  instr_are_bytes (BrTable ls l) e =
      let numbers : (list_all is_u32 ls && is_u32 l) ≡ true = second _ _ e in
      front 0x0E (vector_bytes u32_bytes ls ++ u32_bytes l) refl
      (join (vector_bytes u32_bytes ls) (u32_bytes l) (numbers_are_bytes ls (first _ _ numbers)) (u32_are_bytes l (second _ _ numbers)))
  instr_are_bytes (Block r b) e = opened 0x02 r (instrs_bytes b ++ 0x0B ∷ []) refl (ended (instrs_bytes b) (instrs_are_bytes b e))
  instr_are_bytes (Loop r b) e = opened 0x03 r (instrs_bytes b ++ 0x0B ∷ []) refl (ended (instrs_bytes b) (instrs_are_bytes b e))
  instr_are_bytes (If r t d) e =
      opened 0x04 r (instrs_bytes t ++ closing_bytes (instrs_bytes d) d) refl
      (join (instrs_bytes t) (closing_bytes (instrs_bytes d) d) (instrs_are_bytes t (first _ _ e)) (closing_are_bytes d (instrs_are_bytes d (second _ _ e))))

  instrs_are_bytes : (is : Instrs) → instrs_fit is ≡ true → AreBytes (instrs_bytes is)
  instrs_are_bytes nothing e = none
  instrs_are_bytes (seq i is) e = join (instr_bytes i) (instrs_bytes is) (instr_are_bytes i (first _ _ e)) (instrs_are_bytes is (second _ _ e))

pub expression_are_bytes : (is : Instrs) → expression_fits is ≡ true → AreBytes (expression_bytes is)
unfolding expression_fits
expression_are_bytes is e = ended (instrs_bytes is) (instrs_are_bytes is (second _ _ e))
