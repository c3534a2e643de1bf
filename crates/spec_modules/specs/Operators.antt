-- The operators of the integer profile (Core Specification, 4.3.2 Integer Operations and 4.3.4 Conversions): first on numbers of N bits, where the width is an
-- argument of its own and an operator's own type is not read, then on values (4.4.1 Numeric Instructions).
use Rattle.std.specs.Prelude.{ℕ, ◌+◌, ◌-◌, ◌*◌, ◌/◌, ◌%◌, ◌^◌, pos, Bool, true, false, not, ◌==◌, nat_lt, nat_le, int_lt, int_le, int_div, int_rem, if◌then◌else◌, bit_and, bit_or, bit_xor, Result, Ok, Err}
use Rattle.std.specs.Int.{Width, w8, w16, w32, w64}
use mir.Val.{bits, hbits}
use Rattle.spec_modules.specs.Numbers.{modulus, signed, unsigned, zeros_above, zeros_below, ones_among, floor, rotated_left, rotated_right}
use Rattle.wtypes.specs.declared.ValType.{ValType}
use Rattle.wtypes.specs.declared.ValType.TheVariants.{I32, I64}
use Rattle.wtypes.specs.declared.Value.{Value}
use Rattle.wtypes.specs.declared.Value.TheVariants as value
use Rattle.wtypes.specs.declared.TrapCode.{TrapCode}
use Rattle.wtypes.specs.declared.TrapCode.TheVariants.{DivideByZero, IntegerOverflow}
use Rattle.wtypes.specs.declared.UnOp.{UnOp}
use Rattle.wtypes.specs.declared.UnOp.TheVariants.{Clz, Ctz, Popcnt}
use Rattle.wtypes.specs.declared.BinOp.{BinOp}
use Rattle.wtypes.specs.declared.BinOp.TheVariants.{Add, Sub, Mul, DivS, DivU, RemS, RemU, And, Or, Xor, Shl, ShrS, ShrU, Rotl, Rotr}
use Rattle.wtypes.specs.declared.RelOp.{RelOp}
use Rattle.wtypes.specs.declared.RelOp.TheVariants.{Equal, NotEqual, LtS, LtU, GtS, GtU, LeS, LeU, GeS, GeU}
use Rattle.wtypes.specs.declared.TestOp.{TestOp}
use Rattle.wtypes.specs.declared.TestOp.TheVariants.{Eqz}
use Rattle.wtypes.specs.declared.CvtOp.{CvtOp}
use Rattle.wtypes.specs.declared.CvtOp.TheVariants.{I32WrapI64, I64ExtendI32S, I64ExtendI32U, I32Extend8S, I32Extend16S, I64Extend8S, I64Extend16S, I64Extend32S}

-- ---- on numbers

-- iclz, ictz, ipopcnt
abbrev pub unary : Width → UnOp → ℕ → ℕ
unary w (Clz t) x = zeros_above (bits w) x
unary w (Ctz t) x = zeros_below (bits w) x
unary w (Popcnt t) x = ones_among (bits w) x

-- idiv_s: the quotient of the signed readings, truncated toward zero. The quotient 2^(N-1), the only one above each signed reading, is a trap.
abbrev pub div_signed : Width → ℕ → ℕ → Result ℕ TrapCode
div_signed w x y =
    if y == 0 then Err DivideByZero
    else (if int_le (pos (2 ^ hbits w)) (int_div (signed w x) (signed w y)) then Err IntegerOverflow
    else Ok (unsigned w (int_div (signed w x) (signed w y))))

-- idiv_u
abbrev pub div_unsigned : ℕ → ℕ → Result ℕ TrapCode
div_unsigned x y = if y == 0 then Err DivideByZero else Ok (x / y)

-- irem_s: the remainder of the signed readings, which has the sign of the dividend
abbrev pub rem_signed : Width → ℕ → ℕ → Result ℕ TrapCode
rem_signed w x y = if y == 0 then Err DivideByZero else Ok (unsigned w (int_rem (signed w x) (signed w y)))

-- irem_u
abbrev pub rem_unsigned : ℕ → ℕ → Result ℕ TrapCode
rem_unsigned x y = if y == 0 then Err DivideByZero else Ok (x % y)

-- x is the first operand, y the second. Sums, differences and products are modulo 2^N. Shifts and rotations go by the second operand modulo N;
-- shr_s fills in copies of the highest bit, so that the signed reading is divided and rounded down.
abbrev pub binary : Width → BinOp → ℕ → ℕ → Result ℕ TrapCode
binary w (Add t) x y = Ok ((x + y) % modulus w)
binary w (Sub t) x y = Ok ((x + (modulus w - y)) % modulus w)
binary w (Mul t) x y = Ok ((x * y) % modulus w)
binary w (DivS t) x y = div_signed w x y
binary w (DivU t) x y = div_unsigned x y
binary w (RemS t) x y = rem_signed w x y
binary w (RemU t) x y = rem_unsigned x y
binary w (And t) x y = Ok (bit_and x y)
binary w (Or t) x y = Ok (bit_or x y)
binary w (Xor t) x y = Ok (bit_xor x y)
binary w (Shl t) x y = Ok ((x * 2 ^ (y % bits w)) % modulus w)
binary w (ShrS t) x y = Ok (unsigned w (floor (signed w x) (2 ^ (y % bits w))))
binary w (ShrU t) x y = Ok (x / 2 ^ (y % bits w))
binary w (Rotl t) x y = Ok (rotated_left w x (y % bits w))
binary w (Rotr t) x y = Ok (rotated_right w x (y % bits w))

-- ieqz
abbrev pub test : TestOp → ℕ → Bool
test (Eqz t) x = x == 0

-- ieq, ine, and the orders of the signed readings and of the numbers
abbrev pub compare : Width → RelOp → ℕ → ℕ → Bool
compare w (Equal t) x y = x == y
compare w (NotEqual t) x y = not (x == y)
compare w (LtS t) x y = int_lt (signed w x) (signed w y)
compare w (LtU t) x y = nat_lt x y
compare w (GtS t) x y = int_lt (signed w y) (signed w x)
compare w (GtU t) x y = nat_lt y x
compare w (LeS t) x y = int_le (signed w x) (signed w y)
compare w (LeU t) x y = nat_le x y
compare w (GeS t) x y = int_le (signed w y) (signed w x)
compare w (GeU t) x y = nat_le y x

-- iextendM_s of a number of N bits (Core Specification 2.0, 4.3.2): the signed reading of its M lowest bits. M is `bits m`, N is `bits w`.
abbrev pub extend_low : Width → Width → ℕ → ℕ
extend_low m w x = unsigned w (signed m (x % modulus m))

-- wrap modulo 2^32, extend_s by the signed reading, extend_u; and the extensions of a sign
abbrev pub convert : CvtOp → ℕ → ℕ
convert I32WrapI64 x = x % 2 ^ 32
convert I64ExtendI32S x = unsigned w64 (signed w32 x)
convert I64ExtendI32U x = x
convert I32Extend8S x = extend_low w8 w32 x
convert I32Extend16S x = extend_low w16 w32 x
convert I64Extend8S x = extend_low w8 w64 x
convert I64Extend16S x = extend_low w16 w64 x
convert I64Extend32S x = extend_low w32 w64 x

-- ---- on values

-- the width of a type's numbers
abbrev pub word : ValType → Width
word I32 = w32
word I64 = w64

-- whether t and u are one type
abbrev pub same_type : ValType → ValType → Bool
same_type I32 I32 = true
same_type I64 I64 = true
same_type t u = false

-- the type of a value
abbrev pub type_of : Value → ValType
type_of (value.I32 x) = I32
type_of (value.I64 x) = I64

-- the number that a value's bits spell
abbrev pub bits_of : Value → ℕ
bits_of (value.I32 x) = unsigned w32 x
bits_of (value.I64 x) = unsigned w64 x

-- the value whose bits spell n
abbrev pub value_of : ValType → ℕ → Value
value_of I32 n = value.I32 (signed w32 n)
value_of I64 n = value.I64 (signed w64 n)

-- 1 where it holds, 0 where not (4.3.2, Boolean Interpretation)
abbrev pub truth : Bool → Value
truth true = value.I32 (pos 1)
truth false = value.I32 (pos 0)

-- the type of an operator's operands, and of its result where that is no truth
abbrev pub unary_type : UnOp → ValType
unary_type (Clz t) = t
unary_type (Ctz t) = t
unary_type (Popcnt t) = t

abbrev pub binary_type : BinOp → ValType
binary_type (Add t) = t
binary_type (Sub t) = t
binary_type (Mul t) = t
binary_type (DivS t) = t
binary_type (DivU t) = t
binary_type (RemS t) = t
binary_type (RemU t) = t
binary_type (And t) = t
binary_type (Or t) = t
binary_type (Xor t) = t
binary_type (Shl t) = t
binary_type (ShrS t) = t
binary_type (ShrU t) = t
binary_type (Rotl t) = t
binary_type (Rotr t) = t

abbrev pub test_type : TestOp → ValType
test_type (Eqz t) = t

abbrev pub compare_type : RelOp → ValType
compare_type (Equal t) = t
compare_type (NotEqual t) = t
compare_type (LtS t) = t
compare_type (LtU t) = t
compare_type (GtS t) = t
compare_type (GtU t) = t
compare_type (LeS t) = t
compare_type (LeU t) = t
compare_type (GeS t) = t
compare_type (GeU t) = t

-- a conversion's operand and result
abbrev pub convert_from : CvtOp → ValType
convert_from I32WrapI64 = I64
convert_from I64ExtendI32S = I32
convert_from I64ExtendI32U = I32
convert_from I32Extend8S = I32
convert_from I32Extend16S = I32
convert_from I64Extend8S = I64
convert_from I64Extend16S = I64
convert_from I64Extend32S = I64

abbrev pub convert_to : CvtOp → ValType
convert_to I32WrapI64 = I32
convert_to I64ExtendI32S = I64
convert_to I64ExtendI32U = I64
convert_to I32Extend8S = I32
convert_to I32Extend16S = I32
convert_to I64Extend8S = I64
convert_to I64Extend16S = I64
convert_to I64Extend32S = I64

-- a number as a value of type t, a trap as it is
abbrev pub answer_of : ValType → Result ℕ TrapCode → Result Value TrapCode
answer_of t (Ok x) = Ok (value_of t x)
answer_of t (Err code) = Err code

-- with t the type of the operands
abbrev pub unary_at : ValType → UnOp → Value → Value
unary_at t op v = value_of t (unary (word t) op (bits_of v))

abbrev pub binary_at : ValType → BinOp → Value → Value → Result Value TrapCode
binary_at t op a b = answer_of t (binary (word t) op (bits_of a) (bits_of b))

-- each operator on values of its type
abbrev pub unary_of : UnOp → Value → Value
unary_of op v = unary_at (unary_type op) op v

abbrev pub binary_of : BinOp → Value → Value → Result Value TrapCode
binary_of op a b = binary_at (binary_type op) op a b

abbrev pub test_of : TestOp → Value → Value
test_of op v = truth (test op (bits_of v))

abbrev pub compare_of : RelOp → Value → Value → Value
compare_of op a b = truth (compare (word (compare_type op)) op (bits_of a) (bits_of b))

abbrev pub convert_of : CvtOp → Value → Value
convert_of op v = value_of (convert_to op) (convert op (bits_of v))
