-- Worked examples of operators, bytes and memory.
use Rattle.std.specs.Prelude.{◌≡◌, ◌≢◌, ℕ, refl, pos, negsuc, Ok, Err, [], ◌∷◌}
use Rattle.wtypes.specs.declared.ValType.TheVariants as valtype
use Rattle.wtypes.specs.declared.Value.TheVariants.{I32, I64}
use Rattle.wtypes.specs.declared.TrapCode.TheVariants as trap
use Rattle.wtypes.specs.declared.UnOp.TheVariants.{Clz, Ctz, Popcnt}
use Rattle.wtypes.specs.declared.BinOp.TheVariants.{DivS, DivU, RemS, ShrS, Rotl, Rotr}
use Rattle.wtypes.specs.declared.RelOp.TheVariants.{LtS, LtU}
use Rattle.wtypes.specs.declared.CvtOp.TheVariants.{I32WrapI64, I64ExtendI32S, I64ExtendI32U, I32Extend8S, I32Extend16S, I64Extend8S, I64Extend16S, I64Extend32S}
use Rattle.spec_modules.specs.Numbers.{zeros_above, zeros_below, ones_among}
use Rattle.spec_modules.specs.Operators.{unary_of, binary_of, compare_of, convert_of}
use Rattle.spec_modules.specs.Storage.{bytes_of_number, extended}
use Rattle.spec_modules.specs.Memory.{load, store, written}
use Rattle.wtypes.specs.declared.LoadOp.TheVariants.{I32Load8S, I32Load8U}

rotl_row : binary_of (Rotl valtype.I32) (I32 (negsuc 2147483646)) (I32 (pos 33)) ≡ Ok (I32 (pos 3))
rotl_row = refl

rotr_row : binary_of (Rotr valtype.I32) (I32 (pos 3)) (I32 (pos 33)) ≡ Ok (I32 (negsuc 2147483646))
rotr_row = refl

rotate_by_nothing : binary_of (Rotr valtype.I64) (I64 (negsuc 4)) (I64 (pos 64)) ≡ Ok (I64 (negsuc 4))
rotate_by_nothing = refl

shr_row : binary_of (ShrS valtype.I64) (I64 (negsuc 7)) (I64 (pos 65)) ≡ Ok (I64 (negsuc 3))
shr_row = refl

shr_down : binary_of (ShrS valtype.I32) (I32 (negsuc 6)) (I32 (pos 1)) ≡ Ok (I32 (negsuc 3))
shr_down = refl

clz_row : unary_of (Clz valtype.I32) (I32 (pos 0)) ≡ I32 (pos 32)
unfolding zeros_above
clz_row = refl

clz_one : unary_of (Clz valtype.I64) (I64 (pos 1)) ≡ I64 (pos 63)
unfolding zeros_above
clz_one = refl

ctz_row : unary_of (Ctz valtype.I32) (I32 (pos 0)) ≡ I32 (pos 32)
unfolding zeros_below
ctz_row = refl

ctz_four : unary_of (Ctz valtype.I32) (I32 (pos 12)) ≡ I32 (pos 2)
unfolding zeros_below
ctz_four = refl

popcnt_row : unary_of (Popcnt valtype.I64) (I64 (negsuc 0)) ≡ I64 (pos 64)
unfolding ones_among
popcnt_row = refl

extend_row : convert_of I64ExtendI32U (I32 (negsuc 0)) ≡ I64 (pos 4294967295)
extend_row = refl

extend_signed : convert_of I64ExtendI32S (I32 (negsuc 0)) ≡ I64 (negsuc 0)
extend_signed = refl

extend_8_row : convert_of I32Extend8S (I32 (pos 128)) ≡ I32 (negsuc 127)
extend_8_row = refl

extend_8_positive : convert_of I32Extend8S (I32 (pos 127)) ≡ I32 (pos 127)
extend_8_positive = refl

-- the low 8 bits alone are another number
extend_8_signed : convert_of I32Extend8S (I32 (pos 128)) ≢ I32 (pos 128)
extend_8_signed e = let wrong : I32 (negsuc 127) ≡ I32 (pos 128) = e in cc

-- 0x1280
extend_8_low : convert_of I32Extend8S (I32 (pos 4736)) ≡ I32 (negsuc 127)
extend_8_low = refl

extend_16_row : convert_of I32Extend16S (I32 (pos 32768)) ≡ I32 (negsuc 32767)
extend_16_row = refl

extend_8_wide : convert_of I64Extend8S (I64 (pos 255)) ≡ I64 (negsuc 0)
extend_8_wide = refl

extend_16_wide : convert_of I64Extend16S (I64 (pos 65535)) ≡ I64 (negsuc 0)
extend_16_wide = refl

extend_32_row : convert_of I64Extend32S (I64 (pos 2147483648)) ≡ I64 (negsuc 2147483647)
extend_32_row = refl

extend_32_low : convert_of I64Extend32S (I64 (pos 4294967296)) ≡ I64 (pos 0)
extend_32_low = refl

wrap_row : convert_of I32WrapI64 (I64 (pos 4294967303)) ≡ I32 (pos 7)
wrap_row = refl

div_row : binary_of (DivS valtype.I32) (I32 (negsuc 2147483647)) (I32 (negsuc 0)) ≡ Err trap.IntegerOverflow
div_row = refl

div_truncates : binary_of (DivS valtype.I32) (I32 (negsuc 6)) (I32 (pos 2)) ≡ Ok (I32 (negsuc 2))
div_truncates = refl

rem_row : binary_of (RemS valtype.I32) (I32 (negsuc 2147483647)) (I32 (negsuc 0)) ≡ Ok (I32 (pos 0))
rem_row = refl

rem_of_negative : binary_of (RemS valtype.I32) (I32 (negsuc 6)) (I32 (pos 2)) ≡ Ok (I32 (negsuc 0))
rem_of_negative = refl

less_signed : compare_of (LtS valtype.I32) (I32 (negsuc 0)) (I32 (pos 0)) ≡ I32 (pos 1)
less_signed = refl

less_unsigned : compare_of (LtU valtype.I32) (I32 (negsuc 0)) (I32 (pos 0)) ≡ I32 (pos 0)
less_unsigned = refl

div_by_zero : binary_of (DivU valtype.I64) (I64 (pos 1)) (I64 (pos 0)) ≡ Err trap.DivideByZero
div_by_zero = refl

-- 0x0102030405060708, and its upper half
little_endian : bytes_of_number 8 72623859790382856 ≡ 8 ∷ 7 ∷ 6 ∷ 5 ∷ 4 ∷ 3 ∷ 2 ∷ 1 ∷ []
little_endian = refl

upper_half : load (bytes_of_number 8 72623859790382856) 4 4 ≡ Ok 16909060
upper_half = refl

past_the_end : load (bytes_of_number 8 72623859790382856) 5 4 ≡ Err trap.MemoryOutOfBounds
past_the_end = refl

in_the_middle : written {X = ℕ} 1 (7 ∷ 8 ∷ []) (1 ∷ 2 ∷ 3 ∷ 4 ∷ []) ≡ 1 ∷ 7 ∷ 8 ∷ 4 ∷ []
in_the_middle = refl

stored_in_the_middle : store (1 ∷ 2 ∷ 3 ∷ 4 ∷ []) 1 2 2055 ≡ Ok (1 ∷ 7 ∷ 8 ∷ 4 ∷ [])
stored_in_the_middle = refl

stored_past_the_end : store (1 ∷ 2 ∷ 3 ∷ 4 ∷ []) 3 2 2055 ≡ Err trap.MemoryOutOfBounds
stored_past_the_end = refl

load_signed : extended I32Load8S 255 ≡ 4294967295
load_signed = refl

load_unsigned : extended I32Load8U 255 ≡ 255
load_unsigned = refl
