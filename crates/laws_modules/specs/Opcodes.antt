-- Instructions by their first byte.
use Rattle.std.specs.Prelude.{ℕ, ◌-◌, List, [], ◌∷◌, slice_get, Option, Some, None, nat_lt, ◌==◌, if◌then◌else◌}
use Rattle.wtypes.specs.declared.ValType.{ValType}
use Rattle.wtypes.specs.declared.ValType.TheVariants as valtype
use Rattle.wtypes.specs.declared.UnOp.TheVariants.{Clz, Ctz, Popcnt}
use Rattle.wtypes.specs.declared.BinOp.TheVariants.{Add, Sub, Mul, DivS, DivU, RemS, RemU, And, Or, Xor, Shl, ShrS, ShrU, Rotl, Rotr}
use Rattle.wtypes.specs.declared.TestOp.TheVariants.{Eqz}
use Rattle.wtypes.specs.declared.RelOp.TheVariants.{Equal, NotEqual, LtS, LtU, GtS, GtU, LeS, LeU, GeS, GeU}
use Rattle.wtypes.specs.declared.CvtOp.TheVariants.{I32WrapI64, I64ExtendI32S, I64ExtendI32U, I32Extend8S, I32Extend16S, I64Extend8S, I64Extend16S, I64Extend32S}
use Rattle.wtypes.specs.declared.LoadOp.{LoadOp}
use Rattle.wtypes.specs.declared.LoadOp.TheVariants.{I32Load, I64Load, I32Load8S, I32Load8U, I32Load16S, I32Load16U, I64Load8S, I64Load8U, I64Load16S, I64Load16U, I64Load32S, I64Load32U}
use Rattle.wtypes.specs.declared.StoreOp.{StoreOp}
use Rattle.wtypes.specs.declared.StoreOp.TheVariants.{I32Store, I64Store, I32Store8, I32Store16, I64Store8, I64Store16, I64Store32}
use Rattle.wtypes.specs.declared.PlainInstr.{PlainInstr}
use Rattle.wtypes.specs.declared.PlainInstr.TheVariants.{Unreachable, Nop, Return, Drop, Select, Unary, Binary, Test, Compare, Convert}

-- the test and the comparisons of a type, in the order of their codes
abbrev pub compare_ops : ValType → List PlainInstr
compare_ops t =
    Test (Eqz t) ∷ Compare (Equal t) ∷ Compare (NotEqual t) ∷ Compare (LtS t) ∷ Compare (LtU t) ∷ Compare (GtS t) ∷ Compare (GtU t)
    ∷ Compare (LeS t) ∷ Compare (LeU t) ∷ Compare (GeS t) ∷ Compare (GeU t) ∷ []

-- the operators of a type, in the order of their codes
abbrev pub numeric_ops : ValType → List PlainInstr
numeric_ops t =
    Unary (Clz t) ∷ Unary (Ctz t) ∷ Unary (Popcnt t) ∷ Binary (Add t) ∷ Binary (Sub t) ∷ Binary (Mul t) ∷ Binary (DivS t) ∷ Binary (DivU t)
    ∷ Binary (RemS t) ∷ Binary (RemU t) ∷ Binary (And t) ∷ Binary (Or t) ∷ Binary (Xor t) ∷ Binary (Shl t) ∷ Binary (ShrS t) ∷ Binary (ShrU t)
    ∷ Binary (Rotl t) ∷ Binary (Rotr t) ∷ []

abbrev pub control_at : ℕ → Option PlainInstr
control_at b =
    if b == 0x00 then Some Unreachable
    else (if b == 0x01 then Some Nop
    else (if b == 0x0F then Some Return
    else (if b == 0x1A then Some Drop
    else (if b == 0x1B then Some Select
    else None))))

abbrev pub convert_at : ℕ → Option PlainInstr
convert_at b =
    if b == 0xA7 then Some (Convert I32WrapI64)
    else (if b == 0xAC then Some (Convert I64ExtendI32S)
    else (if b == 0xAD then Some (Convert I64ExtendI32U)
    else (if b == 0xC0 then Some (Convert I32Extend8S)
    else (if b == 0xC1 then Some (Convert I32Extend16S)
    else (if b == 0xC2 then Some (Convert I64Extend8S)
    else (if b == 0xC3 then Some (Convert I64Extend16S)
    else (if b == 0xC4 then Some (Convert I64Extend32S)
    else None)))))))

-- the instructions that are one byte
unfoldable pub simple_at : ℕ → Option PlainInstr
simple_at b =
    if nat_lt b 0x45 then control_at b
    else (if nat_lt b 0x50 then slice_get (compare_ops valtype.I32) (b - 0x45)
    else (if nat_lt b 0x5B then slice_get (compare_ops valtype.I64) (b - 0x50)
    else (if nat_lt b 0x67 then None
    else (if nat_lt b 0x79 then slice_get (numeric_ops valtype.I32) (b - 0x67)
    else (if nat_lt b 0x8B then slice_get (numeric_ops valtype.I64) (b - 0x79)
    else convert_at b)))))

abbrev pub load_ops : List LoadOp
load_ops = I32Load8S ∷ I32Load8U ∷ I32Load16S ∷ I32Load16U ∷ I64Load8S ∷ I64Load8U ∷ I64Load16S ∷ I64Load16U ∷ I64Load32S ∷ I64Load32U ∷ []

unfoldable pub load_at : ℕ → Option LoadOp
load_at b =
    if b == 0x28 then Some I32Load
    else (if b == 0x29 then Some I64Load
    else (if nat_lt b 0x2C then None
    else slice_get load_ops (b - 0x2C)))

abbrev pub store_ops : List StoreOp
store_ops = I32Store8 ∷ I32Store16 ∷ I64Store8 ∷ I64Store16 ∷ I64Store32 ∷ []

unfoldable pub store_at : ℕ → Option StoreOp
store_at b =
    if b == 0x36 then Some I32Store
    else (if b == 0x37 then Some I64Store
    else (if nat_lt b 0x3A then None
    else slice_get store_ops (b - 0x3A)))
