-- Loads and stores: how many bytes, and what they spell (Core Specification, 4.3.1 Representations, Storage; 4.4.4 Memory Instructions).
use Rattle.std.specs.Prelude.{ℕ, zero, suc, ◌+◌, ◌*◌, ◌/◌, ◌%◌, List, [], ◌∷◌}
use Rattle.std.specs.Int.{w8, w16, w32, w64, cast_signed, cast_unsigned}
use Rattle.wtypes.specs.declared.ValType.{ValType}
use Rattle.wtypes.specs.declared.ValType.TheVariants.{I32, I64}
use Rattle.wtypes.specs.declared.LoadOp.{LoadOp}
use Rattle.wtypes.specs.declared.LoadOp.TheVariants.{I32Load, I64Load, I32Load8S, I32Load8U, I32Load16S, I32Load16U, I64Load8S, I64Load8U, I64Load16S, I64Load16U, I64Load32S, I64Load32U}
use Rattle.wtypes.specs.declared.StoreOp.{StoreOp}
use Rattle.wtypes.specs.declared.StoreOp.TheVariants.{I32Store, I64Store, I32Store8, I32Store16, I64Store8, I64Store16, I64Store32}

-- the number that bytes spell, the lowest byte first (little-endian)
abbrev pub number_of_bytes : List ℕ → ℕ
number_of_bytes [] = 0
number_of_bytes (b ∷ bs) = b + 256 * number_of_bytes bs

-- the n lowest bytes of a number, the lowest first
abbrev pub bytes_of_number : ℕ → ℕ → List ℕ
bytes_of_number zero x = []
bytes_of_number (suc n) x = x % 256 ∷ bytes_of_number n (x / 256)

-- the type of the value that a load gives
abbrev pub load_type : LoadOp → ValType
load_type I32Load = I32
load_type I64Load = I64
load_type I32Load8S = I32
load_type I32Load8U = I32
load_type I32Load16S = I32
load_type I32Load16U = I32
load_type I64Load8S = I64
load_type I64Load8U = I64
load_type I64Load16S = I64
load_type I64Load16U = I64
load_type I64Load32S = I64
load_type I64Load32U = I64

-- how many bytes a load reads
abbrev pub load_width : LoadOp → ℕ
load_width I32Load = 4
load_width I64Load = 8
load_width I32Load8S = 1
load_width I32Load8U = 1
load_width I32Load16S = 2
load_width I32Load16U = 2
load_width I64Load8S = 1
load_width I64Load8U = 1
load_width I64Load16S = 2
load_width I64Load16U = 2
load_width I64Load32S = 4
load_width I64Load32U = 4

-- the number that a load gives for the number that its bytes spell: a narrow one is extended by its signed reading or with zeros
abbrev pub extended : LoadOp → ℕ → ℕ
extended I32Load x = x
extended I64Load x = x
extended I32Load8S x = cast_unsigned w32 (cast_signed w8 x)
extended I32Load8U x = x
extended I32Load16S x = cast_unsigned w32 (cast_signed w16 x)
extended I32Load16U x = x
extended I64Load8S x = cast_unsigned w64 (cast_signed w8 x)
extended I64Load8U x = x
extended I64Load16S x = cast_unsigned w64 (cast_signed w16 x)
extended I64Load16U x = x
extended I64Load32S x = cast_unsigned w64 (cast_signed w32 x)
extended I64Load32U x = x

-- the type of the value that a store takes
abbrev pub store_type : StoreOp → ValType
store_type I32Store = I32
store_type I64Store = I64
store_type I32Store8 = I32
store_type I32Store16 = I32
store_type I64Store8 = I64
store_type I64Store16 = I64
store_type I64Store32 = I64

-- how many bytes a store writes, the lowest ones of its value
abbrev pub store_width : StoreOp → ℕ
store_width I32Store = 4
store_width I64Store = 8
store_width I32Store8 = 1
store_width I32Store16 = 2
store_width I64Store8 = 1
store_width I64Store16 = 2
store_width I64Store32 = 4
