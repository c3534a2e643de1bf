-- Names of types.
use Rattle.std.specs.Prelude.{ℕ, List, codes}
use Rattle.wtypes.specs.declared.ValType.{ValType}
use Rattle.wtypes.specs.declared.ValType.TheVariants.{I32, I64}

abbrev pub type_name : ValType → List ℕ
type_name I32 = codes "i32"
type_name I64 = codes "i64"
