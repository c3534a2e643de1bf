-- What a check says.
use Rattle.std.specs.Prelude.{◌≡◌, Bool, true, false, Result, Ok, Err}
use Rattle.body_typing.specs.declared.scope.TypeRefusal.{TypeRefusal}
use Rattle.body_typing.specs.declared.scope.TypeRefusal.TheVariants.{At, NoMemory}

-- where a call passes, the test is true, and where it refuses for another cause than memory it is false
abbrev pub JudgedBy : {T : Type 0} → Result T TypeRefusal → Bool → Type 0
JudgedBy (Ok x) b = b ≡ true
JudgedBy (Err (At func ordinal rule)) b = b ≡ false
JudgedBy (Err NoMemory) b = Unit {0}

-- a refusal for another cause than memory says that this does not hold
abbrev pub Denies : TypeRefusal → Type 0 → Type 0
Denies (At func ordinal rule) P = ¬ P
Denies NoMemory P = Unit {0}
