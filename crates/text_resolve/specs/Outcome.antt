-- What a resolver's result says of the definitions.
use Rattle.std.specs.Prelude.{◌≡◌, Option, Some, None, Result, Ok, Err, ⊤}
use Rattle.text_resolve.specs.declared.refusal.ResolveFault.{ResolveFault}
use Rattle.text_resolve.specs.declared.refusal.ResolveFault.TheVariants.{UnknownName, RepeatedName, NumberRange, TooLarge, Broken, NoMemory}

-- what every refusal but that of memory says
abbrev pub Unless : Type 0 → ResolveFault → Type 0
Unless P NoMemory = ⊤
Unless P Broken = P
Unless P (UnknownName at) = P
Unless P (RepeatedName at) = P
Unless P (NumberRange at) = P
Unless P (TooLarge limit) = P

-- nothing is read
abbrev pub Fails : {Y : Type 0} → ResolveFault → Option Y → Type 0
Fails e read = Unless (read ≡ None) e

-- what was returned, seen by view, is what reading gives, unless memory ran out
abbrev pub Gives : {X Y : Type 0} → (X → Y) → Result X ResolveFault → Option Y → Type 0
Gives view (Ok x) read = read ≡ Some (view x)
Gives view (Err e) read = Fails e read
