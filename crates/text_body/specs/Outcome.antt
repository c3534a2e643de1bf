-- What a reader's result says of reading.
use Rattle.std.specs.Prelude.{◌≡◌, Option, Some, None, Result, Ok, Err, ⊤}
use Rattle.text_body.specs.declared.unread.ParseFault.{ParseFault}
use Rattle.text_body.specs.declared.unread.ParseFault.TheVariants.{Stuck, NoMemory}

-- what every refusal but that of memory says
abbrev pub Unless : Type 0 → ParseFault → Type 0
Unless P NoMemory = ⊤
Unless P (Stuck at) = P

-- what was returned, seen by view, is what reading gives, unless memory ran out
abbrev pub Gives : {X Y : Type 0} → (X → Y) → Result X ParseFault → Option Y → Type 0
Gives view (Ok x) read = read ≡ Some (view x)
Gives view (Err e) read = Unless (read ≡ None) e
