-- What instructions take off the stack (Core Specification, 3.3 Instructions).
use Rattle.std.specs.Prelude.{Bool, true, false, Option, Some, None, reverse}
use Rattle.spec_typing.specs.Principal.{Stack, pop, pop_types, select}
use Rattle.typing.specs.declared.takes.Takes.{Takes}
use Rattle.typing.specs.declared.takes.Takes.TheVariants.{Types, OneOfAny, TwoAlike, Nothing}

abbrev pub is_there : {X : Type 0} → Option X → Bool
is_there None = false
is_there (Some x) = true

-- may what is taken stand on top of the stack?
abbrev pub finds : Takes → Stack → Bool
finds (Types types) s = is_there (pop_types (reverse types.items) s.any_below s.top)
finds OneOfAny s = is_there (pop s.any_below s.top)
finds TwoAlike s = is_there (select s)
finds Nothing s = false
