-- What the refusals of a text say.
use Rattle.std.specs.Prelude.{⊤}
use Rattle.text_resolve.specs.declared.refusal.AsmRefusal.{AsmRefusal}
use Rattle.text_resolve.specs.declared.refusal.AsmRefusal.TheVariants.{Lex, Unexpected, UnknownName, RepeatedName, NumberRange, TooLarge, NoMemory}

-- what every refusal but that of memory says
abbrev pub Unless : Type 0 → AsmRefusal → Type 0
Unless P NoMemory = ⊤
Unless P (Lex refusal) = P
Unless P (Unexpected at) = P
Unless P (UnknownName at) = P
Unless P (RepeatedName at) = P
Unless P (NumberRange at) = P
Unless P (TooLarge limit) = P
