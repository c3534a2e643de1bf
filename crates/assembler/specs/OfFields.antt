-- Refusals of fields.
use Rattle.text_resolve.specs.declared.refusal.AsmRefusal.{AsmRefusal}
use Rattle.text_resolve.specs.declared.refusal.AsmRefusal.TheVariants.{Lex, Unexpected, UnknownName, RepeatedName, NumberRange, TooLarge, NoMemory}

-- it is not of the tokens, and not of the grammar
abbrev pub IsOfFields : AsmRefusal → Type 0
IsOfFields (Lex refusal) = ⊥
IsOfFields (Unexpected at) = ⊥
IsOfFields (UnknownName at) = Unit {0}
IsOfFields (RepeatedName at) = Unit {0}
IsOfFields (NumberRange at) = Unit {0}
IsOfFields (TooLarge limit) = Unit {0}
IsOfFields NoMemory = Unit {0}
