-- When a refusal is right.
use Rattle.std.specs.Prelude.{List, ⊤}
use Rattle.spec_text.specs.Lexical.{Token}
use Rattle.spec_text.specs.Words.{Word, AreWords}
use Rattle.lexer.specs.declared.refusal.TextRefusal.{TextRefusal}
use Rattle.lexer.specs.declared.refusal.TextRefusal.TheVariants.{Unexpected, NoMemory}

-- what every refusal but that of memory says
abbrev pub Unless : Type 0 → TextRefusal → Type 0
Unless P NoMemory = ⊤
Unless P (Unexpected at) = P

-- the tokens are no words, unless memory ran out
abbrev pub IsRightly : List Token → TextRefusal → Type 0
IsRightly tokens refusal = Unless ((words : List Word) → AreWords tokens words → ⊥) refusal
