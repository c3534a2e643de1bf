-- What a reader's result says of reading.
use Rattle.std.specs.Prelude.{◌≡◌, ◌++◌, ◌-◌, ℕ, Bool, true, false, List, Option, Some, None, Result, Ok, Err, ⊤}
use Rattle.spec_modules.specs.Syntax.{Instrs}
use Rattle.spec_modules.specs.Grammar.{expression}
use Rattle.spec_modules.specs.Spells.{ExpressionFits}
use Rattle.expr_reader.specs.declared.LoadRefusal.{LoadRefusal}
use Rattle.expr_reader.specs.declared.LoadRefusal.TheVariants.{Malformed, Unsupported, TooLarge, NoMemory}
use Rattle.expr_reader.specs.declared.unread.DecodeFault.{DecodeFault}
use Rattle.expr_reader.specs.declared.unread.DecodeFault.TheVariants as unread

-- what every refusal but that of memory says
abbrev pub Unless : Type 0 → LoadRefusal → Type 0
Unless P NoMemory = ⊤
Unless P (Malformed at) = P
Unless P (Unsupported at) = P
Unless P (TooLarge limit) = P

-- no expression within the limits is spelled at the front of the bytes
abbrev pub NoExpression : List ℕ → Type 0
NoExpression bytes = (is : Instrs) (a rest : List ℕ) → ExpressionFits is → expression is a → bytes ≡ a ++ rest → ⊥

-- ---- Inside, where a reader counts the bytes that are left

-- the refusal of bytes that end at this offset
abbrev pub refusal_before : ℕ → DecodeFault → LoadRefusal
refusal_before end (unread.Malformed left) = Malformed (end - left)
refusal_before end (unread.Unsupported left) = Unsupported (end - left)
refusal_before end (unread.TooLarge limit) = TooLarge limit
refusal_before end unread.NoMemory = NoMemory

-- whether memory ran out
abbrev pub is_memory : DecodeFault → Bool
is_memory unread.NoMemory = true
is_memory (unread.Malformed left) = false
is_memory (unread.Unsupported left) = false
is_memory (unread.TooLarge limit) = false

-- nothing is read, or memory ran out
abbrev pub Fails : {Y : Type 0} → DecodeFault → Option Y → Type 0
Fails unread.NoMemory read = ⊤
Fails (unread.Malformed left) read = read ≡ None
Fails (unread.Unsupported left) read = read ≡ None
Fails (unread.TooLarge limit) read = read ≡ None

-- what was returned, seen by view, is what reading gives, unless memory ran out
abbrev pub Gives : {X Y : Type 0} → (X → Y) → Result X DecodeFault → Option Y → Type 0
Gives view (Ok x) read = read ≡ Some (view x)
Gives view (Err e) read = Fails e read
