-- The lines that tell what a call alone over cells came to.
use Rattle.std.specs.Prelude.{ℕ, ◌==◌, Bool, true, false, Option, Some, None, List, [], ◌∷◌, ◌++◌, codes, decimal, if◌then◌else◌}
use Rattle.std.specs.FinMap.{entries, get}
use Rattle.spec_ledger.specs.declared.Lock.{Lock}
use Rattle.spec_ledger.specs.declared.Mode.{Mode}
use Rattle.spec_ledger.specs.Cells.{Cells}
use Rattle.spec_execution.specs.Serial.{CallResult}
use Rattle.figures.specs.Words.{kind_word, mode_word}
use Rattle.wblock_calls.specs.Numbers.{number_text}
use Rattle.wblock_calls.specs.Receipts.{receipt_text}

-- `map C:K` or `counter C:K`, the key signed or not
abbrev pub lock_text : (signed : Bool) → Lock → List ℕ
lock_text signed l = kind_word l.kind ++ codes " " ++ decimal l.contract ++ codes ":" ++ number_text signed l.key

-- `lock LOCK MODE`
abbrev pub lock_line : (signed : Bool) → Lock × Mode → List ℕ
lock_line signed held = codes "lock " ++ lock_text signed held.0 ++ codes " " ++ mode_word held.1 ++ 10 ∷ []

abbrev pub lock_lines : (signed : Bool) → List (Lock × Mode) → List ℕ
lock_lines signed [] = []
lock_lines signed (held ∷ more) = lock_line signed held ++ lock_lines signed more

-- a number, signed or not, or `-` where there is none
abbrev pub maybe_number : (signed : Bool) → Option ℕ → List ℕ
maybe_number signed None = codes "-"
maybe_number signed (Some n) = number_text signed n

abbrev pub is_same : Option ℕ → Option ℕ → Bool
is_same None None = true
is_same None (Some n) = false
is_same (Some m) None = false
is_same (Some m) (Some n) = m == n

-- `LOCK BEFORE -> LATER` of a cell that is changed, and of another one nothing
abbrev pub change_line : (signed : Bool) → Lock → (before later : Option ℕ) → List ℕ
change_line signed lock before later = if is_same before later then [] else lock_text signed lock ++ codes " " ++ maybe_number signed before ++ codes " -> " ++ maybe_number signed later ++ 10 ∷ []

-- of the cells at these locks
abbrev pub change_lines : (signed : Bool) → (before later : Cells) → List (Lock × Mode) → List ℕ
change_lines signed before later [] = []
change_lines signed before later (held ∷ more) = change_line signed held.0 (get before held.0) (get later held.0) ++ change_lines signed before later more

-- the receipt, a line for each lock that the call asked for, in the order of locks, and one for each of the cells at them that it changed
abbrev pub effects_text : (signed : Bool) → CallResult → (before later : Cells) → List ℕ
effects_text signed ran before later = receipt_text ran.receipt ++ codes "\n" ++ lock_lines signed (entries ran.touched) ++ change_lines signed before later (entries ran.touched)
