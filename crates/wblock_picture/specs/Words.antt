-- The locks of a position, and outcomes, in words.
use Rattle.std.specs.Prelude.{ℕ, zero, suc, ◌-◌, List, [], ◌∷◌, ◌++◌, codes, decimal, length, take}
use Rattle.spec_ledger.specs.declared.Entry.{Entry}
use Rattle.spec_ledger.specs.declared.Outcome.{Outcome}
use Rattle.spec_ledger.specs.declared.Outcome.TheVariants.{Returned, Trapped, OutOfFuel, Rejected}
use Rattle.figures.specs.Words.{lock_text, mode_word}
use Rattle.wblock_picture.specs.declared.scene.TheConstants.{MOST_LOCKS}

-- the letter of a box
abbrev pub letter : Outcome → List ℕ
letter (Returned v) = codes "R"
letter (Trapped t) = codes "T"
letter OutOfFuel = codes "F"
letter (Rejected n) = codes "X"

-- a newline and `LOCK MODE turn T`
abbrev pub entry_text : Entry → List ℕ
entry_text e = 10 ∷ lock_text e.lock ++ codes " " ++ mode_word e.mode ++ codes " turn " ++ decimal e.turn

abbrev pub entries_text : List Entry → List ℕ
entries_text [] = []
entries_text (e ∷ es) = entry_text e ++ entries_text es

-- a newline and `N more`, where any are not told
abbrev pub more_text : ℕ → List ℕ
more_text zero = []
more_text (suc n) = 10 ∷ decimal (suc n) ++ codes " more"

-- the first locks of a position, and how many more it holds
abbrev pub locks_text : List Entry → List ℕ
locks_text es = entries_text (take MOST_LOCKS es) ++ more_text (length es - MOST_LOCKS)
