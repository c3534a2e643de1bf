-- What a call asks for, one lock after another, and what it holds by that.
use Rattle.std.specs.Prelude.{◌≡◌, false, List, [], ◌∷◌, ◌++◌, map}
use Rattle.std.specs.Ordering.{is_lt}
use Rattle.std.specs.FinMap.{get, insert, from_entries}
use Rattle.spec_ledger.specs.declared.Lock.{Lock}
use Rattle.spec_ledger.specs.declared.Mode.{Mode}
use Rattle.spec_ledger.specs.declared.Op.{Op}
use Rattle.spec_ledger.specs.declared.TraceStep.{TraceStep}
use Rattle.spec_ledger.specs.declared.TraceStep.TheVariants.{Did, Opened, Kept, Dropped}
use Rattle.spec_ledger.specs.Cells.{lock_cmp, lock_of}
use Rattle.spec_ledger.specs.Modes.{Modes, mode_of, join_held, ops_of}
use Rattle.lock_profile.specs.declared.Held.{Held}
use Rattle.lock_profile.specs.Groups.{pair_of, pairs}

-- an operation asks for its lock
abbrev pub ask_of : Op → Lock × Mode
ask_of op = (lock_of op, mode_of op)

-- what the operations of a trace ask for
abbrev pub asks : List TraceStep → List (Lock × Mode)
asks t = map ask_of (ops_of t)

-- the same with that of one step more: a mark asks for nothing
abbrev pub asks_with : List (Lock × Mode) → TraceStep → List (Lock × Mode)
asks_with es (Did op r) = es ++ ask_of op ∷ []
asks_with es Opened = es
asks_with es Kept = es
asks_with es Dropped = es

-- the modes of a list of locks
abbrev pub modes_in : List (Lock × Mode) → Modes
modes_in es = from_entries es

-- what is held with a lock that is asked for in a mode
abbrev pub asked_for : Modes → Lock × Mode → Modes
asked_for held e = insert held e.0 (join_held e.1 (get held e.0))

-- the same of an operation, and of all in a list
abbrev pub asked : Modes → Op → Modes
asked held op = asked_for held (ask_of op)

abbrev pub asked_all : Modes → List (Lock × Mode) → Modes
asked_all held [] = held
asked_all held (e ∷ es) = asked_all (asked_for held e) es

-- ---- in the order of locks

-- locks, and a last one
abbrev pub with_last : List Held → Held → List (Lock × Mode)
with_last held last = pairs held ++ pair_of last ∷ []

-- no lock is below the one before it, of which the first comes behind this one
abbrev pub DoNotFallFrom : Lock → List Held → Type 0
DoNotFallFrom q [] = Unit {0}
DoNotFallFrom q (h ∷ hs) = (is_lt (lock_cmp h.lock q) ≡ false) × DoNotFallFrom h.lock hs

abbrev pub DoNotFall : List Held → Type 0
DoNotFall [] = Unit {0}
DoNotFall (h ∷ hs) = DoNotFallFrom h.lock hs
