-- How many levels a trace enters.
use Rattle.std.proofs.Common.{◌≡◌, ◌+◌, Bool, true, false, List, [], ◌∷◌, ◌++◌, refl, ap, arith}
use Rattle.spec_ledger.specs.declared.Op.{Op}
use Rattle.spec_ledger.specs.declared.Reply.{Reply}
use Rattle.spec_ledger.specs.declared.TraceStep.{TraceStep}
use Rattle.spec_ledger.specs.declared.TraceStep.TheVariants.{Did, Opened, Kept, Dropped}
use Rattle.spec_execution.specs.Levels.{asks_in}
use Rattle.interp.specs.Progress.{mark_of}

-- an operation enters none
pub asks_same : (op : Op) (r : Reply) (t : List TraceStep) → asks_in (t ++ Did op r ∷ []) ≡ asks_in t
asks_same op r [] = refl
asks_same op r (Did o x ∷ t) = asks_same op r t
asks_same op r (Opened ∷ t) = ap (λ n. 1 + n) (asks_same op r t)
asks_same op r (Kept ∷ t) = asks_same op r t
asks_same op r (Dropped ∷ t) = asks_same op r t

-- a level that is entered is one more, and one that is left is none
pub asks_more : (t : List TraceStep) → asks_in (t ++ Opened ∷ []) ≡ asks_in t + 1
asks_more [] = refl
asks_more (Did o x ∷ t) = asks_more t
asks_more (Opened ∷ t) = let more = asks_more t in omega (arith, more)
asks_more (Kept ∷ t) = asks_more t
asks_more (Dropped ∷ t) = asks_more t

pub asks_left : (keep : Bool) (t : List TraceStep) → asks_in (t ++ mark_of keep ∷ []) ≡ asks_in t
asks_left true [] = refl
asks_left false [] = refl
asks_left keep (Did o x ∷ t) = asks_left keep t
asks_left keep (Opened ∷ t) = ap (λ n. 1 + n) (asks_left keep t)
asks_left keep (Kept ∷ t) = asks_left keep t
asks_left keep (Dropped ∷ t) = asks_left keep t
