-- The innermost of what is open.
use Rattle.std.specs.Prelude.{ℕ, List, [], ◌∷◌, Option, Some, None}
use Rattle.laws_reduction.specs.Meaning.{Item, Scope, Block, Loop, Frame, Open}

-- the innermost of these
abbrev pub innermost : List Open → Option Open
innermost [] = None
innermost (e ∷ es) = Some e

abbrev pub function_of : Scope → Option ℕ
function_of Block = None
function_of Loop = None
function_of (Frame f saved) = Some f

-- the function of the innermost frame
abbrev pub function_in : List Open → Option ℕ
function_in [] = None
function_in (e ∷ es) = function_of e.scope

-- the ordinal of the first of these instructions
abbrev pub first_ordinal : List Item → Option ℕ
first_ordinal [] = None
first_ordinal (i ∷ is) = Some i.ordinal
