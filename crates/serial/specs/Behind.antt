-- What was put behind a list.
use Rattle.std.specs.Prelude.{List, drop, length}

-- what a list has behind another one, with which it begins
abbrev pub behind : {X : Type 0} → List X → List X → List X
behind first list = drop (length first) list
