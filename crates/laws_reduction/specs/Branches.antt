-- Branches and returns.
use Rattle.std.specs.Prelude.{◌≡◌, ◌+◌, ◌-◌, ◌≤◌, Bool, true, false, List, [], ◌∷◌, ◌++◌, length, take, drop}
use Rattle.wtypes.specs.declared.Value.{Value}
use Rattle.laws_reduction.specs.Meaning.{Scope, Block, Loop, Frame, Open, View, outer, frames}

-- the innermost call, with what is open round it
abbrev pub from_call : Scope → Open → List Open → List Open → List Open
from_call Block e es rest = rest
from_call Loop e es rest = rest
from_call (Frame f saved) e es rest = e ∷ es

abbrev pub is_frame : Scope → Bool
is_frame Block = false
is_frame Loop = false
is_frame (Frame f saved) = true

abbrev pub in_call : List Open → List Open
in_call [] = []
in_call (e ∷ es) = from_call e.scope e es (in_call es)

-- the innermost of these is what is left, with enough values for it; only labels stand inside it
pub record IsTarget (es : List Open) (stack : List Value) (target : List Open) : Type 0 where
  pub entry : Open
  pub outside : List Open
  pub there : target ≡ entry ∷ outside
  pub enough : entry.height + entry.arity ≤ length stack
  pub same_frames : frames es 0 ≡ frames target 0

-- it is left, with the values that it keeps, and the code goes on behind it, or with the loop again
pub record IsJump (v : View) (target : List Open) (w : View) : Type 0 where
  pub entry : Open
  pub there : target ≡ entry ∷ w.entries
  pub base : w.base ≡ v.base
  pub stack : w.stack ≡ take entry.height v.stack ++ drop (length v.stack - entry.arity) v.stack
  pub locals : w.locals ≡ outer entry.scope v.locals
  pub code : w.code ≡ entry.from
