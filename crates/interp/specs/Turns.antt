-- How far a machine goes of its own: turns that step, and the first that does not.
use Rattle.std.specs.Prelude.{◌≡◌}
use Rattle.interp.specs.declared.turns.Turn.{Turn}
use Rattle.interp.specs.declared.turns.Turn.TheVariants as turn
use Rattle.interp.specs.Progress.{Progress, NextIs, HasStepped, IsTold, IsSameCall, WantsMemory}

-- turns were made, each of which stepped
pub data AreSteps : Progress → Progress → Type 0 where
  none : (p : Progress) → AreSteps p p
  one_more : (p m q : Progress) → AreSteps p m → HasStepped m q → AreSteps p q

-- Turns were made that stepped, if any, and then one more, which gave this answer.
pub record HasTurned (p : Progress) (a : Turn) (q : Progress) : Type 0 where
  pub before : Progress
  pub steps : AreSteps p before
  pub last : NextIs before a q
  pub told : IsTold before a q
  pub no_memory : a ≡ turn.NoMemory → WantsMemory before before.status
  pub same : a ≡ turn.NoMemory → IsSameCall before q
