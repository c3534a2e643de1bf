-- What is told at an end does not step.
use Rattle.std.proofs.Common.{◌≡◌, List, [], ◌∷◌, refl}
use Rattle.spec_ledger.specs.declared.Outcome.{Outcome}
use Rattle.spec_ledger.specs.declared.Outcome.TheVariants.{Trapped, OutOfFuel}
use Rattle.spec_execution.specs.Levels.{Level}
use Rattle.interp.specs.declared.turns.Status.{Status}
use Rattle.interp.specs.declared.turns.Status.TheVariants as status
use Rattle.interp.specs.declared.turns.Turn.{Turn}
use Rattle.interp.specs.declared.turns.Turn.TheVariants as turn
use Rattle.interp.specs.Progress.{Progress, IsFree, IsToldAt, LastIs}

last_stops : (a : Turn) (o : Outcome) (ls : List Level) → LastIs a o ls → a ≡ turn.Stepped → ⊥
last_stops a o [] h e = cc
last_stops a o (l ∷ ls) h e = cc

pub told_stops : (p : Progress) (a : Turn) (q : Progress) (x : Status) → (x ≡ status.Running → ⊥) → IsFree x → IsToldAt p a q x → a ≡ turn.Stepped → ⊥
told_stops p a q status.Running stopped free h e = absurd (stopped refl)
told_stops p a q (status.Fallen t) stopped free h e = last_stops a (Trapped t) p.config.outer h e
told_stops p a q (status.Asking op) stopped free h e = absurd free
told_stops p a q status.Closing stopped free h e = last_stops a OutOfFuel p.config.outer h e
told_stops p a q (status.Ended o) stopped free h e = let done = h.0 in cc
told_stops p a q status.NoMemory stopped free h e = let none = h.0 in cc
