-- Turns that step, one after another.
use Rattle.std.proofs.Common.{◌≡◌, ◌<◌, ◌≤◌, refl, sym, ◌∙◌, subst, arith}
use Rattle.interp.specs.declared.turns.Status.{Status}
use Rattle.interp.specs.declared.turns.Status.TheVariants as status
use Rattle.interp.specs.declared.turns.Turn.{Turn}
use Rattle.interp.specs.declared.turns.Turn.TheVariants as turn
use Rattle.interp.specs.Progress.{Progress, NextIs, IsToldAt, IsSameCall, WantsMemory, MayTakeMemory, GoesOn, IsFree}
use Rattle.interp.specs.Machine.{Seen, IsAt, IsMachine}
use Rattle.interp.specs.Turns.{AreSteps, none, one_more, HasTurned}

pub free_of : (x : Status) → GoesOn x → IsFree x
free_of status.Running h = tt
free_of (status.Fallen t) h = tt
free_of (status.Asking op) h = absurd h
free_of status.Closing h = absurd h
free_of (status.Ended o) h = absurd h
free_of status.NoMemory h = absurd h

pub steps_join : (p m q : Progress) → AreSteps p m → AreSteps m q → AreSteps p q
steps_join p m q s (none x) = s
steps_join p m q s (one_more x k y t h) = one_more _ _ _ (steps_join p m k s t) h

-- a run that goes on has used no more than its fuel
pub within_of : (s : Seen) → IsMachine s → GoesOn s.status → s.used ≤ s.call.fuel
within_of s m g = by s.status m.at g
  where
    by : (x : Status) → IsAt s x → GoesOn x → s.used ≤ s.call.fuel
    by status.Running live g = live.within
    by (status.Fallen t) fallen g = fallen.within
    by (status.Asking op) at g = absurd g
    by status.Closing at g = absurd g
    by (status.Ended o) at g = absurd g
    by status.NoMemory at g = absurd g

-- one more turn of a run that goes on
pub turned : (p m : Progress) (a : Turn) (q : Progress) → AreSteps p m → m.status ≡ status.Running → NextIs m a q → (a ≡ turn.NoMemory → MayTakeMemory m) → (a ≡ turn.NoMemory → IsSameCall m q) → HasTurned p a q
turned p m a q s running is takes same = record {
  before = m;
  steps = s;
  last = is;
  told = subst (λ (x : Status). IsToldAt m a q x) (sym running) tt;
  no_memory = λ e. subst (λ (x : Status). WantsMemory m x) (sym running) (takes e);
  same = same;
}

-- the same behind turns that stepped
pub turned_after : (p m : Progress) (a : Turn) (q : Progress) → AreSteps p m → HasTurned m a q → HasTurned p a q
turned_after p m a q s h = record { before = h.before; steps = steps_join p m h.before s h.steps; last = h.last; told = h.told; no_memory = h.no_memory; same = h.same }

pub turned_stepped : (p q : Progress) → HasTurned p turn.Stepped q → AreSteps p q
turned_stepped p q h = one_more p h.before q h.steps h.last

-- turns that step use fuel
pub steps_used : (p q : Progress) → AreSteps p q → p.used ≤ q.used
steps_used p q (none x) = omega arith
steps_used p q (one_more x m y s h) = let e = steps_used p m s in let u = h.used in omega (arith, e, u)

pub steps_fuel : (p q : Progress) → AreSteps p q → q.call ≡ p.call
steps_fuel p q (none x) = refl
steps_fuel p q (one_more x m y s h) = h.same.call ∙ steps_fuel p m s

pub stepped_used : (p q : Progress) → HasTurned p turn.Stepped q → p.used < q.used
stepped_used p q h = let e = steps_used p h.before h.steps in let u = h.last.used in omega (arith, e, u)
