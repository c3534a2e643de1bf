-- How far a machine goes of its own.
use Rattle.std.specs.Prelude.{◌≡◌, ◌<◌, ◌≤◌, [], ◌∷◌, ◌++◌, Bool}
use Rattle.spec_ledger.specs.declared.Op.{Op}
use Rattle.spec_ledger.specs.declared.TraceStep.TheVariants.{Opened}
use Rattle.interp.specs.declared.turns.Status.{Status}
use Rattle.interp.specs.declared.turns.Status.TheVariants as status
use Rattle.interp.specs.Progress.{Progress, IsFree, IsSameCall, WantsMemory, left_of, mark_of}
use Rattle.serial.specs.declared.turn_loop.HostRequest.{HostRequest}
use Rattle.serial.specs.declared.turn_loop.HostRequest.TheVariants as wish

abbrev pub IsEnded : Status → Type 0
IsEnded (status.Ended o) = Unit {0}
IsEnded _ = ⊥

-- turns were made that ask for nothing
pub record HasGone (p q : Progress) : Type 0 where
  pub same : IsSameCall p q
  pub trace : q.trace ≡ p.trace
  pub used : p.used ≤ q.used
  pub left : left_of q ≤ left_of p

-- turns were made, of which the last asks for this operation
pub record HasAskedFor (p : Progress) (op : Op) (q : Progress) : Type 0 where
  pub same : IsSameCall p q
  pub trace : q.trace ≡ p.trace
  pub used : p.used < q.used
  pub within : q.used ≤ q.call.fuel
  pub less : left_of q < left_of p
  pub asking : q.status ≡ status.Asking op

-- turns were made, of which the last enters a level
pub record HasEntered (p q : Progress) : Type 0 where
  pub same : IsSameCall p q
  pub trace : q.trace ≡ p.trace ++ Opened ∷ []
  pub used : p.used < q.used
  pub within : q.used ≤ q.call.fuel
  pub less : left_of q < left_of p
  pub free : IsFree q.status

-- turns were made, if any, and then the innermost level was left
pub record HasLeft (p : Progress) (keep : Bool) (q : Progress) : Type 0 where
  pub same : IsSameCall p q
  pub trace : q.trace ≡ p.trace ++ mark_of keep ∷ []
  pub used : p.used ≤ q.used
  pub within : q.used ≤ q.call.fuel
  pub less : left_of q < left_of p
  pub free : IsFree q.status

abbrev pub HasComeTo : Progress → HostRequest → Progress → Type 0
HasComeTo p (wish.Do op) q = HasAskedFor p op q
HasComeTo p wish.Enter q = HasEntered p q
HasComeTo p (wish.Leave keep) q = HasLeft p keep q

-- turns were made, and the run has ended
pub record HasEnded (p q : Progress) : Type 0 where
  pub gone : HasGone p q
  pub ended : IsEnded q.status

-- turns were made, and memory was refused to the next
pub record HasLacked (p q : Progress) : Type 0 where
  pub before : Progress
  pub gone : HasGone p before
  pub wants : WantsMemory before before.status
  pub same : IsSameCall p q
  pub lacks : q.status ≡ status.NoMemory

-- a wish was met, and the run may go on
pub record MayGoOn (p q : Progress) : Type 0 where
  pub free : IsFree q.status
  pub less : left_of q < left_of p
  pub within : q.used ≤ q.call.fuel
