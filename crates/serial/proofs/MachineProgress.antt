-- What turns that step, and the one behind them, come to.
use Rattle.std.proofs.Common.{◌≡◌, ◌≤◌, Bool, List, [], ◌∷◌, ◌++◌, refl, sym, ap, ◌∙◌, subst, arith, inl, inr}
use Rattle.spec_ledger.specs.declared.TraceStep.{TraceStep}
use Rattle.spec_ledger.specs.declared.TraceStep.TheVariants.{Opened}
use Rattle.spec_ledger.specs.declared.Op.{Op}
use Rattle.spec_ledger.specs.declared.Outcome.{Outcome}
use Rattle.interp.specs.declared.turns.Status.{Status}
use Rattle.interp.specs.declared.turns.Status.TheVariants as status
use Rattle.interp.specs.declared.turns.Turn.TheVariants as turn
use Rattle.interp.specs.Progress.{Progress, IsProgress, IsProgressAt, IsSameCall, IsFree, IsUnfinished, GoesOn, mark_of, with_inner}
use Rattle.interp.specs.Turns.{AreSteps, none, one_more, HasTurned}
use Rattle.serial.specs.MachineProgress.{HasGone, HasAskedFor, HasEntered, HasLeft, HasEnded, HasLacked, IsEnded}

pub same_joined : (p m q : Progress) → IsSameCall p m → IsSameCall m q → IsSameCall p q
same_joined p m q g h = record {
  setting = h.setting ∙ g.setting;
  call = h.call ∙ g.call;
  contract = h.contract ∙ g.contract;
  func = h.func ∙ g.func;
}

fuel_same : (p q : Progress) → IsSameCall p q → q.call.fuel ≡ p.call.fuel
fuel_same p q h = λ k. (h.call k).fuel

pub gone_of : (p q : Progress) → AreSteps p q → HasGone p q
gone_of p q (none x) = record {
  same = record { setting = refl; call = refl; contract = refl; func = refl };
  trace = refl;
  used = omega arith;
  left = omega arith;
}
gone_of p q (one_more x m y s h) =
    let g = gone_of p m s in
    let past = g.used in
    let more = h.used in
    let less = g.left in
    let depth = h.depth in
    record { same = same_joined p m q g.same h.same; trace = h.trace ∙ g.trace; used = omega (arith, past, more); left = omega (arith, less, more, depth, fuel_same m q h.same) }

-- a run that goes on has used no more than its fuel
within_of : (q : Progress) → IsProgress q → GoesOn q.status → q.used ≤ q.call.fuel
within_of q on g = by q.status on.at g
  where
    by : (x : Status) → IsProgressAt q x → GoesOn x → q.used ≤ q.call.fuel
    by status.Running at g = at.within
    by (status.Fallen t) at g = at.within
    by (status.Asking op) at g = absurd g
    by status.Closing at g = absurd g
    by (status.Ended o) at g = absurd g
    by status.NoMemory at g = absurd g

free_of : (x : Status) → GoesOn x → IsFree x
free_of status.Running h = tt
free_of (status.Fallen t) h = tt
free_of (status.Asking op) h = absurd h
free_of status.Closing h = absurd h
free_of (status.Ended o) h = absurd h
free_of status.NoMemory h = absurd h

pub not_unfinished : (x : Status) → IsEnded x → IsUnfinished x → ⊥
not_unfinished status.Running e u = e
not_unfinished (status.Fallen t) e u = e
not_unfinished (status.Asking op) e u = e
not_unfinished status.Closing e u = e
not_unfinished (status.Ended o) e u = u
not_unfinished status.NoMemory e u = e

pub asked_for : (p : Progress) (op : Op) (q : Progress) → HasTurned p (turn.Host op) q → IsProgress q → HasAskedFor p op q
asked_for p op q h on =
    let g = gone_of p h.before h.steps in
    let past = g.used in
    let less = g.left in
    let more = h.last.used in
    let depth = h.last.depth in
    let at : IsProgressAt q (status.Asking op) = subst (λ (x : Status). IsProgressAt q x) h.last.asking on.at in
    let within = at.within in
    record {
      same = same_joined p h.before q g.same h.last.same;
      trace = h.last.trace ∙ g.trace;
      used = omega (arith, past, more);
      within = within;
      less = omega (arith, less, more, depth, within, fuel_same h.before q h.last.same);
      asking = h.last.asking;
    }

pub entered : (p q : Progress) → HasTurned p turn.Enter q → IsProgress q → HasEntered p q
entered p q h on =
    let g = gone_of p h.before h.steps in
    let past = g.used in
    let less = g.left in
    let more = h.last.used in
    let depth = h.last.depth in
    let within = within_of q on h.last.goes_on in
    record {
      same = same_joined p h.before q g.same h.last.same;
      trace = h.last.trace ∙ ap (λ (t : List TraceStep). t ++ Opened ∷ []) g.trace;
      used = omega (arith, past, more);
      within = within;
      less = omega (arith, less, more, depth, within, fuel_same h.before q h.last.same);
      free = free_of q.status h.last.goes_on;
    }

pub left : (p : Progress) (keep : Bool) (q : Progress) → HasTurned p (turn.Leave keep) q → IsProgress q → HasLeft p keep q
left p keep q h on =
    let g = gone_of p h.before h.steps in
    let past = g.used in
    let less = g.left in
    let more = h.last.used in
    let depth = h.last.depth in
    record {
      same = same_joined p h.before q g.same h.last.same;
      trace = h.last.trace ∙ ap (λ (t : List TraceStep). t ++ mark_of keep ∷ []) g.trace;
      used = omega (arith, past, more);
      within = elim h.last.left [ inl back ↦ within_of q on back.goes_on | inr shut ↦ (let at : IsProgressAt q status.Closing = subst (λ (x : Status). IsProgressAt q x) shut.closing on.at in at.within) ];
      less = omega (arith, less, more, depth, fuel_same h.before q h.last.same);
      free = elim h.last.left [ inl back ↦ free_of q.status back.goes_on | inr shut ↦ subst IsFree (sym shut.closing) tt ];
    }

pub has_ended : (p : Progress) (o : Outcome) (q : Progress) → HasTurned p (turn.Done o) q → HasEnded p q
has_ended p o q h =
    let g = gone_of p h.before h.steps in
    let m = h.before in
    let done : q ≡ record m { config = with_inner m.config q.config.inner.config; status = status.Ended o } = h.last.same in
    record {
      gone = subst (λ (x : Progress). HasGone p x) (sym done) (record { same = record { setting = g.same.setting; call = g.same.call; contract = g.same.contract; func = g.same.func }; trace = g.trace; used = g.used; left = g.left });
      ended = subst IsEnded (sym (ap (λ (x : Progress). x.status) done)) tt;
    }

pub has_lacked : (p q : Progress) → HasTurned p turn.NoMemory q → HasLacked p q
has_lacked p q h = let g = gone_of p h.before h.steps in record {
  before = h.before;
  gone = g;
  wants = h.no_memory refl;
  same = same_joined p h.before q g.same (h.same refl);
  lacks = h.last;
}
