-- What a run asked for is done, and it may go on.
use Rattle.std.proofs.Common.{◌≡◌, ℕ, ◌+◌, ◌-◌, ◌*◌, ◌<◌, ◌≤◌, Bool, Option, Some, IfSome, List, [], ◌∷◌, ◌++◌, length, sym, ◌∙◌, ap, subst, arith}
use Rattle.spec_ledger.specs.declared.Op.{Op}
use Rattle.spec_ledger.specs.declared.Reply.{Reply}
use Rattle.spec_ledger.specs.declared.TraceStep.{TraceStep}
use Rattle.spec_ledger.specs.declared.TraceStep.TheVariants.{Did, Opened}
use Rattle.spec_execution.specs.Run.{ContractCall}
use Rattle.interp.specs.declared.turns.Status.{Status}
use Rattle.interp.specs.declared.turns.Status.TheVariants as status
use Rattle.interp.specs.Progress.{Progress, IsSameCall, HasReplied, HasAnswered, AnsweredAt, GoesOn, IsFree, left_of, mark_of}
use Rattle.serial.specs.declared.turn_loop.HostRequest.{HostRequest}
use Rattle.serial.specs.MachineProgress.{HasComeTo, HasAskedFor, HasEntered, HasLeft, MayGoOn}

-- what the loop over turns answered
pub came_to : (p q : Progress) (o : Option HostRequest) (w : HostRequest) → o ≡ Some w → IfSome o (λ x. HasComeTo p x q) → HasComeTo p w q
came_to p q o w is come = subst (λ x. IfSome x (λ y. HasComeTo p y q)) is come

pub replied_to : (p q s : Progress) (op : Op) (r : Reply) → HasAskedFor p op q → HasAnswered q r s → HasReplied q op r s
replied_to p q s op r asks answers = subst (λ x. AnsweredAt q r s x) asks.asking answers

-- ---- what is known of the steps so far

-- an operation that the run asked for
pub asked_on : (P : List TraceStep → Type 0) (p q s : Progress) (op : Op) (r : Reply) → HasAskedFor p op q → HasAnswered q r s → P (p.trace ++ Did op r ∷ []) → P s.trace
asked_on P p q s op r asks answers h =
    let replied = replied_to p q s op r asks answers in
    subst P (sym (replied.trace ∙ ap (λ t. t ++ Did op r ∷ []) asks.trace)) h

-- a level that it entered
pub entered_on : (P : List TraceStep → Type 0) (p q : Progress) → HasEntered p q → P (p.trace ++ Opened ∷ []) → P q.trace
entered_on P p q enters h = subst P (sym enters.trace) h

-- a level that it left
pub left_on : (P : List TraceStep → Type 0) (p q : Progress) (keep : Bool) → HasLeft p keep q → P (p.trace ++ mark_of keep ∷ []) → P q.trace
left_on P p q keep leaves h = subst P (sym leaves.trace) h

-- ---- it may go on

same_left : (q s : Progress) → IsSameCall q s → s.used ≡ q.used → length s.config.outer ≡ length q.config.outer → left_of s ≡ left_of q
same_left q s same used depth = λ k. 2 * ((same.call k).fuel - used k) + depth k

pub goes_on_asked : (p q s : Progress) (op : Op) (r : Reply) → HasAskedFor p op q → HasAnswered q r s → MayGoOn p s
goes_on_asked p q s op r asks answers =
    let replied = replied_to p q s op r asks answers in
    record {
      free = subst IsFree (sym replied.running) tt;
      less = subst (λ n. n < left_of p) (sym (same_left q s replied.same replied.used replied.depth)) asks.less;
      within = subst (λ (c : ContractCall). s.used ≤ c.fuel) (sym replied.same.call) (subst (λ n. n ≤ q.call.fuel) (sym replied.used) asks.within);
    }

pub goes_on_entered : (p q : Progress) → HasEntered p q → MayGoOn p q
goes_on_entered p q h = record { free = h.free; less = h.less; within = h.within }

pub goes_on_left : (p q : Progress) (keep : Bool) → HasLeft p keep q → MayGoOn p q
goes_on_left p q keep h = record { free = h.free; less = h.less; within = h.within }

-- ---- no more operations than units

pub asked_once_more : (p q s : Progress) (op : Op) (r : Reply) (before after : ℕ) → HasAskedFor p op q → HasAnswered q r s → before ≤ p.used → after ≡ before + 1 → after ≤ s.used
asked_once_more p q s op r before after asks answers few more =
    let replied = replied_to p q s op r asks answers in
    let used = asks.used in
    let same = replied.used in
    omega (arith, few, more, used, same)

-- a run that starts is not waiting for a reply
pub free_first : (x : Status) → GoesOn x → IsFree x
free_first status.Running h = tt
free_first (status.Fallen t) h = tt
free_first (status.Asking op) h = absurd h
free_first status.Closing h = absurd h
free_first (status.Ended o) h = absurd h
free_first status.NoMemory h = absurd h
