-- Events of a book and lists of them, with the answers given. The ticket of an event is that of its call's live attempt.
use Rattle.std.specs.Prelude.{◌≡◌, ◌⊎◌, ℕ, ◌≤◌, Bool, List, [], ◌∷◌, length, slice_index, replicate}
use Rattle.spec_ledger.specs.declared.Op.{Op}
use Rattle.spec_ledger.specs.declared.TraceStep.{TraceStep}
use Rattle.spec_ledger.specs.declared.Outcome.{Outcome}
use Rattle.spec_ledger.specs.Cells.{Cells}
use Rattle.spec_ledger.specs.Book.{Content, call_is_new}
use Rattle.spec_ledger.specs.Events.{HasNoAttempt, BeginDone, OpDone, IsConflict, EnterDone, LeaveDone, IsNotEntered, UndoDone, CommitDone, IsOther}
use Rattle.boost.specs.declared.book.BeginRefusal.TheVariants.{NoSuchCall, Live, Committed as AlreadyCommitted}
use Rattle.boost.specs.declared.book.OpRefusal.TheVariants.{Conflict, Stale as StaleOp}
use Rattle.boost.specs.declared.book.EnterRefusal.TheVariants.{Stale as StaleEnter}
use Rattle.boost.specs.declared.book.LeaveRefusal.TheVariants.{Stale as StaleLeave, NotEntered}
use Rattle.boost.specs.declared.book.CommitRefusal.TheVariants.{Stale as StaleCommit, Differs}
use Rattle.boost.specs.declared.play.Answer.{Answer}
use Rattle.boost.specs.declared.play.Answer.TheVariants.{Begun, Replied, Entered, Left, Undone, Committed, BeginRefused, OpRefused, EnterRefused, LeaveRefused, CommitRefused}
use Rattle.boost.specs.declared.play.Event.{Event as TheEvent}
use Rattle.boost.specs.declared.play.Event.TheVariants.{Begin as TheBegin, Op as TheOp, Enter as TheEnter, Leave as TheLeave, Undo as TheUndo, Commit as TheCommit}

pub data Event : Type 0 where
  Begin : (call : ℕ) → Event
  Act : (call : ℕ) (op : Op) → Event
  Enter : (call : ℕ) → Event
  Leave : (call : ℕ) (keep : Bool) → Event
  Undo : (call : ℕ) → Event
  Commit : (call : ℕ) (trace : List TraceStep) (outcome : Outcome) → Event

-- From old, the event may get this answer and leave new.
abbrev pub Happens : Content → Event → Answer → Content → Type 0
Happens old (Begin call) Begun new = BeginDone old new call (slice_index old.begun call)
Happens old (Begin call) (BeginRefused NoSuchCall) new = (length old.begun ≤ call) × (new ≡ old)
Happens old (Begin call) (BeginRefused Live) new = ¬ (HasNoAttempt call old.attempts) × (new ≡ old)
Happens old (Begin call) (BeginRefused AlreadyCommitted) new = ¬ (call_is_new call old.entries) × (new ≡ old)
Happens old (Act call op) (Replied reply) new = (number : ℕ) × OpDone old new call number op reply
Happens old (Act call op) (OpRefused Conflict) new = ((number : ℕ) × IsConflict old call number op) × (new ≡ old)
Happens old (Act call op) (OpRefused StaleOp) new = HasNoAttempt call old.attempts × (new ≡ old)
Happens old (Enter call) Entered new = (number : ℕ) × EnterDone old new call number
Happens old (Enter call) (EnterRefused StaleEnter) new = HasNoAttempt call old.attempts × (new ≡ old)
Happens old (Leave call keep) Left new = (number : ℕ) × LeaveDone old new call number keep
Happens old (Leave call keep) (LeaveRefused StaleLeave) new = HasNoAttempt call old.attempts × (new ≡ old)
Happens old (Leave call keep) (LeaveRefused NotEntered) new = ((number : ℕ) × IsNotEntered old call number) × (new ≡ old)
Happens old (Undo call) Undone new = (HasNoAttempt call old.attempts × (new ≡ old)) ⊎ ((number : ℕ) × UndoDone old new call number)
Happens old (Commit call trace outcome) (Committed position) new = (number : ℕ) × CommitDone old new call number trace outcome position
Happens old (Commit call trace outcome) (CommitRefused StaleCommit) new = HasNoAttempt call old.attempts × (new ≡ old)
Happens old (Commit call trace outcome) (CommitRefused Differs) new = ((number : ℕ) × IsOther old call number trace) × (new ≡ old)
-- no other answer is given
Happens old event answer new = ⊥

-- the book may give these answers to these events, one after another
abbrev pub Plays : Content → List Event → List Answer → Content → Type 0
Plays old [] [] new = new ≡ old
Plays old (e ∷ events) (a ∷ answers) new = (mid : Content) × Happens old e a mid × Plays mid events answers new
Plays old [] (a ∷ answers) new = ⊥
Plays old (e ∷ events) [] new = ⊥

-- the events of a list of the program's
abbrev pub event_of : TheEvent → Event
event_of (TheBegin call) = Begin call
event_of (TheOp call op) = Act call op
event_of (TheEnter call) = Enter call
event_of (TheLeave call keep) = Leave call keep
event_of (TheUndo call) = Undo call
event_of (TheCommit call run) = Commit call run.trace.now run.outcome

-- the content of a book that was just opened
abbrev pub opened : Cells → ℕ → Content
opened cells calls = record { opening = cells; now = cells; entries = []; attempts = []; begun = replicate calls 0 }
