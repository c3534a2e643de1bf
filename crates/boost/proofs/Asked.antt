-- The mode in which a trace holds a lock, one step more.
use Rattle.std.proofs.Common.{◌≡◌, ℕ, ◌+◌, ◌<◌, Option, List, [], ◌∷◌, ◌++◌, append-nil, length, take, get_or, sym, ◌∙◌, ap}
use Rattle.std.proofs.lemmas.List.{take_more}
use Rattle.spec_ledger.specs.declared.Lock.{Lock}
use Rattle.spec_ledger.specs.declared.Mode.{Mode}
use Rattle.spec_ledger.specs.declared.TraceStep.{TraceStep}
use Rattle.spec_ledger.specs.declared.TraceStep.TheVariants.{Did, Opened, Kept, Dropped}
use Rattle.spec_ledger.specs.Modes.{mode_at, ops_of}
use Rattle.spec_ledger.proofs.Traces.{ops_of-append, mode_at-push}
use Rattle.boost.specs.LockRequests.{asked_by}

asked_push : (lock : Lock) (t : List TraceStep) (s : TraceStep) → asked_by lock s (mode_at lock (ops_of t)) ≡ mode_at lock (ops_of (t ++ s ∷ []))
asked_push lock t (Did op r) = sym (ap (mode_at lock) (ops_of-append t (Did op r ∷ [])) ∙ mode_at-push (ops_of t) op lock)
asked_push lock t Opened = ap (mode_at lock) (sym (ops_of-append t (Opened ∷ []) ∙ append-nil (ops_of t)))
asked_push lock t Kept = ap (mode_at lock) (sym (ops_of-append t (Kept ∷ []) ∙ append-nil (ops_of t)))
asked_push lock t Dropped = ap (mode_at lock) (sym (ops_of-append t (Dropped ∷ []) ∙ append-nil (ops_of t)))

pub asked_more : (t : List TraceStep) (i : ℕ) (d : TraceStep) (lock : Lock) (held next : Option Mode) → i < length t → held ≡ mode_at lock (ops_of (take i t))
    → next ≡ asked_by lock (get_or t i d) held → next ≡ mode_at lock (ops_of (take (i + 1) t))
asked_more t i d lock held next below e f =
    f ∙ ap (asked_by lock (get_or t i d)) e ∙ asked_push lock (take i t) (get_or t i d) ∙ sym (ap (λ u. mode_at lock (ops_of u)) (take_more t i d below))
