-- What callers are told of a machine.
use Rattle.std.proofs.Common.{[], ap, ◌∙◌, arith}
use Rattle.spec_execution.specs.Reduction.{reduce}
use Rattle.interp.specs.declared.turns.Status.{Status}
use Rattle.interp.specs.declared.turns.Status.TheVariants as status
use Rattle.laws_reduction.specs.Meaning.{state, invoking}
use Rattle.interp.specs.Progress.{IsProgress, IsProgressAt}
use Rattle.interp.specs.Machine.{Seen, on, progress, IsAt, IsMachine, going_on}
use Rattle.laws_reduction.specs.Tails.{joined, joined_next}
use Rattle.laws_reduction.specs.Joining.{reduce_joined}
use Rattle.interp.proofs.Asking.{asking_among}
use Rattle.interp.proofs.Turning.{innermost, pauses_live, pauses_fallen}

pub progress_of : (s : Seen) → IsMachine s → IsProgress (progress s)
progress_of s m = record { at = by s.status m.at }
  where
    by : (x : Status) → IsAt s x → IsProgressAt (progress (on s x)) x
    by status.Running live = record { opens = m.opens; within = live.within; is_as = (live.reached, pauses_live s m.safe live) }
    by (status.Fallen t) fallen = record { opens = m.opens; within = fallen.within; is_as = (fallen.reached, pauses_fallen s m.safe t fallen) }
    by (status.Asking op) waits = record {
      opens = m.opens;
      within = waits.within;
      is_as = (
        waits.reached,
        asking_among s.setting (innermost s) s.outer (state s.view) (joined (invoking s.view s.asked) s.tail) op (λ r. joined (going_on s.view op r) s.tail)
            (reduce_joined s.tail s.contract 0 (state s.view) [] (invoking s.view s.asked) ∙ ap (joined_next s.tail (λ ws. reduce s.contract 0 (state s.view) ws s.tail)) waits.asks),
      );
    }
    by status.Closing shut = record {
      opens = m.opens;
      within = (let full = shut.out in omega (arith, full));
      is_as = record { before = shut.before; last = shut.last; inside = shut.inside; reached = shut.reached; out = shut.out; charged = shut.charged; trace_is = shut.trace_is; left = shut.left };
    }
    by (status.Ended o) over = record { opens = m.opens; within = over.within; is_as = record { run = over.run; outermost = over.outermost } }
    by status.NoMemory none = tt
