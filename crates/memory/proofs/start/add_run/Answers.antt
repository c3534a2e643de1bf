use Rattle.std.proofs.Common.{◌≡◌, ◌+◌, ◌-◌, refl, arith, length}
use Rattle.std.proofs.lemmas.Option.{slice_get_read}
use Rattle.memory.specs.Runs.{run_of, end_of}
use Rattle.memory.proofs.RunLists.{pushed_rises, pushed_places, pushed_within, longer_rises, longer_places_at, longer_within}
use Rattle.memory.proofs.start.add_run.Goals as goal

pub returns-then-last-from-clause-rising : goal.returns-then-last-from-clause-rising
returns-then-last-from-clause-rising g c =
    let runs = c.args.runs.now.items in
    let last = c.index-last.result.now in
    let i = c.len-count.result - 1 in
    longer_rises 0 runs i last c.args.len c.requires.rising (slice_get_read runs (length runs) i last refl (omega (arith, c.args.runs.now.ok.0)) c.index-last.ensures) (omega (arith, c.args.runs.now.ok.0)) (omega (arith, c.past.ensures))

pub returns-then-last-from-clause-within : goal.returns-then-last-from-clause-within
returns-then-last-from-clause-within g c = λ n h fits.
    let runs = c.args.runs.now.items in
    let last = c.index-last.result.now in
    let i = c.len-count.result - 1 in
    longer_within n runs i last c.args.len h (slice_get_read runs (length runs) i last refl (omega (arith, c.args.runs.now.ok.0)) c.index-last.ensures) (omega (arith, fits))

pub returns-then-last-from-clause-places : goal.returns-then-last-from-clause-places
returns-then-last-from-clause-places g c = λ k.
    let runs = c.args.runs.now.items in
    let last = c.index-last.result.now in
    let i = c.len-count.result - 1 in
    let at : end_of last ≡ c.args.at = omega (arith, c.past.ensures) in
    let from : last.from + last.len ≡ c.args.from = omega arith in
    longer_places_at 0 runs i last c.args.len c.args.at c.args.from at from c.requires.rising (slice_get_read runs (length runs) i last refl (omega (arith, c.args.runs.now.ok.0)) c.index-last.ensures) (omega (arith, c.args.runs.now.ok.0)) k

pub returns-clause-rising : goal.returns-clause-rising
returns-clause-rising g c =
    rw c.in_ok-push.ensures.items (pushed_rises 0 c.args.runs.now.items (run_of c.args.at c.args.len c.args.from) c.requires.rising c.requires.free (omega arith) (omega arith) (omega arith))

pub returns-clause-within : goal.returns-clause-within
returns-clause-within g c = λ n h fits.
    rw c.in_ok-push.ensures.items (pushed_within n c.args.runs.now.items (run_of c.args.at c.args.len c.args.from) h fits)

pub returns-clause-places : goal.returns-clause-places
returns-clause-places g c = λ k.
    rw c.in_ok-push.ensures.items (pushed_places c.args.runs.now.items (run_of c.args.at c.args.len c.args.from) c.requires.free k)
