use Rattle.std.proofs.Common.{◌≡◌, ◌+◌, suc, refl, subst, arith, length}
use Rattle.std.proofs.lemmas.Option.{slice_get_read}
use Rattle.memory.specs.Runs.{IsNext}
use Rattle.memory.proofs.RunLists.{next_skipped, part_past, part_gap, part_run, run_within}
use Rattle.memory.proofs.start.part_at.Goals as goal

pub loop-index-preserved : goal.loop-index-preserved
loop-index-preserved g c =
    let runs = c.args.runs.now.items in
    let index = c.loop-index.index in
    let one : suc index ≡ index + 1 = omega arith in
    subst (λ n. IsNext runs n c.args.at) one
    (next_skipped runs index c.index-run.result.now c.args.at (slice_get_read runs (length runs) index c.index-run.result.now refl (omega (arith, c.args.runs.now.ok.0)) c.index-run.ensures) (omega (arith, c.past-end.ensures)) c.loop-index.invariant)

pub returns-then-at-first-clause-part : goal.returns-then-at-first-clause-part
returns-then-at-first-clause-part g c =
    let runs = c.args.runs.now.items in
    let index = c.loop-index.index in
    part_gap runs index c.index-run.result.now c.args.at c.min.result c.requires.rising c.loop-index.invariant
    (slice_get_read runs (length runs) index c.index-run.result.now refl (omega (arith, c.args.runs.now.ok.0)) c.index-run.ensures) (omega (arith, c.min.ensures))

pub returns-then-at-end-clause-part : goal.returns-then-at-end-clause-part
returns-then-at-end-clause-part g c =
    let runs = c.args.runs.now.items in
    let index = c.loop-index.index in
    part_run runs index c.index-run.result.now c.args.at c.min-then-at-end.result c.loop-index.invariant
    (slice_get_read runs (length runs) index c.index-run.result.now refl (omega (arith, c.args.runs.now.ok.0)) c.index-run.ensures) (omega arith) (omega (arith, c.min-then-at-end.ensures, c.past-end.ensures))

pub returns-then-at-end-clause-within : goal.returns-then-at-end-clause-within
returns-then-at-end-clause-within g c = λ n h.
    let runs = c.args.runs.now.items in
    let index = c.loop-index.index in
    let ends = run_within n runs index c.index-run.result.now h (slice_get_read runs (length runs) index c.index-run.result.now refl (omega (arith, c.args.runs.now.ok.0)) c.index-run.ensures) in
    omega (arith, c.min-then-at-end.ensures, c.past-end.ensures, ends)

pub returns-clause-part : goal.returns-clause-part
returns-clause-part g c =
    part_past c.args.runs.now.items c.loop-index.index c.args.at c.args.most c.loop-index.invariant (omega (arith, c.args.runs.now.ok.0, c.loop-index-test.false))
