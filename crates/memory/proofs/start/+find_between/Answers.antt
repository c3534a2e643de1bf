use Rattle.std.proofs.Common.{◌≡◌, ◌+◌, ◌-◌, ◌/◌, suc, refl, subst, arith, length}
use Rattle.std.proofs.lemmas.Option.{slice_get_read}
use Rattle.memory.specs.Runs.{IsNext}
use Rattle.memory.proofs.RunLists.{next_behind}
use Rattle.memory.proofs.start.+find_between.Goals as goal

pub find_between-requires : goal.find_between-requires
find_between-requires g t c = λ ls longer.
    let runs = c.args.runs.now.items in
    let middle = c.args.low + (c.args.high - c.args.low) / 2 in
    let one : suc middle ≡ middle + 1 = omega arith in
    let next = subst (λ n. IsNext runs n c.args.at) one
    (next_behind 0 runs middle c.index-run.result.now c.args.at c.requires.rising (slice_get_read runs (length runs) middle c.index-run.result.now refl (omega (arith, c.args.runs.now.ok.0)) c.index-run.ensures) (omega (arith, c.past-end.ensures))) in
    (omega arith, (longer, (c.requires.rising, (omega arith, (c.requires.there, next)))))
