use Rattle.std.proofs.Common.{◌≡◌, ◌<◌, length, get_or, arith}
use Rattle.std.proofs.lemmas.List.{get_or_read}
use Rattle.std.proofs.lemmas.List.Elements.{Contains-get_or}
use Rattle.schedule.proofs.Counts.{room_left}
use Rattle.schedule.proofs.board.raise.Goals as goal

pub index_mut-requires : goal.index_mut-requires
index_mut-requires g c =
    let h = c.requires.within _ (Contains-get_or c.args.numbers.now c.loop-number.number-index 0 c.loop-number-test.true) in
    omega (arith, h, c.loop-number.invariant.0, c.loop-number.counts.ok.0)

pub overflow_add-index_mut : goal.overflow_add-index_mut
overflow_add-index_mut g c =
    let h = c.requires.within _ (Contains-get_or c.args.numbers.now c.loop-number.number-index 0 c.loop-number-test.true) in
    let one = room_left c.args.numbers.now c.loop-number.number-index _ _ c.loop-number-test.true (c.loop-number.invariant.1 _ h) (c.requires.room _ h) in
    let there : get_or c.args.numbers.now c.loop-number.number-index 0 < length c.loop-number.counts.items = omega (arith, h, c.loop-number.invariant.0) in
    let read : c.index_mut.result.now ≡ get_or c.loop-number.counts.items (get_or c.args.numbers.now c.loop-number.number-index 0) 0 = get_or_read _ _ _ there c.index_mut.ensures.value 0 in
    omega (arith, one, read)
