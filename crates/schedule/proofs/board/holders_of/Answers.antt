use Rattle.std.proofs.Common.{◌≡◌, ◌+◌, [], ap, ◌∙◌, arith}
use Rattle.std.proofs.lemmas.List.{get_or_read}
use Rattle.schedule.specs.Graph.{list_at}
use Rattle.schedule.specs.Board.{count_of}
use Rattle.schedule.proofs.Lists.{among_these}
use Rattle.schedule.proofs.Counts.{count_in_more, count_in_so_far, count_in-le}
use Rattle.schedule.proofs.board.holders_of.Goals as goal

pub raise-requires-clause-within : goal.raise-requires-clause-within
raise-requires-clause-within g c = λ j k.
    let is : c.as_slice.result.now ≡ list_at c.args.holds.now c.loop-numbers.numbers-index = c.as_slice.ensures ∙ get_or_read c.args.holds.now c.loop-numbers.numbers-index _ c.loop-numbers-test.true c.numbers-item.is [] in
    let lt = c.requires.within c.loop-numbers.numbers-index j (among_these c.as_slice.result.now _ j is k) in
    let size = c.loop-numbers.invariant.0 in
    omega (arith, lt, size)

pub raise-requires-clause-room : goal.raise-requires-clause-room
raise-requires-clause-room g c = λ j lt.
    let is : c.as_slice.result.now ≡ list_at c.args.holds.now c.loop-numbers.numbers-index = c.as_slice.ensures ∙ get_or_read c.args.holds.now c.loop-numbers.numbers-index _ c.loop-numbers-test.true c.numbers-item.is [] in
    let counts : count_of j c.as_slice.result.now ≡ count_of j (list_at c.args.holds.now c.loop-numbers.numbers-index) = ap (count_of j) is in
    let size = c.loop-numbers.invariant.0 in
    let old = c.loop-numbers.invariant.1 j (omega (arith, lt, size)) in
    let more = count_in_more c.args.holds.now c.loop-numbers.numbers-index j c.loop-numbers-test.true in
    let all = count_in_so_far c.args.holds.now (c.loop-numbers.numbers-index + 1) j in
    let few = count_in-le c.args.holds.now j c.requires.rising in
    omega (arith, counts, old, more, all, few, c.requires.few)

pub loop-numbers-preserved : goal.loop-numbers-preserved
loop-numbers-preserved g c =
    let is : c.as_slice.result.now ≡ list_at c.args.holds.now c.loop-numbers.numbers-index = c.as_slice.ensures ∙ get_or_read c.args.holds.now c.loop-numbers.numbers-index _ c.loop-numbers-test.true c.numbers-item.is [] in
    let size = c.loop-numbers.invariant.0 in (
      c.raise.ensures.same ∙ size,
      λ j lt.
          let counts : count_of j c.as_slice.result.now ≡ count_of j (list_at c.args.holds.now c.loop-numbers.numbers-index) = ap (count_of j) is in
          let old = c.loop-numbers.invariant.1 j lt in
          let raised = c.raise.ensures.raised j (omega (arith, lt, size)) in
          let more = count_in_more c.args.holds.now c.loop-numbers.numbers-index j c.loop-numbers-test.true in
          omega (arith, counts, old, raised, more),
    )
