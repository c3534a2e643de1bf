use Rattle.std.proofs.Common.{◌≡◌, ◌+◌, ◌<◌, false, cond, [], length, take, get_or, ap, ◌∙◌, arith}
use Rattle.std.proofs.lemmas.List.{get_or_read}
use Rattle.schedule.specs.Graph.{list_at}
use Rattle.schedule.specs.Board.{count_of, zeros}
use Rattle.schedule.proofs.Lists.{among_these}
use Rattle.schedule.proofs.Counts.{count_in_so_far, count_in-le, is_zero, not_zero, pending_more, pending-le, zeros_length}
use Rattle.schedule.proofs.board.shut_of.Goals as goal
use Rattle.schedule.proofs.board.shut_of.Goals.{then-left-gate-ne0, else-left-gate-ne0}

pub raise-requires-clause-within : goal.raise-requires-clause-within
raise-requires-clause-within g c = λ j k.
    let is : c.as_slice.result.now ≡ list_at c.args.behind.now c.loop-gate.gate = c.as_slice.ensures ∙ get_or_read c.args.behind.now c.loop-gate.gate _ c.loop-gate-test.true c.index-behind-gate.is [] in
    let lt = c.requires.within c.loop-gate.gate j (among_these c.as_slice.result.now _ j is k) in
    let size = c.loop-gate.invariant.0 in
    omega (arith, lt, size)

pub raise-requires-clause-room : goal.raise-requires-clause-room
raise-requires-clause-room g c = λ j lt.
    let is : c.as_slice.result.now ≡ list_at c.args.behind.now c.loop-gate.gate = c.as_slice.ensures ∙ get_or_read c.args.behind.now c.loop-gate.gate _ c.loop-gate-test.true c.index-behind-gate.is [] in
    let counts : count_of j c.as_slice.result.now ≡ count_of j (list_at c.args.behind.now c.loop-gate.gate) = ap (count_of j) is in
    let each = c.requires.each in
    let within : c.loop-gate.gate < length c.args.left.now = omega (arith, c.loop-gate-test.true, each) in
    let shut : get_or (zeros c.args.left.now) c.loop-gate.gate false ≡ false = not_zero c.args.left.now c.loop-gate.gate within c.if-left-gate-ne0.true in
    let now : cond (get_or (zeros c.args.left.now) c.loop-gate.gate false) 0 (count_of j (list_at c.args.behind.now c.loop-gate.gate)) ≡ count_of j (list_at c.args.behind.now c.loop-gate.gate) =
    ap (λ b. cond b 0 (count_of j (list_at c.args.behind.now c.loop-gate.gate))) shut in
    let size = c.loop-gate.invariant.0 in
    let old = c.loop-gate.invariant.1 j (omega (arith, lt, size)) in
    let more = pending_more c.args.behind.now (zeros c.args.left.now) c.loop-gate.gate j c.loop-gate-test.true (zeros_length c.args.left.now ∙ each) in
    let some = pending-le (take (c.loop-gate.gate + 1) c.args.behind.now) (zeros c.args.left.now) j in
    let all = count_in_so_far c.args.behind.now (c.loop-gate.gate + 1) j in
    let few = count_in-le c.args.behind.now j c.requires.rising in
    omega (arith, counts, now, old, more, some, all, few, c.requires.few)

pub loop-gate-preserved : goal.loop-gate-preserved
loop-gate-preserved g c =
    let is : c.index-behind-gate.result ≡ list_at c.args.behind.now c.loop-gate.gate = get_or_read c.args.behind.now c.loop-gate.gate _ c.loop-gate-test.true c.index-behind-gate.is [] in
    let each = c.requires.each in
    let within : c.loop-gate.gate < length c.args.left.now = omega (arith, c.loop-gate-test.true, each) in
    let size = c.loop-gate.invariant.0 in
    elim c.if-left-gate-ne0.branch [
      | then-left-gate-ne0 w ↦ (
        ap (λ v. length v.items) w.shut-is ∙ (w.raise.ensures.same ∙ size),
        λ j lt.
            let counts : count_of j w.as_slice.result.now ≡ count_of j (list_at c.args.behind.now c.loop-gate.gate) = ap (count_of j) (w.as_slice.ensures ∙ is) in
            let shut = not_zero c.args.left.now c.loop-gate.gate within w.if-left-gate-ne0.true in
            let now : cond (get_or (zeros c.args.left.now) c.loop-gate.gate false) 0 (count_of j (list_at c.args.behind.now c.loop-gate.gate)) ≡ count_of j (list_at c.args.behind.now c.loop-gate.gate) =
            ap (λ b. cond b 0 (count_of j (list_at c.args.behind.now c.loop-gate.gate))) shut in
            let old = c.loop-gate.invariant.1 j lt in
            let raised = w.raise.ensures.raised j (omega (arith, lt, size)) in
            let moved = ap (λ v. get_or v.items j 0) w.shut-is in
            let more = pending_more c.args.behind.now (zeros c.args.left.now) c.loop-gate.gate j c.loop-gate-test.true (zeros_length c.args.left.now ∙ each) in
            omega (arith, counts, now, old, raised, moved, more),
      )
      | else-left-gate-ne0 w ↦ (
        ap (λ v. length v.items) w.shut-is ∙ size,
        λ j lt.
            let open_gate = is_zero c.args.left.now c.loop-gate.gate within w.if-left-gate-ne0.false in
            let now : cond (get_or (zeros c.args.left.now) c.loop-gate.gate false) 0 (count_of j (list_at c.args.behind.now c.loop-gate.gate)) ≡ 0 =
            ap (λ b. cond b 0 (count_of j (list_at c.args.behind.now c.loop-gate.gate))) open_gate in
            let old = c.loop-gate.invariant.1 j lt in
            let moved = ap (λ v. get_or v.items j 0) w.shut-is in
            let more = pending_more c.args.behind.now (zeros c.args.left.now) c.loop-gate.gate j c.loop-gate-test.true (zeros_length c.args.left.now ∙ each) in
            omega (arith, now, old, moved, more),
      )
    ]
