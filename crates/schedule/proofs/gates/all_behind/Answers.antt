use Rattle.std.proofs.Common.{◌≡◌, ◌+◌, ◌++◌, [], take, get_or, ap, sym, ◌∙◌, arith}
use Rattle.std.proofs.lemmas.List.{take_more, get_or_read}
use Rattle.std.proofs.lemmas.List.Elements.{Contains-get_or}
use Rattle.schedule.specs.Graph.{gathered, list_at}
use Rattle.schedule.proofs.Lists.{gathered_push}
use Rattle.schedule.proofs.gates.all_behind.Goals as goal

pub offset_bounds-behind-gate : goal.offset_bounds-behind-gate
offset_bounds-behind-gate g c = let h = c.requires _ (Contains-get_or c.args.gates.now c.loop-gate.gate-index 0 c.loop-gate-test.true) in omega (arith, h)

pub bounds-behind-gate : goal.bounds-behind-gate
bounds-behind-gate g c = c.requires _ (Contains-get_or c.args.gates.now c.loop-gate.gate-index 0 c.loop-gate-test.true)

pub loop-gate-preserved : goal.loop-gate-preserved
loop-gate-preserved g c =
    let i = c.loop-gate.gate-index in
    let gate = get_or c.args.gates.now i 0 in
    let lt = c.requires _ (Contains-get_or c.args.gates.now i 0 c.loop-gate-test.true) in
    let is : c.as_slice.result.now ≡ list_at c.args.behind.now gate = c.as_slice.ensures ∙ get_or_read c.args.behind.now gate _ lt c.index-behind-gate.is [] in
    let whole : gathered c.args.behind.now (take (i + 1) c.args.gates.now) ≡ gathered c.args.behind.now (take i c.args.gates.now) ++ list_at c.args.behind.now gate =
    ap (gathered c.args.behind.now) (take_more c.args.gates.now i 0 c.loop-gate-test.true) ∙ gathered_push c.args.behind.now (take i c.args.gates.now) gate in
    c.in_ok-extend_from_slice.ensures.items ∙ ((λ k. c.loop-gate.invariant k ++ is k) ∙ sym whole)
