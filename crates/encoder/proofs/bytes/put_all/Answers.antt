use Rattle.std.proofs.Common.{◌≡◌, ◌<◌, length, get_or, arith, rules}
use Rattle.encoder.proofs.Runs.{run_more, front_on}
use Rattle.encoder.proofs.bytes.put_all.Goals as goal

pub loop-item-preserved : goal.loop-item-preserved
loop-item-preserved g c =
    let items = c.args.items.now.items in
    let x = c.item-item.result in
    let i = c.loop-item.item-index in
    let lt : i < length items = omega arith in
    let at : x ≡ get_or items i x = search rules in
    run_more g.T.Spelled.spelling items x i lt at _ _ _ c.loop-item.invariant (search rules)

pub returns-in_err-put-clause-front : goal.returns-in_err-put-clause-front
returns-in_err-put-clause-front g c = front_on _ _ _ _ c.loop-item.invariant c.put.ensures.front
