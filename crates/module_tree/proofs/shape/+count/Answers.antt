use Rattle.std.proofs.Common.{◌≡◌, ◌<◌, length, get_or, arith, rules}
use Rattle.module_tree.proofs.Walks.{count_next}
use Rattle.module_tree.proofs.shape.+count.Goals as goal

pub count_of-loop-i-preserved : goal.count_of-loop-i-preserved
count_of-loop-i-preserved g t c =
    let body = c.args.body.now.items in
    let x = c.i-item.result in
    let i = c.loop-i.i-index in
    let lt : i < length body = omega arith in
    let is : x ≡ get_or body i x = search rules in
    omega (arith, count_next body x i lt is)

pub count_of-overflow_add-count : goal.count_of-overflow_add-count
count_of-overflow_add-count g t c =
    let body = c.args.body.now.items in
    let x = c.i-item.result in
    let i = c.loop-i.i-index in
    let lt : i < length body = omega arith in
    let is : x ≡ get_or body i x = search rules in
    omega (arith, count_next body x i lt is)
