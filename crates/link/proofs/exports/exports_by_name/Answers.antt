use Rattle.std.proofs.Common.{◌≡◌, ◌<◌, ◌-◌, suc, length, map, drop, sym, subst, arith}
use Rattle.module_tree.specs.ModuleView.{export_view}
use Rattle.link.specs.Exports.{AreExports}
use Rattle.link.proofs.ByName.{named_more}
use Rattle.link.proofs.exports.exports_by_name.Goals as goal

pub loop-left-preserved : goal.loop-left-preserved
loop-left-preserved g c =
    let es = c.args.exports.now.items in
    let k = c.loop-left.left - 1 in
    let one : suc k ≡ c.loop-left.left = omega (arith, c.loop-left-test.true) in
    let lt : k < length es = omega (arith, c.loop-left.invariant.0, c.loop-left-test.true) in
    let before = subst (λ n. AreExports c.loop-left.named (map export_view (drop n es))) (sym one) c.loop-left.invariant.1 in
    (omega (arith, lt), named_more c.loop-left.named c.put_export.new.named es k c.index.result.now lt c.index.ensures c.in_ok-put_export.ensures before)
