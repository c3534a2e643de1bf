use Rattle.std.proofs.Common.{◌≡◌, ◌<◌, length, get_or, max, arith, rules}
use Rattle.spec_modules.specs.Shape.{instrs_depth}
use Rattle.module_tree.specs.View.{instrs_view}
use Rattle.module_tree.specs.Modules.{module_view}
use Rattle.module_tree.proofs.ModuleWalks.{deepest_next, deepest_rest}
use Rattle.module_tree.proofs.Sizes.{module_depth}
use Rattle.module_tree.proofs.module.Module.depth.Goals as goal

pub depth_of-requires : goal.depth_of-requires
depth_of-requires g c =
    let funcs = c.args.self.now.funcs.items in
    let f = c.func-item.result in
    let i = c.loop-func.func-index in
    let lt : i < length funcs = omega arith in
    let is : f ≡ get_or funcs i f = search rules in
    omega (arith, deepest_rest funcs f i c.loop-func.depth lt is c.loop-func.invariant, module_depth (module_view c.args.self.now) c.args.self.now.fits)

pub loop-func-preserved : goal.loop-func-preserved
loop-func-preserved g c =
    let funcs = c.args.self.now.funcs.items in
    let f = c.func-item.result in
    let i = c.loop-func.func-index in
    let lt : i < length funcs = omega arith in
    let is : f ≡ get_or funcs i f = search rules in
    let deeper : c.max-depth.result ≡ max c.loop-func.depth (instrs_depth (instrs_view f.body.items)) = search rules in
    omega (arith, deepest_next funcs f i lt is, c.loop-func.invariant, deeper)
