use Rattle.std.proofs.Common.{◌≡◌, ◌+◌, ◌∙◌, ap, map, length, slice_set, slice_index_or, Some, arith, take}
use Rattle.std.proofs.Math.Seq.{take-length}
use Rattle.spec_modules.specs.Memory.{written}
use Rattle.link.proofs.Elements.{put_function}
use Rattle.link.proofs.tables.put_functions.Goals as goal

pub loop-i-preserved : goal.loop-i-preserved
loop-i-preserved g c =
    let funcs = c.args.funcs.now in
    ap (λ t. slice_set t (c.args.at + c.loop-i.i) (Some (slice_index_or funcs c.loop-i.i 0))) c.loop-i.invariant
    ∙ put_function c.args.table.now.items funcs c.args.at c.loop-i.i c.requires c.loop-i-test.true

pub returns : goal.returns
returns g c =
    let whole : c.loop-i.i ≡ length c.args.funcs.now = omega arith in
    c.loop-i.invariant ∙ ap (λ fs. written c.args.at (map Some fs) c.args.table.now.items) (ap (λ n. take n c.args.funcs.now) whole ∙ take-length c.args.funcs.now)
