use Rattle.std.proofs.Common.{◌∙◌, sym, arith}
use Rattle.foshqarel_c.proofs.Laying.{all_fit, as_many}
use Rattle.foshqarel_c.proofs.buffers.lay.Goals as goal

pub returns-then-items-count : goal.returns-then-items-count
returns-then-items-count g c =
    let items = c.args.items.now in
    let old = c.args.out.now in
    c.copy_from_slice.ensures.after ∙ sym (as_many items old (omega (arith, c.if-items-count.true)))

pub returns : goal.returns
returns g c = c.put_front.ensures ∙ sym (all_fit c.args.items.now c.args.out.now (omega (arith, c.if-items-count.false)))
