use Rattle.std.proofs.Common.{◌∙◌, ap}
use Rattle.foshqarel_c.specs.Buffers.{laid}
use Rattle.foshqarel_c.proofs.buffers.give_items.Goals as goal

pub returns-clause-laid : goal.returns-clause-laid
returns-clause-laid g c = c.lay.ensures ∙ ap (λ xs. laid xs c.args.out.now) c.rest_of.ensures
