use Rattle.std.proofs.Common.{◌∙◌, None, Some}
use Rattle.storage.specs.Slots.{base_of}
use Rattle.storage.proofs.Slots.{cell_found}
use Rattle.storage.proofs.cell_at.Goals as goal

pub returns-in-None : goal.returns-in-None
returns-in-None g c = c.find.ensures ∙ cell_found c.args.slots.now c.args.lock None c.in-None.ensures.value (base_of c.args.base.now)

pub returns-in-Some : goal.returns-in-Some
returns-in-Some g c = cell_found c.args.slots.now c.args.lock (Some c.in-Some.slot.now) c.in-Some.ensures.value (base_of c.args.base.now)
