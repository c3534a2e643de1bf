use Rattle.std.proofs.Common.{sym, ◌∙◌}
use Rattle.interp.proofs.Around.{levels_length}
use Rattle.interp.proofs.readers.level_of_run.Goals as goal

pub returns : goal.returns
returns g c = let r = c.args.run.now in c.len.ensures ∙ r.outer.ok.0 ∙ sym (levels_length r.call.now.args r.outer.items)
