use Rattle.std.proofs.Common.{sym}
use Rattle.std.proofs.lemmas.Option.{IfSome_then}
use Rattle.module_tree.specs.View.{instr_view}
use Rattle.typing_errors.proofs.sites.spelled_at.Goals as goal

pub returns : goal.returns
returns g c = IfSome_then c.name_of.result c.name_of.ensures (λ name h. (instr_view c.in_ok-instr.instr.now, sym c.in_ok-instr.ensures.view, h))
