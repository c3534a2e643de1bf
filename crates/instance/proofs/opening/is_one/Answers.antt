use Rattle.std.proofs.Common.{length, ◌∙◌}
use Rattle.std.proofs.lemmas.Bool.{ne_eqb}
use Rattle.instance.proofs.Asking.{not_one}
use Rattle.instance.proofs.opening.is_one.Goals as goal

pub returns-else-types-eq1 : goal.returns-else-types-eq1
returns-else-types-eq1 c = ne_eqb (length c.args.types.now) 1 c.if-types-eq1.false ∙ not_one c.args.types.now c.if-types-eq1.false
