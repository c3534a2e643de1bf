use Rattle.std.proofs.Common.{◌∙◌, length, ap, arith}
use Rattle.std.proofs.lemmas.Result.{IfOk-weaker}
use Rattle.module_tree.specs.Modules.{module_view}
use Rattle.link.proofs.Elements.{table_few}
use Rattle.link.proofs.tables.first_table.Goals as goal

pub of_elements-requires : goal.of_elements-requires
of_elements-requires g c =
    omega (arith, table_few (module_view c.args.tree.now) c.args.hosts.now c.requires, ap length c.in_ok-whole.ensures, ap length c.deref.ensures.value)

pub returns : goal.returns
returns g c =
    IfOk-weaker c.of_elements.result _ _ (λ t h. h ∙ c.deref.ensures.value ∙ c.in_ok-whole.ensures) c.of_elements.ensures
