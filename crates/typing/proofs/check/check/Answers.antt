use Rattle.module_tree.specs.Modules.{module_view}
use Rattle.typing.proofs.Decides.{typed_of}
use Rattle.typing.proofs.Bodies.{denied}
use Rattle.typing.proofs.check.check.Goals as goal

pub of_typed-requires : goal.of_typed-requires
of_typed-requires g c = typed_of (module_view c.args.tree) c.in-Ok.ensures

pub returns-in-Ok-clause-typed : goal.returns-in-Ok-clause-typed
returns-in-Ok-clause-typed g c = rw c.of_typed.ensures (typed_of (module_view c.args.tree) c.in-Ok.ensures)

pub returns-in-Err-clause-untyped : goal.returns-in-Err-clause-untyped
returns-in-Err-clause-untyped g c = denied (Unit {0}) c.in-Err.refusal (module_view c.args.tree) c.in-Err.ensures
