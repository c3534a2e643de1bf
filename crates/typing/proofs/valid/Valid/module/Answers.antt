use Rattle.module_tree.specs.Modules.{module_view}
use Rattle.typing.proofs.Kept.{typed_kept}
use Rattle.typing.proofs.valid.Valid.module.Goals as goal

pub returns-clause-typed : goal.returns-clause-typed
returns-clause-typed g c = typed_kept (module_view c.args.self.now.tree) c.args.self.now.typed
