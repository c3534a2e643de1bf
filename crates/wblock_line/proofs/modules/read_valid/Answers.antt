use Rattle.std.proofs.Common.{subst, sym}
use Rattle.spec_modules.specs.Spells.{Spells}
use Rattle.module_tree.specs.Modules.{module_view}
use Rattle.wblock_line.proofs.modules.read_valid.Goals as goal

pub returns-in-Ok-clause-valid : goal.returns-in-Ok-clause-valid
returns-in-Ok-clause-valid g c = record {
  spelled = subst (λ m. Spells c.args.bytes.now (module_view m)) (sym c.in-Ok.ensures.same) c.in_ok-module.ensures.spelled;
  typed = c.in-Ok.ensures.typed;
}

pub returns-clause-refused : goal.returns-clause-refused
returns-clause-refused g c = c.untyped.ensures c.args.bytes.now (module_view c.in_ok-module.module) c.in_ok-module.ensures.spelled c.in-Err.ensures.untyped
