use Rattle.std.proofs.Common.{rules, arith, All, refl, subst}
use Rattle.std.proofs.lemmas.List.{take_all}
use Rattle.spec_execution.specs.ReadWriteSets.{Agrees}
use Rattle.serial.proofs.Walking.{agree_more}
use Rattle.serial.proofs.read_write_set.are_valid_over.Goals as goal

pub loop-access-preserved : goal.loop-access-preserved
loop-access-preserved g c = agree_more c.args.cells.now.cells c.args.accesses.now c.loop-access.access-index _ c.loop-access-test.true c.loop-access.invariant (c.is_valid_over.ensures.0 (search rules))

pub returns : goal.returns
returns g c = (
  λ _. subst (All (Agrees c.args.cells.now.cells)) (take_all c.loop-access.access-index c.args.accesses.now (omega (arith, c.loop-access-test.false))) c.loop-access.invariant,
  λ _. refl,
)
