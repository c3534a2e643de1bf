use Rattle.std.proofs.Common.{List, subst}
use Rattle.std.proofs.lemmas.List.{take_all}
use Rattle.interp.specs.declared.run.Level.{Level}
use Rattle.interp.specs.Run.{AreCopiesOf}
use Rattle.interp.proofs.Copying.{copied_more}
use Rattle.interp.proofs.readers.copy_levels.Goals as goal

pub loop-level-preserved : goal.loop-level-preserved
loop-level-preserved g c =
    copied_more c.args.outer.now c.loop-level.copies.items c.push.new.self.items c.level-item.result c.in_ok-copy_level.field-0 c.loop-level.level-index c.loop-level-test.true c.in_ok-push.ensures.items c.level-item.is c.in_ok-copy_level.ensures c.loop-level.invariant

pub returns : goal.returns
returns g c = subst (λ (ls : List (Level _)). AreCopiesOf ls c.loop-level.copies.items) (take_all c.loop-level.level-index c.args.outer.now c.loop-level-test.false) c.loop-level.invariant
