use Rattle.std.proofs.Common.{List, subst}
use Rattle.std.proofs.lemmas.Result.{IfOk-weaker}
use Rattle.figures.specs.declared.hottest.SharedLock.{SharedLock}
use Rattle.spec_block.specs.Worlds.{profiles_in}
use Rattle.figures.specs.Counting.{AreFirst}
use Rattle.figures.proofs.Hot.{hottest_is}
use Rattle.figures.proofs.hottest.hottest_of.Goals as goal

pub returns : goal.returns
returns c =
    IfOk-weaker c.first_ten.result _ _ (λ list first. hottest_is (profiles_in c.args.positions.now) c.in_ok-shared.shared.items list.items c.in_ok-shared.ensures (subst (λ (xs : List SharedLock). AreFirst xs list.items) c.deref.ensures.value first)) c.first_ten.ensures
