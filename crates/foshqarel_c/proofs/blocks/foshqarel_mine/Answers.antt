use Rattle.std.proofs.Common.{List, ℕ, inl, inr, refl, subst, sym}
use Rattle.embed.specs.Given.{Mines}
use Rattle.foshqarel_c.proofs.Failing.{fails}
use Rattle.foshqarel_c.proofs.blocks.foshqarel_mine.Goals as goal

pub returns-in-Ok : goal.returns-in-Ok
returns-in-Ok c = inl (record {
  first = c.deref.result.now;
  second = c.deref-in-Ok.result.now;
  are =
      subst (λ (block : List ℕ). Mines c.args.world.now c.args.calls.now c.args.fuel block c.deref-in-Ok.result.now) (sym c.deref.ensures.value)
      (subst (λ (next : List ℕ). Mines c.args.world.now c.args.calls.now c.args.fuel c.in-Ok.made.block.items next) (sym c.deref-in-Ok.ensures.value) c.in-Ok.ensures.mined);
  put = c.give_both.ensures.put;
  told_is = c.give_both.ensures.told;
})

pub returns-in-Err : goal.returns-in-Err
returns-in-Err c = inr (refl, fails c.in-Err.failure _ _ _ _ _ c.in-Err.ensures.refused c.fail.ensures)
