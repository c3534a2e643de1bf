use Rattle.std.proofs.Common.{◌<◌, ◌^◌, subst, sym, ap, ◌∙◌, length}
use Rattle.std.proofs.lemmas.List.{length-replicate}
use Rattle.std.specs.FinMap.{empty}
use Rattle.abstract_locks.specs.HeldLocks.{AreShared}
use Rattle.abstract_locks.proofs.Rows.{nobody}
use Rattle.abstract_locks.proofs.Table.open.Goals as goal

pub invariant_of-result : goal.invariant_of-result
invariant_of-result g c = (
  subst (λ m. AreShared m c.new.result) (sym c.new-2.ensures) (nobody c.args.calls c.new.result c.new.ensures),
  subst (λ n. n < 2 ^ 32) (sym (ap length c.new.ensures ∙ length-replicate c.args.calls empty)) c.ranges.calls.fits,
)
