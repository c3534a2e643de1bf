use Rattle.std.proofs.Common.{◌+◌, ◌<◌, ◌++◌, sym, subst, length, take, drop, get_or}
use Rattle.std.specs.FinMap.{empty}
use Rattle.abstract_locks.specs.Table.{AllShare}
use Rattle.abstract_locks.specs.HeldLocks.{MayJoin}
use Rattle.abstract_locks.proofs.Rows.{take_less, take_granted, take_asked}
use Rattle.abstract_locks.proofs.Table.may_take.Goals as goal

pub count_others-others-requires : goal.count_others-others-requires
count_others-others-requires g c =
    take_less c.self.inside.locks c.self.inside.holders c.args.call (subst (λ ms. c.args.call < length ms) (sym c.self.view_is) c.requires) c.self.invariant.0 c.args.lock c.args.mode c.join_to-joined.result c.mode-held.result c.mode-held.ensures c.at-shared.result c.at-shared.ensures c.join_to-joined.ensures

pub returns : goal.returns
returns g c = (
  λ t.
      subst (λ ms. AllShare (get_or ms c.args.call empty) c.args.lock c.args.mode (take c.args.call ms ++ drop (c.args.call + 1) ms)) c.self.view_is
      (take_granted c.self.inside.locks c.self.inside.holders c.args.call (subst (λ ms. c.args.call < length ms) (sym c.self.view_is) c.requires) c.self.invariant.0 c.args.lock c.args.mode c.join_to-joined.result c.mode-held.result c.mode-held.ensures c.at-shared.result c.at-shared.ensures c.join_to-joined.ensures
      (subst (λ n. MayJoin c.at-shared.result n c.join_to-joined.result) c.count_others-others.ensures (c.may_join.ensures.0 t))),
  λ h.
      c.may_join.ensures.1
      (subst (λ n. MayJoin c.at-shared.result n c.join_to-joined.result) (sym c.count_others-others.ensures)
      (take_asked c.self.inside.locks c.self.inside.holders c.args.call (subst (λ ms. c.args.call < length ms) (sym c.self.view_is) c.requires) c.self.invariant.0 c.args.lock c.args.mode c.join_to-joined.result c.mode-held.result c.mode-held.ensures c.at-shared.result c.at-shared.ensures c.join_to-joined.ensures
      (subst (λ ms. AllShare (get_or ms c.args.call empty) c.args.lock c.args.mode (take c.args.call ms ++ drop (c.args.call + 1) ms)) (sym c.self.view_is) h))),
)
