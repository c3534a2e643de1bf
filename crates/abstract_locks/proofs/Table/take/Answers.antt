use Rattle.std.proofs.Common.{◌≡◌, ◌+◌, ◌<◌, ◌^◌, ◌++◌, true, false, refl, sym, ◌∙◌, ap, subst, length, take, drop, get_or, arith}
use Rattle.std.proofs.lemmas.List.{length-set}
use Rattle.std.specs.FinMap.{empty}
use Rattle.abstract_locks.specs.Table.{AllShare}
use Rattle.abstract_locks.specs.HeldLocks.{MayJoin}
use Rattle.abstract_locks.proofs.Rows.{take_less, take_conflict, take_granted, take_fits, take_shared, restored, put_there, kept_shared}
use Rattle.abstract_locks.proofs.Table.take.Goals as goal

pub count_others-others-requires : goal.count_others-others-requires
count_others-others-requires g c =
    take_less c.self.inside.locks c.self.inside.holders c.args.call (subst (λ ms. c.args.call < length ms) (sym c.self.view_is) c.requires) c.self.invariant.0 c.args.lock c.args.mode c.join_to-joined.result c.mode-held.result c.mode-held.ensures c.at-shared.result c.at-shared.ensures c.join_to-joined.ensures

pub returns-then-not-may_join-clause-conflict : goal.returns-then-not-may_join-clause-conflict
returns-then-not-may_join-clause-conflict g c = (
  λ _.
      subst (λ ms. ¬ (AllShare (get_or ms c.args.call empty) c.args.lock c.args.mode (take c.args.call ms ++ drop (c.args.call + 1) ms))) c.self.view_is
      (take_conflict c.self.inside.locks c.self.inside.holders c.args.call (subst (λ ms. c.args.call < length ms) (sym c.self.view_is) c.requires) c.self.invariant.0 c.args.lock c.args.mode c.join_to-joined.result c.mode-held.result c.mode-held.ensures c.at-shared.result c.at-shared.ensures c.join_to-joined.ensures
      (λ m. let no : false ≡ true = c.if-not-may_join.ensures.1 (subst (λ n. MayJoin c.at-shared.result n c.join_to-joined.result) (sym c.count_others-others.ensures) m) in cc)),
  λ _. refl,
)

pub returns-in_default-clause-conflict : goal.returns-in_default-clause-conflict
returns-in_default-clause-conflict g c = (
  λ e. cc,
  λ h. absurd
      (h
      (subst (λ ms. AllShare (get_or ms c.args.call empty) c.args.lock c.args.mode (take c.args.call ms ++ drop (c.args.call + 1) ms)) c.self.view_is
      (take_granted c.self.inside.locks c.self.inside.holders c.args.call (subst (λ ms. c.args.call < length ms) (sym c.self.view_is) c.requires) c.self.invariant.0 c.args.lock c.args.mode c.join_to-joined.result c.mode-held.result c.mode-held.ensures c.at-shared.result c.at-shared.ensures c.join_to-joined.ensures (subst (λ n. MayJoin c.at-shared.result n c.join_to-joined.result) c.count_others-others.ensures (c.if-not-may_join.ensures.0 refl))))),
)

pub returns-in_default-hold-clause-conflict : goal.returns-in_default-hold-clause-conflict
returns-in_default-hold-clause-conflict g c = (
  λ e. cc,
  λ h. absurd
      (h
      (subst (λ ms. AllShare (get_or ms c.args.call empty) c.args.lock c.args.mode (take c.args.call ms ++ drop (c.args.call + 1) ms)) c.self.view_is
      (take_granted c.self.inside.locks c.self.inside.holders c.args.call (subst (λ ms. c.args.call < length ms) (sym c.self.view_is) c.requires) c.self.invariant.0 c.args.lock c.args.mode c.join_to-joined.result c.mode-held.result c.mode-held.ensures c.at-shared.result c.at-shared.ensures c.join_to-joined.ensures (subst (λ n. MayJoin c.at-shared.result n c.join_to-joined.result) c.count_others-others.ensures (c.if-not-may_join.ensures.0 refl))))),
)

pub returns-clause-conflict : goal.returns-clause-conflict
returns-clause-conflict g c = (
  λ e. cc,
  λ h. absurd
      (h
      (subst (λ ms. AllShare (get_or ms c.args.call empty) c.args.lock c.args.mode (take c.args.call ms ++ drop (c.args.call + 1) ms)) c.self.view_is
      (take_granted c.self.inside.locks c.self.inside.holders c.args.call (subst (λ ms. c.args.call < length ms) (sym c.self.view_is) c.requires) c.self.invariant.0 c.args.lock c.args.mode c.join_to-joined.result c.mode-held.result c.mode-held.ensures c.at-shared.result c.at-shared.ensures c.join_to-joined.ensures (subst (λ n. MayJoin c.at-shared.result n c.join_to-joined.result) c.count_others-others.ensures (c.if-not-may_join.ensures.0 refl))))),
)

pub overflow_add-next : goal.overflow_add-next
overflow_add-next g c =
    let f = take_fits c.self.inside.locks c.self.inside.holders c.args.call (subst (λ ms. c.args.call < length ms) (sym c.self.view_is) c.requires) c.self.invariant.0 c.args.lock c.args.mode c.join_to-joined.result c.mode-held.result c.mode-held.ensures c.at-shared.result c.at-shared.ensures c.join_to-joined.ensures c.self.invariant.1 in
    omega (arith, f, c.count_others-others.ensures)

pub returns-clause-granted : goal.returns-clause-granted
returns-clause-granted g c =
    subst (λ ms. AllShare (get_or ms c.args.call empty) c.args.lock c.args.mode (take c.args.call ms ++ drop (c.args.call + 1) ms)) c.self.view_is
    (take_granted c.self.inside.locks c.self.inside.holders c.args.call (subst (λ ms. c.args.call < length ms) (sym c.self.view_is) c.requires) c.self.invariant.0 c.args.lock c.args.mode c.join_to-joined.result c.mode-held.result c.mode-held.ensures c.at-shared.result c.at-shared.ensures c.join_to-joined.ensures (subst (λ n. MayJoin c.at-shared.result n c.join_to-joined.result) c.count_others-others.ensures (c.if-not-may_join.ensures.0 refl)))

pub invariant_of-self-in-Ok-hold : goal.invariant_of-self-in-Ok-hold
invariant_of-self-in-Ok-hold g c = (
  take_shared c.self.inside.locks c.self.inside.holders c.args.call (subst (λ ms. c.args.call < length ms) (sym c.self.view_is) c.requires) c.self.invariant.0 c.args.lock c.args.mode c.join_to-joined.result c.mode-held.result c.mode-held.ensures c.at-shared.result c.at-shared.ensures c.join_to-joined.ensures (subst (λ n. MayJoin c.at-shared.result n c.join_to-joined.result) c.count_others-others.ensures (c.if-not-may_join.ensures.0 refl)) (record { mode = c.join_to-joined.result; count = c.count_others-others.result + 1 }) (λ i. record { mode = c.join_to-joined.result; count = c.count_others-others.ensures i + 1 })
      c.put.new.self c.in-Ok.ensures.ok c.hold.new.self c.in-Ok-hold.ensures.ok,
  subst (λ n. n < 2 ^ 32) (sym (ap length c.in-Ok-hold.ensures.ok ∙ length-set c.self.inside.holders c.args.call _)) c.self.invariant.1,
)

pub put_back-requires : goal.put_back-requires
put_back-requires g c = put_there c.self.inside.locks c.put.new.self c.args.lock (record { mode = c.join_to-joined.result; count = c.count_others-others.result + 1 }) c.in-Ok.ensures.ok

pub invariant_of-self-in_default-hold : goal.invariant_of-self-in_default-hold
invariant_of-self-in_default-hold g c = (
  kept_shared c.self.inside.locks c.put_back.new.self c.self.inside.holders c.hold.new.self c.self.invariant.0
      (restored c.self.inside.locks c.put.new.self c.put_back.new.self c.args.lock (record { mode = c.join_to-joined.result; count = c.count_others-others.result + 1 }) c.at-shared.result c.in-Ok.ensures.ok c.at-shared.ensures c.put_back.ensures)
      c.in_default-hold.ensures.err,
  subst (λ n. n < 2 ^ 32) (sym (ap length c.in_default-hold.ensures.err)) c.self.invariant.1,
)
