use Rattle.std.proofs.Common.{◌+◌, ◌<◌, ◌^◌, length, take, drop, sym, ◌∙◌, ap, subst}
use Rattle.std.proofs.lemmas.List.{length-set}
use Rattle.std.specs.FinMap.{empty}
use Rattle.abstract_locks.proofs.Rows.{round_held, round_none}
use Rattle.abstract_locks.proofs.Table.release.Goals as goal

pub let_all_go-requires : goal.let_all_go-requires
let_all_go-requires g c = (
  take c.args.call c.self.inside.holders,
  drop (c.args.call + 1) c.self.inside.holders,
  round_held c.self.inside.locks c.self.inside.holders c.args.call (subst (λ ms. c.args.call < length ms) (sym c.self.view_is) c.requires) c.self.invariant.0 c.take_out-held.result c.take_out-held.ensures.value,
)

pub invariant_of-self : goal.invariant_of-self
invariant_of-self g c =
    let below = subst (λ ms. c.args.call < length ms) (sym c.self.view_is) c.requires in (
      round_none c.let_all_go.new.locks c.self.inside.holders c.take_out-held.new.self c.args.call below
          (c.let_all_go.ensures (take c.args.call c.self.inside.holders) (drop (c.args.call + 1) c.self.inside.holders)
          (round_held c.self.inside.locks c.self.inside.holders c.args.call below c.self.invariant.0 c.take_out-held.result c.take_out-held.ensures.value))
          c.take_out-held.ensures.gone,
      subst (λ n. n < 2 ^ 32) (sym (ap length c.take_out-held.ensures.gone ∙ length-set c.self.inside.holders c.args.call empty)) c.self.invariant.1,
    )
