use Rattle.std.proofs.Common.{◌<◌, refl, arith, [], ◌∷◌}
use Rattle.interp_steps.proofs.Holding.{first_some, may_join, done}
use Rattle.interp_steps.proofs.straight_line.join_next.Goals as goal

pub binary_result-requires : goal.binary_result-requires
binary_result-requires g c =
    let f = c.in_ok-next.ensures.first in
    let lt : 1 < c.args.left = omega (arith, c.if-left-lt2.false) in
    may_join c.args.lent.now c.args.parts.now (c.args.first ∷ c.args.second ∷ []) c.args.rest.now (c.requires.safe lt (first_some c.args.rest.now c.in_ok-next.next.now c.in_ok-next.behind.now f)) c.requires.ordered c.in_ok-next.next.now c.in_ok-next.behind.now f
    c.args.parts.now.stack.items c.args.first c.args.second refl

pub returns-clause-joins : goal.returns-clause-joins
returns-clause-joins g c =
    let f = c.in_ok-next.ensures.first in
    let lt : 1 < c.args.left = omega (arith, c.if-left-lt2.false) in
    done c.args.lent.now c.args.parts.now (c.args.first ∷ c.args.second ∷ []) c.args.rest.now (c.requires.safe lt (first_some c.args.rest.now c.in_ok-next.next.now c.in_ok-next.behind.now f)) c.requires.ordered c.in_ok-next.next.now c.in_ok-next.behind.now f
    c.in_ok-value.ensures.joined.runs _ _ (c.in_ok-value.ensures.joined.does c.args.parts.now.stack.items c.args.parts.now.locals.items)
