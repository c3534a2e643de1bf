use Rattle.std.proofs.Common.{subst, drop}
use Rattle.interp_state.specs.Branches.{Jumps}
use Rattle.interp_state.specs.Views.{opens_of}
use Rattle.interp_steps.specs.StraightLine.{alone, with_loop}
use Rattle.interp_steps.proofs.straight_line.go_to.Goals as goal

pub returns-then-left-lt2-clause-branched : goal.returns-then-left-lt2-clause-branched
returns-then-left-lt2-clause-branched g c = alone c.branch-parts.new.parts c.branch-parts.ensures.jumps

pub returns-then-repeat-clause-branched : goal.returns-then-repeat-clause-branched
returns-then-repeat-clause-branched g c = with_loop c.repeat.new.parts (c.repeat.ensures.repeats c.if-repeat.true)

pub returns-clause-branched : goal.returns-clause-branched
returns-clause-branched g c =
    let same = c.repeat.ensures.same c.if-repeat.false in
    alone c.branch-parts-2.new.parts (subst (λ p. Jumps p (drop c.args.label (opens_of p.entries.items)) c.branch-parts-2.new.parts) same c.branch-parts-2.ensures.jumps)
