use Rattle.std.proofs.Common.{arith, refl}
use Rattle.validator.proofs.Agreeing.{same_held, held_at}
use Rattle.validator.proofs.compare.are_held.Goals as goal

pub returns-then-not-is_held : goal.returns-then-not-is_held
returns-then-not-is_held c = (
  λ never. absurd (cc never),
  λ same. absurd (let yes = c.is_held.ensures.1 (held_at c.args.entries.now c.args.held.now c.loop-at.at _ _ same c.loop-at-test.true) in let no = c.if-not-is_held.true in cc (yes, no)),
)

pub returns : goal.returns
returns c = (λ _. same_held c.args.entries.now c.args.held.now c.loop-at.at (omega (arith, c.if-entries-held.false)) c.loop-at-test.false c.loop-at.invariant, λ _. refl)
