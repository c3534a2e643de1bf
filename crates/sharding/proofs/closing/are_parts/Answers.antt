use Rattle.std.proofs.Common.{◌≡◌, length, subst, arith}
use Rattle.sharding.specs.Places.{AreAt}
use Rattle.sharding.proofs.Moving.{all_at_start}
use Rattle.sharding.proofs.closing.are_parts.Goals as goal

pub have_ended-requires-clause-at : goal.have_ended-requires-clause-at
have_ended-requires-clause-at g c =
    let within = c.loop-position.invariant.within in
    let last : c.loop-position.position ≡ length c.args.journal.now = omega (arith, c.loop-position-test.false, within) in
    subst (AreAt c.args.journal.now c.args.parts.now c.loop-position.places) last c.loop-position.invariant.at

pub loop-position-init : goal.loop-position-init
loop-position-init g c = record {
  at = all_at_start c.args.journal.now c.args.parts.now (omega (arith, c.if-parts-gt16.false));
  within = omega arith;
}
