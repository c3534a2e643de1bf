use Rattle.std.proofs.Common.{arith}
use Rattle.wblock_usage.proofs.Colons.{at_none, at_some}
use Rattle.wblock_usage.proofs.Lists.{none_read, one_more}
use Rattle.wblock_usage.proofs.debugging.commands_of.Goals as goal

pub returns-in_default : goal.returns-in_default
returns-in_default c = none_read c.args.words.now c.loop-at.at _ c.loop-at-test.true (at_none _ _ _ c.in_default.is c.in_ok-command.ensures)

pub loop-at-preserved : goal.loop-at-preserved
loop-at-preserved c = record {
  within = omega (arith, c.loop-at-test.true);
  read = one_more c.args.words.now c.loop-at.at _ c.loop-at.commands.items c.push.new.self.items c.in-Some.command c.loop-at-test.true c.loop-at.invariant.read (at_some _ _ _ _ c.in-Some.is c.in_ok-command.ensures) c.in_ok-push.ensures.items;
}
