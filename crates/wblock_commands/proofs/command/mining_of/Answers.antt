use Rattle.wblock_commands.proofs.Lines.{if_none}
use Rattle.wblock_commands.proofs.command.mining_of.Goals as goal

pub returns-in_default-2 : goal.returns-in_default-2
returns-in_default-2 c = λ m a. if_none c.in_ok-workers.field-0 _ _ c.in_default-2.is c.in_ok-workers.ensures m.workers a.workers

pub returns-in_default-3 : goal.returns-in_default-3
returns-in_default-3 c = λ m a. if_none c.in_ok-tries.field-0 _ _ c.in_default-3.is c.in_ok-tries.ensures m.tries a.tries

pub returns-in_default-4 : goal.returns-in_default-4
returns-in_default-4 c = λ m a. if_none c.in_ok-boosted.field-0 _ _ c.in_default-4.is c.in_ok-boosted.ensures m.boosted a.boosted

pub returns-in_default-5 : goal.returns-in_default-5
returns-in_default-5 c = λ m a. if_none c.in_ok-json.field-0 _ _ c.in_default-5.is c.in_ok-json.ensures m.json a.json
