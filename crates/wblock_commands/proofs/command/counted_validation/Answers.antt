use Rattle.wblock_commands.proofs.Lines.{if_none}
use Rattle.wblock_commands.proofs.command.counted_validation.Goals as goal

pub returns-in_default-2 : goal.returns-in_default-2
returns-in_default-2 c = λ world calls block fuel workers a. if_none c.in_ok-workers.field-0 _ _ c.in_default-2.is c.in_ok-workers.ensures workers a.workers_are
