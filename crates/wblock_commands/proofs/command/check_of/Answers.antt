use Rattle.wblock_commands.proofs.Lines.{if_none}
use Rattle.wblock_commands.proofs.command.check_of.Goals as goal

pub returns-in_default : goal.returns-in_default
returns-in_default c = λ target heap json a. if_none c.in_ok-heap.field-0 _ _ c.in_default.is c.in_ok-heap.ensures heap a.heap_is

pub returns-in_default-2 : goal.returns-in_default-2
returns-in_default-2 c = λ target heap json a. if_none c.in_ok-json.field-0 _ _ c.in_default-2.is c.in_ok-json.ensures json a.json_is
