use Rattle.wblock_commands.proofs.Lines.{if_none}
use Rattle.wblock_commands.proofs.command.deploying_of.Goals as goal

pub returns-in_default-2 : goal.returns-in_default-2
returns-in_default-2 c = λ d a. if_none c.in_ok-onto.field-0 _ _ c.in_default-2.is c.in_ok-onto.ensures d.onto a.onto

pub returns-in_default-3 : goal.returns-in_default-3
returns-in_default-3 c = λ d a. if_none c.in_ok-forced.field-0 _ _ c.in_default-3.is c.in_ok-forced.ensures d.forced a.force

pub returns-in_default-4 : goal.returns-in_default-4
returns-in_default-4 c = λ d a. if_none c.in_ok-json.field-0 _ _ c.in_default-4.is c.in_ok-json.ensures d.json a.json
