use Rattle.wblock_commands.proofs.Lines.{if_none}
use Rattle.wblock_commands.proofs.command.asm_of.Goals as goal

pub returns-in_default : goal.returns-in_default
returns-in_default c = λ text target json a. if_none c.switch_alone.result _ _ c.in_default.is c.switch_alone.ensures json a.options
