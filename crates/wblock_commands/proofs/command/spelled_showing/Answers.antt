use Rattle.wblock_commands.proofs.Lines.{if_none}
use Rattle.wblock_commands.proofs.command.spelled_showing.Goals as goal

pub returns-in_default : goal.returns-in_default
returns-in_default c = λ s a. if_none c.in_ok-calls.field-0 _ _ c.in_default.is c.in_ok-calls.ensures s.calls a.calls

pub returns-in_default-2 : goal.returns-in_default-2
returns-in_default-2 c = λ s a. if_none c.in_ok-form.field-0 _ _ c.in_default-2.is c.in_ok-form.ensures s.form a.form

pub returns-in_default-3 : goal.returns-in_default-3
returns-in_default-3 c = λ s a. if_none c.in_ok-signed.field-0 _ _ c.in_default-3.is c.in_ok-signed.ensures s.signed a.signed
