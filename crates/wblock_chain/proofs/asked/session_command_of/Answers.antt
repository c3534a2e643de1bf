use Rattle.std.proofs.Common.{rules, ◌≡◌, List, ℕ, true, subst}
use Rattle.wblock_line.specs.Words.{Line, line_of}
use Rattle.wblock_commands.specs.Words.{IsLineOf}
use Rattle.wblock_commands.proofs.Lines.{if_none, if_some}
use Rattle.wblock_chain.specs.Words.{IsOwn, single_line}
use Rattle.wblock_chain.specs.declared.asked.SessionCommand.{SessionCommand}
use Rattle.wblock_chain.proofs.Asking.{has_few, is_over, no_line, other_line, own_asked, own_few, own_over}
use Rattle.wblock_chain.proofs.asked.session_command_of.Goals as goal

pub returns-in-Some-clause-few : goal.returns-in-Some-clause-few
returns-in-Some-clause-few c = own_few (line_of c.args.line.now) c.in-Some.own (if_some c.own_command_of.result _ _ c.in-Some.own c.in-Some.is c.own_command_of.ensures)

pub returns-in-Some-clause-over : goal.returns-in-Some-clause-over
returns-in-Some-clause-over c = own_over c.args._name.now (line_of c.args.line.now) c.in-Some.own (if_some c.own_command_of.result _ _ c.in-Some.own c.in-Some.is c.own_command_of.ensures)

pub returns-in-Some-clause-asked : goal.returns-in-Some-clause-asked
returns-in-Some-clause-asked c = own_asked c.args._name.now (line_of c.args.line.now) c.in-Some.own (if_some c.own_command_of.result _ _ c.in-Some.own c.in-Some.is c.own_command_of.ensures)

pub returns-in_default-2-clause-asked : goal.returns-in_default-2-clause-asked
returns-in_default-2-clause-asked c =
    let own = if_none c.own_command_of.result _ _ c.in_default.is c.own_command_of.ensures in
    no_line c.args._name.now (line_of c.args.line.now) (line_of c.args.single.now) c.requires own (if_none c.in_ok-command.field-0 _ _ c.in_default-2.is c.in_ok-command.ensures)

pub returns-then-not-is_over_world-clause-asked : goal.returns-then-not-is_over_world-clause-asked
returns-then-not-is_over_world-clause-asked c =
    let own = if_none c.own_command_of.result _ _ c.in_default.is c.own_command_of.ensures in
    let asks = if_some c.in_ok-command.field-0 _ _ c.in-Some-2.command c.in-Some-2.is c.in_ok-command.ensures in
    other_line c.args._name.now (line_of c.args.line.now) (line_of c.args.single.now) c.in-Some-2.command c.requires own asks (λ over. search rules)

pub returns-clause-few : goal.returns-clause-few
returns-clause-few c = has_few (line_of c.args.single.now) c.in-Some-2.command (if_some c.in_ok-command.field-0 _ _ c.in-Some-2.command c.in-Some-2.is c.in_ok-command.ensures)

pub returns-clause-over : goal.returns-clause-over
returns-clause-over c =
    let asks = if_some c.in_ok-command.field-0 _ _ c.in-Some-2.command c.in-Some-2.is c.in_ok-command.ensures in
    is_over c.args._name.now (line_of c.args.line.now) c.in-Some-2.command (subst (λ (l : Line). IsLineOf l c.in-Some-2.command) c.requires asks) (c.if-not-is_over_world.ensures.0 (search rules))

pub returns-clause-asked : goal.returns-clause-asked
returns-clause-asked c =
    let asks = if_some c.in_ok-command.field-0 _ _ c.in-Some-2.command c.in-Some-2.is c.in_ok-command.ensures in
    (subst (λ (l : Line). IsLineOf l c.in-Some-2.command) c.requires asks, c.if-not-is_over_world.ensures.0 (search rules))
