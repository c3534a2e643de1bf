use Rattle.std.proofs.Common.{rules, ◌≡◌, subst}
use Rattle.wblock_calls.specs.Words.{texts}
use Rattle.wblock_line.specs.Words.{Line, line_of, choices}
use Rattle.wblock_blocks.specs.declared.mine.Mining.{Mining}
use Rattle.wblock_blocks.specs.declared.validate.Validation.{Validation}
use Rattle.wblock_call.specs.declared.called.Calling.{Calling}
use Rattle.wblock_call.specs.Calling.{AsksCall}
use Rattle.wblock_debug.specs.declared.asked.Debugging.{Debugging}
use Rattle.wblock_debug.specs.Asks.{AsksDebug}
use Rattle.wblock_commands.specs.Words.{AsksMine, AsksValidate}
use Rattle.wblock_commands.proofs.Lines.{if_none}
use Rattle.wblock_commands.proofs.command.task_of.Goals as goal

pub returns-in-None : goal.returns-in-None
returns-in-None c =
    let words = c.as_slice-words.ensures.value in
    let options = c.as_slice-options.ensures.value in
    let same : line_of c.args.line.now ≡ record { words = texts c.as_slice-words.result.now; options = choices c.as_slice-options.result.now } = search (words, options, rules) in
    let mining : (m : Mining) → ¬ AsksMine (line_of c.args.line.now) m = search rules in
    let validation : (v : Validation) → ¬ AsksValidate (line_of c.args.line.now) v = search rules in
    let calling : (call : Calling) → ¬ AsksCall (line_of c.args.line.now) call = λ call a. if_none c.in_ok-task-3.field-0 _ _ c.in_default-3.is c.in_ok-task-3.ensures call (subst (λ (l : Line). AsksCall l call) same a) in
    let debugging : (d : Debugging) → ¬ AsksDebug (line_of c.args.line.now) d = if_none c.in_ok-task-4.field-0 _ _ c.in-None.is c.in_ok-task-4.ensures in
    record { mining = mining; validation = validation; calling = calling; debugging = debugging }
