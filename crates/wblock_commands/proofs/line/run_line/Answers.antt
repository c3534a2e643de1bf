use Rattle.std.proofs.Common.{rules, inl, inr}
use Rattle.wblock_calls.specs.Words.{texts}
use Rattle.wblock_commands.specs.Words.{Says}
use Rattle.wblock_commands.proofs.Asked.{no_help}
use Rattle.wblock_commands.proofs.Noting.{of_command}
use Rattle.wblock_commands.proofs.line.run_line.Goals as goal

pub returns-in-Some-clause-done : goal.returns-in-Some-clause-done
returns-in-Some-clause-done g c = λ d. (c.in-Some.command, inl (search rules), c.run_command.ensures.done d)

pub returns-in-Some-clause-refused : goal.returns-in-Some-clause-refused
returns-in-Some-clause-refused g c = λ d. (c.in-Some.command, inl (search rules), c.run_command.ensures.refused d)

pub returns-in-Some-clause-failing : goal.returns-in-Some-clause-failing
returns-in-Some-clause-failing g c = λ d. (c.in-Some.command, inl (search rules), c.run_command.ensures.failing d)

pub returns-in-Ok-Some-clause-done : goal.returns-in-Ok-Some-clause-done
returns-in-Ok-Some-clause-done g c = λ d. (c.in-Ok-Some.command, inr (no_help (texts c.args.words.now) c.args.words (search rules), search rules), c.run_command-in-Ok-Some.ensures.done d)

pub returns-in-Ok-Some-clause-refused : goal.returns-in-Ok-Some-clause-refused
returns-in-Ok-Some-clause-refused g c = λ d. (c.in-Ok-Some.command, inr (no_help (texts c.args.words.now) c.args.words (search rules), search rules), c.run_command-in-Ok-Some.ensures.refused d)

pub returns-in-Ok-Some-clause-failing : goal.returns-in-Ok-Some-clause-failing
returns-in-Ok-Some-clause-failing g c = λ d. (c.in-Ok-Some.command, inr (no_help (texts c.args.words.now) c.args.words (search rules), search rules), c.run_command-in-Ok-Some.ensures.failing d)

pub returns-in-Ok-Some-clause-usage : goal.returns-in-Ok-Some-clause-usage
returns-in-Ok-Some-clause-usage g c = λ d. inr (c.in-Ok-Some.command, inr (no_help (texts c.args.words.now) c.args.words (search rules), search rules), c.run_command-in-Ok-Some.ensures.asked d, c.run_command-in-Ok-Some.ensures.missed d)

pub returns-in-Ok-Some-clause-quiet : goal.returns-in-Ok-Some-clause-quiet
returns-in-Ok-Some-clause-quiet g c = λ d.
    of_command (Says (texts c.args.words.now)) c.in-Ok-Some.command (inr (no_help (texts c.args.words.now) c.args.words (search rules), search rules)) (c.run_command-in-Ok-Some.ensures.quiet d)
