use Rattle.std.proofs.Common.{◌≡◌, true, false}
use Rattle.wblock_commands.proofs.Lines.{if_none, if_some}
use Rattle.wblock_commands.proofs.Next.{apart_alike}
use Rattle.wblock_calls.specs.Words.{texts}
use Rattle.wblock_line.specs.Words.{choices}
use Rattle.wblock_commands.proofs.command.validation_of.Goals as goal

pub returns-in_default : goal.returns-in_default
returns-in_default c = λ v a. if_none c.in_ok-validation.field-0 _ _ c.in_default.is c.in_ok-validation.ensures v a.spells

pub returns-then-not-next_is_apart : goal.returns-then-not-next_is_apart
returns-then-not-next_is_apart c = λ v a.
    let spelled = if_some c.in_ok-validation.field-0 _ _ c.in-Some.validation c.in-Some.is c.in_ok-validation.ensures in
    let no : false ≡ true = c.if-not-next_is_apart.ensures.1 (apart_alike (record { words = texts c.args.words.now; options = choices c.args.options.now }) v c.in-Some.validation a.spells spelled a.apart) in
    absurd cc
