use Rattle.std.proofs.Common.{◌≡◌, true, false}
use Rattle.wblock_commands.proofs.Lines.{if_none, if_some}
use Rattle.wblock_commands.proofs.Showing.{drawn_alike}
use Rattle.wblock_calls.specs.Words.{texts}
use Rattle.wblock_line.specs.Words.{choices}
use Rattle.wblock_commands.proofs.command.showing_of.Goals as goal

pub returns-in_default : goal.returns-in_default
returns-in_default c = λ s a. if_none c.in_ok-showing.field-0 _ _ c.in_default.is c.in_ok-showing.ensures s a.spells

pub returns-then-not-picture_is_apart : goal.returns-then-not-picture_is_apart
returns-then-not-picture_is_apart c = λ s a.
    let spelled = if_some c.in_ok-showing.field-0 _ _ c.in-Some.showing c.in-Some.is c.in_ok-showing.ensures in
    let no : false ≡ true = c.if-not-picture_is_apart.ensures.1 (drawn_alike (record { words = texts c.args.words.now; options = choices c.args.options.now }) s c.in-Some.showing a.spells spelled a.apart) in
    absurd cc
