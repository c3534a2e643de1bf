use Rattle.std.proofs.Common.{rules, ◌≡◌, [], ◌∷◌, codes}
use Rattle.wblock_calls.specs.Words.{texts}
use Rattle.wblock_commands.specs.Words.{AsksHelp}
use Rattle.wblock_commands.proofs.Asked.{nothing_told}
use Rattle.wblock_commands.proofs.command.watched_command.Goals as goal

pub returns-clause-told : goal.returns-clause-told
returns-clause-told c =
    let help : ¬ AsksHelp (texts c.args.words.now) = search rules in
    let version : ¬ (texts c.args.words.now ≡ codes "--version" ∷ []) = search rules in
    nothing_told (texts c.args.words.now) help version
