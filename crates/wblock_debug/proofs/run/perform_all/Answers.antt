use Rattle.std.proofs.Common.{rules, ◌≡◌, ℕ, List, [], false, take, string_bytes, subst, sym}
use Rattle.wblock_usage.specs.declared.debugging.Command.{Command}
use Rattle.wblock_debug.specs.Prints.{IsPrinted, nothing}
use Rattle.wblock_debug.proofs.run.perform_all.Goals as goal

pub loop-command-init : goal.loop-command-init
loop-command-init c =
    let empty : string_bytes c.new.result ≡ [] = search rules in
    let none : take 0 c.args.commands.now ≡ [] = search rules in
    subst (λ (commands : List Command). IsPrinted c.args.style c.args.session.now commands c.args.session.now false (string_bytes c.new.result)) (sym none)
    (subst (λ (text : List ℕ). IsPrinted c.args.style c.args.session.now [] c.args.session.now false text) (sym empty) nothing)
