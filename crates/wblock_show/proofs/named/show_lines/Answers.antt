use Rattle.std.proofs.Common.{◌≡◌, rules, inl, None}
use Rattle.wblock_show.proofs.named.show_lines.Goals as goal

pub returns-in-Ok-clause-answers : goal.returns-in-Ok-clause-answers
returns-in-Ok-clause-answers g c = λ tells.
    let alone : c.args.task.calls ≡ None = search rules in
    inl (record { alone = alone; contents = c.in_ok-contents.contents; of_file = c.in_ok-contents.ensures.shows tells; answer = c.in-Ok.ensures })
