use Rattle.std.proofs.Common.{◌≡◌, List, ℕ, rules, string_bytes, subst}
use Rattle.wblock_line.specs.Forms.{IsRefusalIn}
use Rattle.wblock_debug.specs.Lines.{left_line}
use Rattle.wblock_debug.proofs.debug.absent.Goals as goal

pub returns-in-Ok : goal.returns-in-Ok
returns-in-Ok c =
    let is : string_bytes c.in_ok-line.line ≡ left_line c.args.number = search rules in
    subst (λ (line : List ℕ). IsRefusalIn c.args.json line c.in-Ok.answer) is c.in-Ok.ensures.told
