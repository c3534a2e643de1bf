use Rattle.std.proofs.Common.{sym, ◌∙◌}
use Rattle.wblock_usage.proofs.Colons.{not_cut, one_cut, differs}
use Rattle.wblock_usage.proofs.numbers.after_name.Goals as goal

pub returns-in_default : goal.returns-in_default
returns-in_default c = λ rest. not_cut c.args.word.now c.args.name.now rest c.in_default.ensures

pub returns-else-eq : goal.returns-else-eq
returns-else-eq c = λ rest e.
    let parts = c.in-Some.ensures in
    differs c.in-Some.front.now c.args.name.now c.if-eq.ensures (one_cut c.in-Some.front.now c.args.name.now c.in-Some.rest.now rest parts.0 c.requires (sym parts.1 ∙ e)).front
