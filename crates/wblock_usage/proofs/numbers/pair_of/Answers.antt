use Rattle.std.proofs.Common.{decimal, sym, ◌∙◌}
use Rattle.wblock_usage.proofs.Colons.{at_none, not_cut, one_cut, decimal_free}
use Rattle.wblock_usage.proofs.numbers.pair_of.Goals as goal

pub returns-in_default : goal.returns-in_default
returns-in_default c = λ m n lm ln. not_cut c.args.word.now (decimal m) (decimal n) c.in_default.ensures

pub returns-in_default-2 : goal.returns-in_default-2
returns-in_default-2 c = λ m n lm ln e.
    let parts = c.in-Some.ensures in
    at_none _ _ _ c.in_default-2.is c.in_ok-first.ensures m lm (one_cut c.in-Some.first.now (decimal m) c.in-Some.second.now (decimal n) parts.0 (decimal_free m lm) (sym parts.1 ∙ e)).front

pub returns-in_default-3 : goal.returns-in_default-3
returns-in_default-3 c = λ m n lm ln e.
    let parts = c.in-Some.ensures in
    at_none _ _ _ c.in_default-3.is c.in_ok-second.ensures n ln (one_cut c.in-Some.first.now (decimal m) c.in-Some.second.now (decimal n) parts.0 (decimal_free m lm) (sym parts.1 ∙ e)).rest
