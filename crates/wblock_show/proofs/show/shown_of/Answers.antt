use Rattle.std.proofs.Common.{rules, refl}
use Rattle.wblock_line.specs.Answers.{writes_of}
use Rattle.wblock_show.proofs.show.shown_of.Goals as goal

pub returns : goal.returns
returns c = record { status = refl; writes = search rules; figures = c.in_ok-figures.figures; are = c.in_ok-figures.ensures.figures; text = c.in_ok-text.ensures }
