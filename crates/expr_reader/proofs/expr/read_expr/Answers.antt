use Rattle.std.proofs.Common.{slice_range}
use Rattle.module_tree.specs.View.{instrs_view}
use Rattle.expr_reader.proofs.Expression.{spelled_at, fits_at, told_before}
use Rattle.expr_reader.proofs.expr.read_expr.Goals as goal

pub returns-in-Ok-clause-spelled : goal.returns-in-Ok-clause-spelled
returns-in-Ok-clause-spelled g c = spelled_at c.args.bytes.now c.in-Ok.rest.now (instrs_view c.in-Ok.body.items) c.args.at c.args.end c.requires.order c.requires.within c.in-Ok.ensures.value

pub returns-in-Ok-clause-fits : goal.returns-in-Ok-clause-fits
returns-in-Ok-clause-fits g c = fits_at (slice_range c.args.bytes.now c.args.at c.args.end) c.in-Ok.rest.now (instrs_view c.in-Ok.body.items) c.in-Ok.ensures.value

pub returns-clause-only : goal.returns-clause-only
returns-clause-only g c =
    let bytes = slice_range c.args.bytes.now c.args.at c.args.end in
    rw c.ending_at.ensures (told_before bytes c.args.end c.in-Err.unread c.in-Err.ensures.value)
