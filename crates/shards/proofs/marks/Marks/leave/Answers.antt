use Rattle.std.proofs.Common.{◌<◌, subst, arith}
use Rattle.spec_ledger.specs.Book.{standing_at}
use Rattle.shards.specs.Marks.{IsOutside}
use Rattle.shards.proofs.Levels.{closed, some_of}
use Rattle.shards.proofs.marks.Marks.leave.Goals as goal

pub invariant_of-self : goal.invariant_of-self
invariant_of-self g c =
    let m = c.self.inside in
    let k = c.self.invariant in
    let some : 0 < m.entered = some_of (standing_at m.steps.items).marks m.entered k.counted (λ e. c.requires (subst IsOutside c.self.view_is e)) in
    let both = closed m.steps.items c.push.new.self.items k.are_marks m.entered k.counted c.args.keep c.closing_mark-mark.result c.closing_mark-mark.ensures c.in-Ok.ensures.items in
    record {
      are_marks = both.0;
      counted = both.1;
      room = search (arith, some);
    }
