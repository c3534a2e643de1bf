use Rattle.std.proofs.Common.{◌≡◌, length}
use Rattle.publish.specs.Publication.{HasGoneOn, Sweep, limits}
use Rattle.publish.proofs.Publishing.fill.Given as goal

abbrev pub invariant-loop-call : goal.invariant-loop-call
invariant-loop-call g l = record {
  all : l.call-end ≡ length l.fn.self.calls;
  gone_on : HasGoneOn l.fn.self l.self;
  swept : Sweep (limits l.fn.self.calls) l.fn.self.fuel l.fn.self.order l.call l.self.order;
}
