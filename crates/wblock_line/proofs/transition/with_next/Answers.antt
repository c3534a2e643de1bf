use Rattle.std.proofs.Common.{List, ℕ, ap}
use Rattle.wblock_line.proofs.Leaving.{no_world, with_left}
use Rattle.wblock_line.proofs.transition.with_next.Goals as goal

pub returns-in_default : goal.returns-in_default
returns-in_default c = no_world c.args.writes.items c.args.next c.in_default.is

pub returns : goal.returns
returns c =
    with_left c.args.writes.items c.push.new.self.items _ c.args.next c.in-Some.left c.in-Some.is c.in_ok-push.ensures.items (ap (λ (bytes : List ℕ). (c.in-Some.left.name.now, bytes)) c.in_ok-bytes.ensures)
