use Rattle.abstract_locks.proofs.Rows.{holder_all, one_went, fewer_locks}
use Rattle.abstract_locks.proofs.sharing.let_all_go.Goals as goal

pub let_go-requires : goal.let_go-requires
let_go-requires g c =
    holder_all c.loop-lock.locks c.requires.0 c.loop-lock.held c.requires.1 (c.loop-lock.invariant c.requires.0 c.requires.1 c.requires.2) c.in-Some.lock c.in-Some.ensures.held

pub loop-lock-smaller : goal.loop-lock-smaller
loop-lock-smaller g c = fewer_locks c.loop-lock.held c.let_one_go.new.self c.in-Some.lock c.in-Some.ensures.held c.in-Some.ensures.gone

pub loop-lock-preserved : goal.loop-lock-preserved
loop-lock-preserved g c = λ before later are.
    one_went c.loop-lock.locks before c.loop-lock.held later (c.loop-lock.invariant before later are) c.in-Some.lock c.in-Some.ensures.held c.let_go.new.self c.let_go.ensures c.let_one_go.new.self c.in-Some.ensures.gone
