use Rattle.std.proofs.Common.{◌++◌, refl, sym, ◌∙◌, ap}
use Rattle.storage.proofs.Listed.{copied_condition, split_next}
use Rattle.shards.proofs.opening.own_cells.Goals as goal

pub loop-lock-init : goal.loop-lock-init
loop-lock-init g c = (tt, tt, refl)

pub loop-lock-preserved-then-home-shard : goal.loop-lock-preserved-then-home-shard
loop-lock-preserved-then-home-shard g c = (tt, tt, split_next c.loop-lock.yielded (c.in-Some.lock, c.in-Some.value) c.next.new.self _ _ c.in-Some.ensures.steps c.loop-lock.invariant.2)

pub insert-requires : goal.insert-requires
insert-requires g c = copied_condition c.args.opening.now.cells c.loop-lock.yielded c.in-Some.lock c.in-Some.value c.next.new.self
    (ap (λ t. c.loop-lock.yielded ++ t) (sym c.in-Some.ensures.steps) ∙ c.loop-lock.invariant.2 ∙ c.into_iter-lock-iterator.ensures.into_iter_gives ∙ c.entries-lock-items.ensures.cells) c.use_invariant.ensures.cells

pub loop-lock-preserved : goal.loop-lock-preserved
loop-lock-preserved g c = (tt, tt, split_next c.loop-lock.yielded (c.in-Some.lock, c.in-Some.value) c.next.new.self _ _ c.in-Some.ensures.steps c.loop-lock.invariant.2)
