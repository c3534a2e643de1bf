use Rattle.std.proofs.Common.{◌++◌, refl, sym, ◌∙◌, ap}
use Rattle.storage.proofs.Listed.{copied_condition, split_next}
use Rattle.spec_ledger.specs.Shards.{shard_of}
use Rattle.sharding.proofs.Gathering.{gathered_none, gathered_here, gathered_away, gathered_all}
use Rattle.sharding.proofs.parts.gather.Goals as goal

pub loop-lock-init : goal.loop-lock-init
loop-lock-init g c = (tt, tt, refl, gathered_none (shard_of c.args.shards) c.args.shard c.args.all.now.cells c.requires.free, refl)

pub loop-lock-preserved-then-home-shard : goal.loop-lock-preserved-then-home-shard
loop-lock-preserved-then-home-shard g c = (
  tt,
  tt,
  split_next c.loop-lock.yielded (c.in-Some.lock, c.in-Some.value) c.next.new.self _ _ c.in-Some.ensures.steps c.loop-lock.invariant.2,
  gathered_away (shard_of c.args.shards) c.args.shard c.args.all.now.cells c.args.own.now.cells c.loop-lock.yielded c.in-Some.lock c.in-Some.value c.next.new.self
      (ap (λ t. c.loop-lock.yielded ++ t) (sym c.in-Some.ensures.steps) ∙ c.loop-lock.invariant.2 ∙ c.into_iter-lock-iterator.ensures.into_iter_gives ∙ c.entries-lock-items.ensures.cells)
      c.loop-lock.all.cells c.loop-lock.invariant.3 (λ here. c.if-home-shard.true (c.home.ensures ∙ here)),
  c.loop-lock.invariant.4,
)

pub insert-requires : goal.insert-requires
insert-requires g c = copied_condition c.args.own.now.cells c.loop-lock.yielded c.in-Some.lock c.in-Some.value c.next.new.self
    (ap (λ t. c.loop-lock.yielded ++ t) (sym c.in-Some.ensures.steps) ∙ c.loop-lock.invariant.2 ∙ c.into_iter-lock-iterator.ensures.into_iter_gives ∙ c.entries-lock-items.ensures.cells) c.use_invariant.ensures.cells

pub loop-lock-preserved : goal.loop-lock-preserved
loop-lock-preserved g c = (
  tt,
  tt,
  split_next c.loop-lock.yielded (c.in-Some.lock, c.in-Some.value) c.next.new.self _ _ c.in-Some.ensures.steps c.loop-lock.invariant.2,
  gathered_here (shard_of c.args.shards) c.args.shard c.args.all.now.cells c.args.own.now.cells c.loop-lock.yielded c.in-Some.lock c.in-Some.value c.next.new.self
      (ap (λ t. c.loop-lock.yielded ++ t) (sym c.in-Some.ensures.steps) ∙ c.loop-lock.invariant.2 ∙ c.into_iter-lock-iterator.ensures.into_iter_gives ∙ c.entries-lock-items.ensures.cells)
      c.loop-lock.all.cells c.insert.new.self.cells c.loop-lock.invariant.3 c.in_ok-insert.ensures.cells (sym c.home.ensures ∙ c.if-home-shard.false),
  c.in_ok-insert.ensures.unsettled ∙ c.loop-lock.invariant.4,
)

pub returns-clause-own : goal.returns-clause-own
returns-clause-own g c =
    gathered_all (shard_of c.args.shards) c.args.shard c.args.all.now.cells c.args.own.now.cells c.loop-lock.yielded c.loop-lock.all.cells
    (ap (λ t. c.loop-lock.yielded ++ t) (sym c.in-None.ensures.steps.0) ∙ c.loop-lock.invariant.2 ∙ c.into_iter-lock-iterator.ensures.into_iter_gives ∙ c.entries-lock-items.ensures.cells) c.loop-lock.invariant.3
