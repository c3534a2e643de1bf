use Rattle.std.proofs.Common.{◌≡◌, ◌++◌, true, false, refl, sym, ◌∙◌, ap}
use Rattle.storage.proofs.Listed.{split_next}
use Rattle.spec_ledger.specs.Shards.{shard_of}
use Rattle.sharding.proofs.Gathering.{among_more, all_among, not_among}
use Rattle.sharding.proofs.parts.are_cells_among.Goals as goal

pub returns-then-not-holds : goal.returns-then-not-holds
returns-then-not-holds g c = (
  λ e. cc,
  λ among. absurd
      (not_among (shard_of c.args.shards) c.args.shard c.args.cells.now.cells c.args.others.now.cells c.loop-lock.yielded c.in-Some.lock c.in-Some.value c.next.new.self
      (ap (λ t. c.loop-lock.yielded ++ t) (sym c.in-Some.ensures.steps) ∙ c.loop-lock.invariant.2 ∙ c.into_iter-lock-iterator.ensures.into_iter_gives ∙ c.entries-lock-items.ensures.cells)
      (sym c.home.ensures ∙ c.if-home-shard.false) (λ is. let no : false ≡ true = c.if-not-holds.ensures.1 is in cc) among),
)

pub loop-lock-preserved : goal.loop-lock-preserved
loop-lock-preserved g c = (
  tt,
  tt,
  split_next c.loop-lock.yielded (c.in-Some.lock, c.in-Some.value) c.next.new.self _ _ c.in-Some.ensures.steps c.loop-lock.invariant.2,
  among_more (shard_of c.args.shards) c.args.shard c.args.others.now.cells c.loop-lock.yielded (c.in-Some.lock, c.in-Some.value) c.loop-lock.invariant.3 (λ _. c.if-not-holds.ensures.0 refl),
)

pub returns : goal.returns
returns g c = (
  λ _. all_among (shard_of c.args.shards) c.args.shard c.args.cells.now.cells c.args.others.now.cells c.loop-lock.yielded
      (ap (λ t. c.loop-lock.yielded ++ t) (sym c.in-None.ensures.steps.0) ∙ c.loop-lock.invariant.2 ∙ c.into_iter-lock-iterator.ensures.into_iter_gives ∙ c.entries-lock-items.ensures.cells)
      c.loop-lock.invariant.3,
  λ _. refl,
)
