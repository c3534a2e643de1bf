use Rattle.std.proofs.Common.{◌≡◌, true, false, length, refl}
use Rattle.spec_ledger.specs.Shards.{shard_of}
use Rattle.sharding.specs.Parts.{IsPart, IsPartOf}
use Rattle.sharding.proofs.Moving.{not_ended, not_cells, is_part}
use Rattle.sharding.proofs.Together.{each_more}
use Rattle.sharding.proofs.closing.have_ended.Goals as goal

pub returns-then-not-ends_at-clause-parts : goal.returns-then-not-ends_at-clause-parts
returns-then-not-ends_at-clause-parts g c = (
  λ e. cc,
  λ are. absurd
      (not_ended c.args.journal.now c.args.parts.now c.args.opening.now.cells c.args.places.now c.requires.at c.loop-shard.shard c.index-parts-shard.result c.index-parts-shard.is
      c.loop-shard-test.true (λ is. let no : false ≡ true = c.if-not-ends_at.ensures.1 is in cc) are),
)

pub returns-then-not-has_cells_of-clause-parts : goal.returns-then-not-has_cells_of-clause-parts
returns-then-not-has_cells_of-clause-parts g c = (
  λ e. cc,
  λ are. absurd
      (not_cells c.args.journal.now c.args.parts.now c.args.opening.now.cells c.args.places.now c.requires.at c.loop-shard.shard c.index-parts-shard.result c.index-parts-shard.is
      c.loop-shard-test.true (λ is. let no : false ≡ true = c.if-not-has_cells_of.ensures.1 is in cc) are),
)

pub loop-shard-preserved : goal.loop-shard-preserved
loop-shard-preserved g c = record {
  parts = each_more c.args.parts.now c.loop-shard.shard c.index-parts-shard.result c.index-parts-shard.is c.loop-shard-test.true
      (λ shard p. IsPartOf (shard_of (length c.args.parts.now)) c.args.opening.now.cells c.args.journal.now shard p)
      (is_part c.args.journal.now c.args.parts.now c.args.opening.now.cells c.args.places.now c.requires.at c.loop-shard.shard c.index-parts-shard.result c.index-parts-shard.is
      c.loop-shard-test.true (c.if-not-ends_at.ensures.0 refl) (c.if-not-has_cells_of.ensures.0 refl))
      c.loop-shard.invariant.parts;
  whole = each_more c.args.parts.now c.loop-shard.shard c.index-parts-shard.result c.index-parts-shard.is c.loop-shard-test.true
      (λ shard p. IsPart p) c.use_invariant.ensures c.loop-shard.invariant.whole;
}
