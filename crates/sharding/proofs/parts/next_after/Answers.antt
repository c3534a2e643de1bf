use Rattle.std.proofs.Common.{◌≡◌, true, false, [], refl, sym, subst, arith}
use Rattle.spec_ledger.specs.Modes.{ops_of}
use Rattle.spec_ledger.specs.Shards.{part, shard_of}
use Rattle.sharding.proofs.Moving.{at_here}
use Rattle.sharding.proofs.parts.next_after.Goals as goal

pub returns-clause-after : goal.returns-clause-after
returns-clause-after g c =
    at_here (shard_of c.args.shards) c.args.shard c.args.own.now c.args.journal.now c.args.next c.args.position c.index-journal-position.result c.requires.position c.index-journal-position.is c.requires.at
    (λ none. let no : true ≡ false = c.if-not-touches.ensures.1 (subst (λ t. [] ≡ ops_of (part (shard_of c.args.shards) c.args.shard t)) (sym c.trace.ensures) none) in cc)
    c.index-own-next.result (omega (arith, c.if-next-own.false)) c.index-own-next.is (c.if-not-is_entry_in.ensures.0 refl)
