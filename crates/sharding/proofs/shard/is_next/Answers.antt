use Rattle.std.proofs.Common.{◌≡◌, ◌+◌, ◌-◌, ◌<◌, Some, slice_get, length, sym, arith}
use Rattle.std.proofs.lemmas.Option.{slice_get_within}
use Rattle.std.proofs.lemmas.Bool.{lt-ltb, ltb-true}
use Rattle.sharding.proofs.Rising.{all_below, above_each}
use Rattle.sharding.proofs.shard.is_next.Goals as goal

pub returns-in-Some : goal.returns-in-Some
returns-in-Some c =
    let last : slice_get c.args.positions.now (length c.args.positions.now - 1) ≡ Some c.in-Some.last.now = sym c.in-Some.ensures.value in
    let below = slice_get_within c.args.positions.now (length c.args.positions.now - 1) c.in-Some.last.now last in
    let whole : length c.args.positions.now - 1 + 1 ≡ length c.args.positions.now = omega (arith, below) in (
      λ h. all_below c.args.positions.now (length c.args.positions.now - 1) c.in-Some.last.now c.args.position c.requires whole last (ltb-true c.in-Some.last.now c.args.position h),
      λ all. lt-ltb c.in-Some.last.now c.args.position (above_each c.args.positions.now (length c.args.positions.now - 1) c.in-Some.last.now c.args.position last all),
    )
