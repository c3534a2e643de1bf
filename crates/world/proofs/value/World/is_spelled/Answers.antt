use Rattle.std.proofs.Common.{◌<◌, ◌^◌, length, refl, subst}
use Rattle.world.proofs.Spelled.{is_world}
use Rattle.world.proofs.value.World.is_spelled.Goals as goal

pub returns : goal.returns
returns g c = record {
  is = refl;
  fits = is_world c.args.self.now c.use_invariant.ensures.cells c.use_invariant.ensures.types (subst (λ es. length es < 2 ^ 63) c.entries-entries.ensures.cells c.entries-entries.ensures.fits);
}
