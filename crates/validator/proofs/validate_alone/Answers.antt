use Rattle.world.specs.Views.{world_view}
use Rattle.validator.specs.VerdictsFound.{verdict_view}
use Rattle.validator.proofs.validate_alone.Goals as goal

pub returns : goal.returns
returns g c =
    record {
      verdict = c.first_is_verdict.ensures (world_view c.args.world.now) c.args.calls.now c.args.block_fuel c.args.bytes.now c.in-Ok.block (verdict_view c.in_ok-validated.validated.verdict) c.in-Ok.ensures.spelled c.in_ok-validated.ensures;
    }
