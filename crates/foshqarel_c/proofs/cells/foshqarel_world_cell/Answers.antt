use Rattle.std.proofs.Common.{◌∙◌, ℕ, Option, inl, inr, refl, ap}
use Rattle.foshqarel_c.specs.Records.{count_of, filled}
use Rattle.foshqarel_c.proofs.Failing.{fails}
use Rattle.foshqarel_c.proofs.cells.foshqarel_world_cell.Goals as goal

pub returns-in-Ok : goal.returns-in-Ok
returns-in-Ok c =
    let found = c.in-Ok.ensures.found in
    inl (record {
      count = count_of c.in-Ok.found;
      is = record {
        cells = found.cells;
        of_world = found.of_world;
        new_is = c.fill.ensures.cell ∙ ap (λ (o : Option ℕ). filled c.args.cell.now o) found.found_is;
        count_is = ap (λ (o : Option ℕ). count_of o) found.found_is;
      };
      kept = refl;
      status_is = c.fill.ensures.status;
      told_is = c.fill.ensures.told;
    })

pub returns-in-Err : goal.returns-in-Err
returns-in-Err c = inr (refl, fails c.in-Err.failure _ _ _ _ _ c.in-Err.ensures.refused c.fail.ensures)
