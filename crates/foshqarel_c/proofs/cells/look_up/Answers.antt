use Rattle.foshqarel_c.proofs.cells.look_up.Goals as goal

pub returns-clause-found : goal.returns-clause-found
returns-clause-found c = record { cells = c.in_ok-cells.cells.cells; of_world = c.in_ok-cells.ensures.cells; found_is = c.found_at.ensures }
