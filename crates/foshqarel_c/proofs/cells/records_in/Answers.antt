use Rattle.foshqarel_c.proofs.cells.records_in.Goals as goal

pub returns-clause-records : goal.returns-clause-records
returns-clause-records c = record { cells = c.in_ok-cells.cells.cells; of_world = c.in_ok-cells.ensures.cells; are = c.in_ok-records.ensures }
