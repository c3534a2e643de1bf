use Rattle.std.proofs.Common.{◌∙◌, List, ap, map}
use Rattle.spec_block.specs.Worlds.{Position}
use Rattle.foshqarel_c.specs.Records.{position_record}
use Rattle.foshqarel_c.proofs.receipts.records_in.Goals as goal

pub returns-clause-records : goal.returns-clause-records
returns-clause-records c =
    record {
      block = c.in_ok-found.found;
      spelled = c.in_ok-found.ensures.spelled;
      are = c.in_ok-records.ensures ∙ ap (λ (ps : List Position). map position_record ps) c.positions.ensures;
    }
