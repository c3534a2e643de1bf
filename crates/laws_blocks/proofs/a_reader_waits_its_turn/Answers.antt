use Rattle.laws_blocks.proofs.Reader.{not_at_once, not_sooner, waits}
use Rattle.laws_blocks.proofs.a_reader_waits_its_turn.Goals as goal

pub returns : goal.returns
returns _ = record { waits = waits; not_sooner = not_sooner; not_at_once = not_at_once }
