use Rattle.abstract_locks.proofs.Calls.{no_rows}
use Rattle.abstract_locks.proofs.holders.Holders.new.Goals as goal

pub returns : goal.returns
returns g c = no_rows c.new.result c.args.calls c.new.ensures.empty
