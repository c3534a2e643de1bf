use Rattle.wblock_chain.proofs.Running.{in_part}
use Rattle.wblock_chain.proofs.session.put_in_part.Goals as goal

pub returns : goal.returns
returns g c = in_part c.put_all.result g.O.Sink.tells c.args.bytes.now (g.O.Sink.told c.args.out.now) (g.O.Sink.told c.put_all.new.sink) c.put_all.ensures.put c.put_all.ensures.cut_short
