use Rattle.std.proofs.Common.{sym, subst}
use Rattle.serial.proofs.storage_loop.run_over.Goals as goal

pub returns-clause-led : goal.returns-clause-led
returns-clause-led g c = subst (λ t. g.S.Storage.led c.args.storage.now t c.run_on.new.storage) (sym c.in-Ok.ensures.trace) c.in_ok-run_on.ensures.led
