use Rattle.std.proofs.Common.{refl, sym, subst, arith}
use Rattle.serial.proofs.MachineProgress.{same_joined}
use Rattle.serial.proofs.storage_loop.run_on.Goals as goal

pub operations-init : goal.operations-init
operations-init g c = record {
  same = record { setting = refl; call = refl; contract = refl; func = refl };
  free = c.requires.free;
  limit = c.requires.limit;
  asked = omega arith;
  led = subst (λ t. g.S.Storage.led c.args.storage.now t c.args.storage.now) (sym c.requires.first) c.requires.led;
}

pub do_next-requires-clause-led : goal.do_next-requires-clause-led
do_next-requires-clause-led g c = (c.args.storage.now, c.operations.invariant.led)

pub returns-clause-same : goal.returns-clause-same
returns-clause-same g c = same_joined c.args.machine.now c.operations.machine c.do_next.new.machine c.operations.invariant.same c.in_ok-do_next.ensures.same

pub returns-clause-led : goal.returns-clause-led
returns-clause-led g c = c.in_ok-do_next.ensures.way c.args.storage.now c.operations.invariant.led
