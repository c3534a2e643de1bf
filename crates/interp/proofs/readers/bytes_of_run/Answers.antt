use Rattle.std.proofs.Common.{◌≡◌, ℕ, List, sym, ap, subst}
use Rattle.spec_execution.specs.Configuration.{State}
use Rattle.spec_execution.specs.Turns.{state_of}
use Rattle.interp.specs.Machine.{progress}
use Rattle.interp.specs.Run.{seen}
use Rattle.interp.proofs.Turning.{state_at}
use Rattle.interp.specs.MachineViews.{AreReadOf}
use Rattle.interp.proofs.readers.bytes_of_run.Goals as goal

pub returns : goal.returns
returns g c =
    let r = c.args.run.now in
    let same : (state_of (progress (seen r)).config.inner.config).memory ≡ r.parts.instance.memory.bytes = ap (λ (s : State). s.memory) (state_at (seen r).view (seen r).tail r.asked r.status) in
    subst (λ (bytes : List ℕ). AreReadOf bytes c.args.from c.args.count c.bytes_of_instance.result) (sym same) c.bytes_of_instance.ensures
