use Rattle.schedule.proofs.Numbered.{are_gates}
use Rattle.schedule.proofs.gates.gates_of.Goals as goal

pub returns : goal.returns
returns g c = are_gates c.args.profiles.now _ c.in_ok-holds.holds.items c.in_ok-behind.behind.items c.requires.few c.in_ok-behind.ensures.numbered c.in_ok-behind.ensures.holders c.in_ok-holds.ensures
