use Rattle.std.proofs.Common.{◌≡◌, rules}
use Rattle.typing.proofs.Stacks.{arrow_there, leave_there}
use Rattle.typing.proofs.takes.types_of.Goals as goal

pub returns : goal.returns
returns c =
    let is : c.in_ok-types.types.items ≡ c.args.types.now = search rules in
    record { arrow = arrow_there c.in_ok-types.types.items c.args.types.now is; leave = leave_there c.in_ok-types.types.items c.args.types.now is }
