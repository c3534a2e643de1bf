use Rattle.std.proofs.Common.{◌≡◌, get_or, rules}
use Rattle.body_typing.proofs.Leaves.{type_at_get}
use Rattle.body_typing.proofs.check.own_type.Goals as goal

pub returns : goal.returns
returns g c =
    let ts = c.args.types.now.items in
    let at : c.index.result.now ≡ get_or ts c.args.index c.index.result.now = search rules in
    type_at_get ts c.args.index c.index.result.now c.requires at
