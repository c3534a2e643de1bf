use Rattle.text_resolve.proofs.Lookups.{each_below}
use Rattle.text_fields.proofs.field.are_bytes.Goals as goal

pub returns : goal.returns
returns g c = each_below 256 c.args.bytes.now.items c.type_inv.bytes
