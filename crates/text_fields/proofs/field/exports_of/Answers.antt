use Rattle.std.proofs.Common.{map, take, arith, ap, ◌∙◌}
use Rattle.std.specs.Prelude.{string_bytes}
use Rattle.std.specs.List.{list_all}
use Rattle.spec_modules.specs.Limits.{export_fits}
use Rattle.text_fields.proofs.Parting.{exports_fit}
use Rattle.text_fields.proofs.field.exports_of.Goals as goal

pub returns-clause-fits : goal.returns-clause-fits
returns-clause-fits g c =
    let l = c.loop-item in
    ap (list_all export_fits) l.invariant ∙ exports_fit c.args.func (map string_bytes (take l.item-index c.args.items.now.items)) (omega arith)
