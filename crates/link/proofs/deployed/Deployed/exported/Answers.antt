use Rattle.std.proofs.Common.{◌∙◌, ap, option_map}
use Rattle.module_tree.specs.ModuleView.{export_desc_view}
use Rattle.link.proofs.deployed.Deployed.exported.Goals as goal

pub returns : goal.returns
returns g c = ap (option_map export_desc_view) (c.copied.ensures ∙ c.get.ensures.value) ∙ c.args.self.now.named c.args.name.now
