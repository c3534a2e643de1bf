use Rattle.text_body.specs.Views.{text_of}
use Rattle.text_fields.proofs.Parting.{names_give}
use Rattle.text_fields.proofs.locals.space_of.Goals as goal

pub returns : goal.returns
returns g c = names_give (λ space. space.names.items) text_of c.of.result c.args.names.items c.of.ensures.names c.of.ensures.distinct c.of.ensures.refused
