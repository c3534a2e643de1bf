use Rattle.std.proofs.Common.{map}
use Rattle.module_tree.specs.View.{instrs_view}
use Rattle.text_body.specs.Views.{text_of, flats_of}
use Rattle.text_resolve.specs.Views.{spaces_of}
use Rattle.text_fields.proofs.Parting.{expression_gives}
use Rattle.text_fields.proofs.field.instrs_of.Goals as goal

pub returns-clause-value : goal.returns-clause-value
returns-clause-value g c =
    expression_gives (λ v. instrs_view v.items) c.expression.result (spaces_of c.args.spaces.now) (map text_of c.args.locals.now.names.items) (flats_of c.args.flats.now.items) c.expression.ensures.body
    c.expression.ensures.fits c.expression.ensures.refused
