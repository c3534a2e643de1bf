use Rattle.std.proofs.Common.{map, sym, ap, ◌∙◌}
use Rattle.text_body.specs.Views.{text_of}
use Rattle.text_fields.specs.Parts.{distinct_at}
use Rattle.text_fields.proofs.Parting.{no_names_are}
use Rattle.text_fields.proofs.locals.no_locals.Goals as goal

pub returns-in-Ok-clause-none : goal.returns-in-Ok-clause-none
returns-in-Ok-clause-none g c = no_names_are (map text_of c.in-Ok.space.names.items) (ap (λ l. distinct_at (map text_of l)) (sym c.new.ensures.items) ∙ c.in-Ok.ensures)
