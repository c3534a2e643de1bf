use Rattle.std.proofs.Common.{◌∙◌, Option, ap, sym}
use Rattle.spec_ledger.specs.declared.Kind.{Kind}
use Rattle.foshqarel_c.specs.Records.{found_at}
use Rattle.foshqarel_c.proofs.cells.found_at.Goals as goal

pub returns-in-None : goal.returns-in-None
returns-in-None c = sym (ap (λ (kind : Option Kind). found_at c.args.cells.now.cells c.args.cell kind) (sym c.kind_of.ensures ∙ c.in-None.is))

pub returns-in-Some : goal.returns-in-Some
returns-in-Some c = c.get.ensures ∙ sym (ap (λ (kind : Option Kind). found_at c.args.cells.now.cells c.args.cell kind) (sym c.kind_of.ensures ∙ c.in-Some.is))
