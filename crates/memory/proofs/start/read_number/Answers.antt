use Rattle.std.proofs.Common.{◌∙◌, ap, sym}
use Rattle.std.specs.Prelude.{slice_index}
use Rattle.memory.specs.Pieces.{number_in}
use Rattle.memory.proofs.start.read_number.Goals as goal

pub returns-in-8-clause-value : goal.returns-in-8-clause-value
returns-in-8-clause-value g c =
    c.eight.ensures.value ∙ (ap (λ xs. number_in (slice_index xs) c.args.from 8) c.deref.ensures.value ∙ ap (number_in (slice_index c.args.bytes.now.items) c.args.from) (sym c.in-8.is))

pub returns-in-4-clause-value : goal.returns-in-4-clause-value
returns-in-4-clause-value g c =
    c.four.ensures.value ∙ (ap (λ xs. number_in (slice_index xs) c.args.from 4) c.deref-in-4.ensures.value ∙ ap (number_in (slice_index c.args.bytes.now.items) c.args.from) (sym c.in-4.is))

pub returns-in-2-clause-value : goal.returns-in-2-clause-value
returns-in-2-clause-value g c =
    c.two.ensures.value ∙ (ap (λ xs. number_in (slice_index xs) c.args.from 2) c.deref-in-2.ensures.value ∙ ap (number_in (slice_index c.args.bytes.now.items) c.args.from) (sym c.in-2.is))

pub returns-in-1-clause-value : goal.returns-in-1-clause-value
returns-in-1-clause-value g c =
    c.one.ensures.value ∙ (ap (λ xs. number_in (slice_index xs) c.args.from 1) c.deref-in-1.ensures.value ∙ ap (number_in (slice_index c.args.bytes.now.items) c.args.from) (sym c.in-1.is))
