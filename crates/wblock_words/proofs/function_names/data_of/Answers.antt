use Rattle.std.proofs.Common.{codes, arith}
use Rattle.wblock_words.proofs.Fronts.{none_returned}
use Rattle.wblock_words.proofs.Sections.{data_there, is_no_title, is_title, name_of_data, other_title}
use Rattle.wblock_words.proofs.function_names.data_of.Goals as goal

pub returns-in_err-title : goal.returns-in_err-title
returns-in_err-title c =
    none_returned _ _ c.from_residual.result c.from_residual.ensures (λ payload d. c.in_err-title.ensures (codes "name") payload (name_of_data c.args.id c.args.content.now payload d))

pub returns-then-eq : goal.returns-then-eq
returns-then-eq c =
    let found = c.in_ok-title in
    data_there c.args.id c.args.content.now found.title.now found.payload.now (omega (arith, c.if-id-ne-FIRST.false)) found.ensures (is_title found.title.now c.if-eq.ensures)

pub returns-else-eq : goal.returns-else-eq
returns-else-eq c = λ payload.
    let found = c.in_ok-title in
    other_title c.args.id c.args.content.now found.title.now found.payload.now payload found.ensures (is_no_title found.title.now c.if-eq.ensures)
