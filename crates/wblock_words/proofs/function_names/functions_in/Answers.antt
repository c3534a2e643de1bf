use Rattle.std.proofs.Common.{◌≡◌, arith}
use Rattle.wblock_words.proofs.Fronts.{none_returned}
use Rattle.wblock_words.proofs.Sections.{first_only, first_there, no_functions, no_second, other_second, second_only, second_there}
use Rattle.wblock_words.proofs.function_names.functions_in.Goals as goal

pub returns-in_err-first : goal.returns-in_err-first
returns-in_err-first c = none_returned _ _ c.from_residual.result c.from_residual.ensures (no_functions c.args.payload.now c.in_err-first.ensures)

pub returns-then-first-eq-FUNCTIONS : goal.returns-then-first-eq-FUNCTIONS
returns-then-first-eq-FUNCTIONS c =
    let one = c.in_ok-first in
    let is : one.first ≡ 1 = omega (arith, c.if-first-eq-FUNCTIONS.true) in
    (first_there c.args.payload.now one.first one.content.now one.behind.now one.ensures is, first_only c.args.payload.now one.first one.content.now one.behind.now one.ensures is)

pub returns-in_err-second : goal.returns-in_err-second
returns-in_err-second c =
    let one = c.in_ok-first in
    none_returned _ _ c.from_residual-in_err-second.result c.from_residual-in_err-second.ensures
    (no_second c.args.payload.now one.first one.content.now one.behind.now one.ensures (λ is. omega (arith, is, c.if-first-ne-FIRST.false)) c.in_err-second.ensures)

pub returns-then-second-eq-FUNCTIONS : goal.returns-then-second-eq-FUNCTIONS
returns-then-second-eq-FUNCTIONS c =
    let one = c.in_ok-first in
    let two = c.in_ok-second in (
      second_there c.args.payload.now one.first one.content.now one.behind.now one.ensures two.second two.content.now two._behind.now two.ensures (omega (arith, c.if-first-ne-FIRST.false)) (omega (arith, c.if-second-eq-FUNCTIONS.true)),
      second_only c.args.payload.now one.first one.content.now one.behind.now one.ensures two.second two.content.now two._behind.now two.ensures (λ is. omega (arith, is, c.if-first-ne-FIRST.false)),
    )

pub returns-else-second-eq-FUNCTIONS : goal.returns-else-second-eq-FUNCTIONS
returns-else-second-eq-FUNCTIONS c =
    let one = c.in_ok-first in
    let two = c.in_ok-second in
    other_second c.args.payload.now one.first one.content.now one.behind.now one.ensures two.second two.content.now two._behind.now two.ensures
    (λ is. omega (arith, is, c.if-first-ne-FIRST.false)) (λ is. omega (arith, is, c.if-second-eq-FUNCTIONS.false))
