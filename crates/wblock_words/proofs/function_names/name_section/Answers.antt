use Rattle.std.proofs.Common.{◌≡◌, length, rules}
use Rattle.wblock_words.proofs.Fronts.{none_returned}
use Rattle.wblock_words.proofs.Sections.{before, here, here_only, no_front, no_header, nothing_ahead, past}
use Rattle.wblock_words.proofs.function_names.name_section.Goals as goal

pub returns-in_err-rest : goal.returns-in_err-rest
returns-in_err-rest c = none_returned _ _ c.from_residual.result c.from_residual.ensures (no_header c.args.bytes.now c.in_err-rest.ensures)

pub returns-in_err-id : goal.returns-in_err-id
returns-in_err-id c =
    none_returned _ _ c.from_residual-in_err-id.result c.from_residual-in_err-id.ensures (λ payload h. no_front c.loop-rest.rest.now payload c.in_err-id.ensures (c.loop-rest.invariant.ahead payload h))

pub returns-in-Some : goal.returns-in-Some
returns-in-Some c =
    let rest = c.loop-rest.rest.now in
    let one = c.in_ok-id in
    let payload = c.in-Some.payload.now in (
      c.loop-rest.invariant.found payload (here rest one.id one.content.now one.behind.now payload one.ensures c.in-Some.ensures),
      λ other h. here_only rest one.id one.content.now one.behind.now one.ensures payload other c.in-Some.ensures (c.loop-rest.invariant.ahead other h),
    )

pub loop-rest-preserved : goal.loop-rest-preserved
loop-rest-preserved c =
    let rest = c.loop-rest.rest.now in
    let one = c.in_ok-id in
    record {
      ahead = λ payload h. past rest one.id one.content.now one.behind.now one.ensures payload c.in_default.ensures (c.loop-rest.invariant.ahead payload h);
      found = λ payload a. c.loop-rest.invariant.found payload (before rest one.id one.content.now one.behind.now one.ensures payload c.in_default.ensures a);
    }

pub returns : goal.returns
returns c = λ payload h.
    let empty : length c.loop-rest.rest.now ≡ 0 = search rules in
    nothing_ahead c.loop-rest.rest.now payload empty (c.loop-rest.invariant.ahead payload h)
