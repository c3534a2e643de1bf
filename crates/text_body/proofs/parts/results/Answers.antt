use Rattle.std.proofs.Common.{◌<◌, List, Some, length, sym, ap, ◌∙◌, subst, arith}
use Rattle.std.specs.Prelude.{IfSome}
use Rattle.std.proofs.lemmas.List.{length-map}
use Rattle.std.proofs.lemmas.Result.{err_from_is_err_and}
use Rattle.wtypes.specs.declared.ValType.{ValType}
use Rattle.lexer.specs.WordsViews.{view, views}
use Rattle.text_body.specs.Reading.{result_at, results_at}
use Rattle.text_body.proofs.Repeats.{Halfway, hand_on, halfway_end, halfway_fault, halfway_more}
use Rattle.text_body.proofs.parts.results.Goals as goal

pub returns-in_err-next-clause-value : goal.returns-in_err-next-clause-value
returns-in_err-next-clause-value g c =
    let l = c.loop-found in
    let p = err_from_is_err_and c.from_residual-in_err-next.result c.from_residual-in_err-next.ensures.1 in
    rw (p.1, p.2) (hand_on c.in_err-next.field-0.0 (halfway_fault result_at (results_at (views c.args.rest.now.now)) (views l.rest.now) l.found.items l.invariant.half) c.in_err-next.ensures.value)

pub loop-found-preserved : goal.loop-found-preserved
loop-found-preserved g c =
    let l = c.loop-found in
    let new = c.next_result.new.rest.now in
    let short : length new < length l.rest.now = subst (λ o. IfSome o (λ _. length new < length l.rest.now)) c.in-Some.is c.in_ok-next.ensures.shorter in
    let whole = results_at (views c.args.rest.now.now) in
    record {
      half = subst (λ (xs : List ValType). Halfway result_at whole (views new) xs) (sym c.in_ok-push.ensures.items)
          (halfway_more result_at whole (views l.rest.now) l.found.items l.invariant.half (views new) c.in-Some.next
          (c.in_ok-next.ensures.value ∙ ap (λ o. Some (o, views new)) c.in-Some.is) (omega (arith, short, length-map new view, length-map l.rest.now view)));
      within = omega (arith, short, l.invariant.within);
    }

pub returns-clause-value : goal.returns-clause-value
returns-clause-value g c =
    let l = c.loop-found in
    let new = c.next_result.new.rest.now in
    halfway_end result_at (results_at (views c.args.rest.now.now)) (views l.rest.now) l.found.items l.invariant.half (views new)
    (c.in_ok-next.ensures.value ∙ ap (λ o. Some (o, views new)) c.in_default.is)
