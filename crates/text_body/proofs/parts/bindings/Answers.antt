use Rattle.std.proofs.Common.{◌<◌, List, Some, length, map, sym, ap, ◌∙◌, subst, arith}
use Rattle.std.specs.Prelude.{IfSome, option_map}
use Rattle.std.proofs.lemmas.List.{map_push, length-map}
use Rattle.std.proofs.lemmas.Result.{err_from_is_err_and}
use Rattle.spec_text.specs.FieldsOfPlaces as N
use Rattle.lexer.specs.WordsViews.{view, views}
use Rattle.text_body.specs.Places.{binding_of}
use Rattle.text_body.specs.Reading.{binding_at, next_at, bindings_at}
use Rattle.text_body.proofs.Repeats.{Halfway, hand_on, halfway_end, halfway_fault, halfway_more}
use Rattle.text_body.proofs.parts.bindings.Goals as goal

pub returns-in_err-next-clause-value : goal.returns-in_err-next-clause-value
returns-in_err-next-clause-value g c =
    let l = c.loop-found in
    let p = err_from_is_err_and c.from_residual-in_err-next.result c.from_residual-in_err-next.ensures.1 in
    rw (p.1, p.2) (hand_on c.in_err-next.field-0.0 (halfway_fault (next_at c.args.part binding_at) (bindings_at c.args.part (views c.args.rest.now.now)) (views l.rest.now) (map binding_of l.found.items) l.invariant.half) c.in_err-next.ensures.value)

pub loop-found-preserved : goal.loop-found-preserved
loop-found-preserved g c =
    let l = c.loop-found in
    let new = c.next_binding.new.rest.now in
    let short : length new < length l.rest.now = subst (λ o. IfSome o (λ _. length new < length l.rest.now)) c.in-Some.is c.in_ok-next.ensures.shorter in
    let whole = bindings_at c.args.part (views c.args.rest.now.now) in
    record {
      half = subst (λ (xs : List N.Binding). Halfway (next_at c.args.part binding_at) whole (views new) xs) (sym (ap (map binding_of) c.in_ok-push.ensures.items ∙ map_push binding_of l.found.items c.in-Some.next))
          (halfway_more (next_at c.args.part binding_at) whole (views l.rest.now) (map binding_of l.found.items) l.invariant.half (views new) (binding_of c.in-Some.next)
          (c.in_ok-next.ensures.value ∙ ap (λ o. Some (option_map binding_of o, views new)) c.in-Some.is) (omega (arith, short, length-map new view, length-map l.rest.now view)));
      within = omega (arith, short, l.invariant.within);
    }

pub returns-clause-value : goal.returns-clause-value
returns-clause-value g c =
    let l = c.loop-found in
    let new = c.next_binding.new.rest.now in
    halfway_end (next_at c.args.part binding_at) (bindings_at c.args.part (views c.args.rest.now.now)) (views l.rest.now) (map binding_of l.found.items) l.invariant.half (views new)
    (c.in_ok-next.ensures.value ∙ ap (λ o. Some (option_map binding_of o, views new)) c.in_default.is)
