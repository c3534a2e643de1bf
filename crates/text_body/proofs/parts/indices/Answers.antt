use Rattle.std.proofs.Common.{◌<◌, List, length, map, sym, ap, ◌∙◌, subst, arith}
use Rattle.std.proofs.lemmas.List.{map_push, length-map}
use Rattle.spec_text.specs.FieldsOfPlaces as N
use Rattle.lexer.specs.WordsViews.{view, views}
use Rattle.text_body.specs.Places.{index_of}
use Rattle.text_body.specs.Reading.{next_index_at, indices_at}
use Rattle.text_body.proofs.Repeats.{Halfway, halfway_end, halfway_more}
use Rattle.text_body.proofs.parts.indices.Goals as goal

pub loop-next-preserved : goal.loop-next-preserved
loop-next-preserved g c =
    let l = c.loop-next in
    let new = c.next_index.new.rest.now in
    let short : length new < length l.rest.now = c.in-Some.ensures.shorter in
    let whole = indices_at (views c.args.rest.now.now) in
    record {
      half = subst (λ (xs : List N.Index). Halfway next_index_at whole (views new) xs) (sym (ap (map index_of) c.in_ok-push.ensures.items ∙ map_push index_of l.found.items c.in-Some.next))
          (halfway_more next_index_at whole (views l.rest.now) (map index_of l.found.items) l.invariant.half (views new) (index_of c.in-Some.next)
          c.in-Some.ensures.is (omega (arith, short, length-map new view, length-map l.rest.now view)));
      within = omega (arith, short, l.invariant.within);
    }

pub returns-clause-value : goal.returns-clause-value
returns-clause-value g c =
    let l = c.loop-next in
    let new = c.next_index.new.rest.now in
    halfway_end next_index_at (indices_at (views c.args.rest.now.now)) (views l.rest.now) (map index_of l.found.items) l.invariant.half (views new)
    c.in_default.ensures.is
