use Rattle.std.proofs.Common.{◌≡◌, ◌+◌, ◌-◌, ◌∷◌, ◌++◌, [], suc, map, arith, rules}
use Rattle.std.proofs.lemmas.Result.{err_from_is_err_and}
use Rattle.laws_modules.specs.ReadingExpressions.{items_at}
use Rattle.expr_reader.proofs.Steps.{one_more, none_more, all_done}
use Rattle.expr_reader.proofs.Turns.{hand_on}
use Rattle.loader.proofs.OneMore.{one_more_view, one_more_keeps}
use Rattle.loader.proofs.vectors.items_of.Goals as goal

pub returns-in_err-item-clause-value : goal.returns-in_err-item-clause-value
returns-in_err-item-clause-value g c =
    let l = c.loop-i in
    let r = g.R.Reader in
    let left : c.args.count - l._i ≡ suc (c.args.count - (l._i + 1)) = omega arith in
    let p = err_from_is_err_and c.from_residual-in_err-item.result c.from_residual-in_err-item.ensures.1 in
    rw (p.1, p.2) (hand_on c.in_err-item.field-0.0 ((r.reading c.args.reader.now) l.rest.now) (items_at (r.reading c.args.reader.now) c.args.count c.args.bytes.now)
    (none_more (r.reading c.args.reader.now) (items_at (r.reading c.args.reader.now) c.args.count c.args.bytes.now) (map r.view l.found.items) (c.args.count - l._i) l.rest.now l.invariant.0 (c.args.count - (l._i + 1)) left)
    c.in_err-item.ensures.value)

pub loop-i-preserved : goal.loop-i-preserved
loop-i-preserved g c =
    let l = c.loop-i in
    let r = g.R.Reader in
    let left : c.args.count - l._i ≡ suc (c.args.count - (l._i + 1)) = omega arith in
    let item = c.in_ok-item.item in
    let pushed : c.push.new.self.items ≡ l.found.items ++ item ∷ [] = search rules in (
      one_more (r.reading c.args.reader.now) (items_at (r.reading c.args.reader.now) c.args.count c.args.bytes.now) (map r.view l.found.items) (c.args.count - l._i) l.rest.now l.invariant.0
          (r.view item) (map r.view c.push.new.self.items) c.in_ok-item.after.now (c.args.count - (l._i + 1)) left c.in_ok-item.ensures.value
          (one_more_view r.view l.found.items c.push.new.self.items item pushed),
      omega (arith, l.invariant.1, c.in_ok-item.ensures.shorter),
      one_more_keeps r.is_numbered l.found.items c.push.new.self.items item pushed l.invariant.2 c.in_ok-item.ensures.numbered,
    )

pub returns-clause-value : goal.returns-clause-value
returns-clause-value g c =
    let l = c.loop-i in
    let r = g.R.Reader in
    let none : c.args.count - l._i ≡ 0 = omega arith in
    all_done (r.reading c.args.reader.now) (items_at (r.reading c.args.reader.now) c.args.count c.args.bytes.now) (map r.view l.found.items) (c.args.count - l._i) l.rest.now l.invariant.0 none
