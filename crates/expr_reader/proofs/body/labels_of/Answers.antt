use Rattle.std.proofs.Common.{◌≡◌, ◌+◌, ◌-◌, ◌∷◌, ◌++◌, [], suc, arith, rules}
use Rattle.std.proofs.lemmas.Result.{err_from_is_err_and}
use Rattle.spec_modules.specs.Reading.{unsigned_at}
use Rattle.laws_modules.specs.ReadingExpressions.{items_at}
use Rattle.expr_reader.proofs.Steps.{one_more, none_more, all_done}
use Rattle.expr_reader.proofs.Turns.{hand_on}
use Rattle.expr_reader.proofs.body.labels_of.Goals as goal

pub returns-in_err-label-clause-value : goal.returns-in_err-label-clause-value
returns-in_err-label-clause-value g c =
    let l = c.loop-i in
    let one = unsigned_at 32 in
    let left : c.args.count - l._i ≡ suc (c.args.count - (l._i + 1)) = omega arith in
    let p = err_from_is_err_and c.from_residual-in_err-label.result c.from_residual-in_err-label.ensures.1 in
    rw (p.1, p.2) (hand_on c.in_err-label.field-0.0 (one l.rest.now) (items_at one c.args.count c.args.bytes.now)
    (none_more one (items_at one c.args.count c.args.bytes.now) l.found.items (c.args.count - l._i) l.rest.now l.invariant.0 (c.args.count - (l._i + 1)) left)
    c.in_err-label.ensures.value)

pub loop-i-preserved : goal.loop-i-preserved
loop-i-preserved g c =
    let l = c.loop-i in
    let one = unsigned_at 32 in
    let left : c.args.count - l._i ≡ suc (c.args.count - (l._i + 1)) = omega arith in
    let pushed : c.push.new.self.items ≡ l.found.items ++ c.in_ok-label.label ∷ [] = search rules in (
      one_more one (items_at one c.args.count c.args.bytes.now) l.found.items (c.args.count - l._i) l.rest.now l.invariant.0
          c.in_ok-label.label c.push.new.self.items c.in_ok-label.after.now (c.args.count - (l._i + 1)) left c.in_ok-label.ensures.value pushed,
      omega (arith, l.invariant.1, c.in_ok-label.ensures.shorter),
    )

pub returns-clause-value : goal.returns-clause-value
returns-clause-value g c =
    let l = c.loop-i in
    let one = unsigned_at 32 in
    let none : c.args.count - l._i ≡ 0 = omega arith in
    all_done one (items_at one c.args.count c.args.bytes.now) l.found.items (c.args.count - l._i) l.rest.now l.invariant.0 none
