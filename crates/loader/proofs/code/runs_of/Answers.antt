use Rattle.std.proofs.Common.{◌≡◌, ◌+◌, ◌-◌, ◌++◌, suc, replicate, length, length-append, ap, arith, rules}
use Rattle.std.proofs.lemmas.List.{length-replicate}
use Rattle.std.proofs.lemmas.Result.{err_from_is_err_and}
use Rattle.spec_modules.specs.Profile.{local_limit}
use Rattle.laws_modules.specs.ReadingModules.{u32_at, value_type_at, runs_at}
use Rattle.expr_reader.proofs.Turns.{hand_on}
use Rattle.loader.proofs.Runs.{run_more, run_uncounted, run_too_long, run_untyped, runs_done}
use Rattle.loader.proofs.code.runs_of.Goals as goal

pub returns-in_err-count-clause-value : goal.returns-in_err-count-clause-value
returns-in_err-count-clause-value g c =
    let l = c.loop-i in
    let whole = runs_at local_limit c.args.runs c.args.bytes.now in
    let left : c.args.runs - l._i ≡ suc (c.args.runs - (l._i + 1)) = omega arith in
    let p = err_from_is_err_and c.from_residual-in_err-count.result c.from_residual-in_err-count.ensures.1 in
    rw (p.1, p.2) (hand_on c.in_err-count.field-0.0 (u32_at l.rest.now) whole
    (run_uncounted whole l.locals.items l.room (c.args.runs - l._i) (c.args.runs - (l._i + 1)) l.rest.now l.invariant.0 left)
    c.in_err-count.ensures.value)

pub returns-then-count-room-clause-value : goal.returns-then-count-room-clause-value
returns-then-count-room-clause-value g c =
    let l = c.loop-i in
    let whole = runs_at local_limit c.args.runs c.args.bytes.now in
    let left : c.args.runs - l._i ≡ suc (c.args.runs - (l._i + 1)) = omega arith in
    run_too_long whole l.locals.items l.room (c.args.runs - l._i) (c.args.runs - (l._i + 1)) l.rest.now l.invariant.0 left
    c.in_ok-count.count c.in_ok-count.after.now c.in_ok-count.ensures.value (omega arith)

pub returns-in_err-value_type-clause-value : goal.returns-in_err-value_type-clause-value
returns-in_err-value_type-clause-value g c =
    let l = c.loop-i in
    let whole = runs_at local_limit c.args.runs c.args.bytes.now in
    let left : c.args.runs - l._i ≡ suc (c.args.runs - (l._i + 1)) = omega arith in
    let p = err_from_is_err_and c.from_residual-in_err-value_type.result c.from_residual-in_err-value_type.ensures.1 in
    rw (p.1, p.2) (hand_on c.in_err-value_type.field-0.0 (value_type_at c.in_ok-count.after.now) whole
    (run_untyped whole l.locals.items l.room (c.args.runs - l._i) (c.args.runs - (l._i + 1)) l.rest.now l.invariant.0 left
    c.in_ok-count.count c.in_ok-count.after.now c.in_ok-count.ensures.value (omega arith))
    c.in_err-value_type.ensures.value)

pub loop-i-preserved : goal.loop-i-preserved
loop-i-preserved g c =
    let l = c.loop-i in
    let n = c.in_ok-count in
    let t = c.in_ok-value_type in
    let whole = runs_at local_limit c.args.runs c.args.bytes.now in
    let left : c.args.runs - l._i ≡ suc (c.args.runs - (l._i + 1)) = omega arith in
    let put : c.put_run.new.locals.items ≡ l.locals.items ++ replicate n.count t.value_type = search rules in (
      run_more whole l.locals.items l.room (c.args.runs - l._i) (c.args.runs - (l._i + 1)) l.rest.now l.invariant.0 left
          n.count t.value_type n.after.now t.following.now c.put_run.new.locals.items n.ensures.value (omega arith) t.ensures.value put,
      omega (arith, l.invariant.1, n.ensures.shorter, t.ensures.shorter),
      omega (arith, l.invariant.2, ap length put, length-append l.locals.items (replicate n.count t.value_type), length-replicate n.count t.value_type),
    )

pub returns-clause-value : goal.returns-clause-value
returns-clause-value g c =
    let l = c.loop-i in
    runs_done (runs_at local_limit c.args.runs c.args.bytes.now) l.locals.items l.room (c.args.runs - l._i) l.rest.now l.invariant.0 (omega arith)
