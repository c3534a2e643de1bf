use Rattle.std.proofs.Common.{rules, ◌≡◌, true, [], refl, length, take, arith}
use Rattle.spec_ledger.specs.declared.TraceStep.TheVariants.{Opened, Kept, Dropped}
use Rattle.serial.proofs.Levels.{none_in_levels, may_be_left, same_in_levels, entered}
use Rattle.serial.proofs.Redoing.{again_more, again_other, not_again, one_more}
use Rattle.serial.proofs.again.act_again.Goals.{in-Did+in_ok-again-in-Did+else-not-is_same, in-Opened+in_ok-push-in-Opened, in-Kept, in-Dropped}
use Rattle.serial.proofs.again.act_again.Goals as goal

pub returns-then-not-is_same-clause-other : goal.returns-then-not-is_same-clause-other
returns-then-not-is_same-clause-other g c = λ _ gets.
    let l = c.loop-step in
    let e = c.in_ok-again-in-Did.ensures in
    not_again c.args.cells.now l.cells c.act.new.cells c.args.trace.now l.step-index _ l.inverses.items c.act.new.inverses.items l.marks.items c.in-Did.op c.in-Did.reply c.in_ok-again-in-Did.again c.loop-step-test.true c.in-Did.is
    l.invariant e.reply e.cells e.unsettled e.inverses (λ same. absurd (let is : c.is_same.result ≡ true = c.is_same.ensures.1 same in cc)) gets

pub returns-then-not-is_same-clause-some : goal.returns-then-not-is_same-clause-some
returns-then-not-is_same-clause-some g c =
    let l = c.loop-step in
    let e = c.in_ok-again-in-Did.ensures in
    again_other c.args.cells.now l.cells c.act.new.cells c.args.trace.now l.step-index _ l.inverses.items c.act.new.inverses.items l.marks.items c.in-Did.op c.in-Did.reply c.in_ok-again-in-Did.again c.loop-step-test.true c.in-Did.is
    l.invariant e.reply e.cells e.unsettled e.inverses

pub leave-requires : goal.leave-requires
leave-requires g c = let l = c.loop-step in may_be_left c.args.cells.now (take l.step-index c.args.trace.now) l.cells l.inverses.items l.marks.items l.invariant

pub leave-requires-in-Dropped : goal.leave-requires-in-Dropped
leave-requires-in-Dropped g c = let l = c.loop-step in may_be_left c.args.cells.now (take l.step-index c.args.trace.now) l.cells l.inverses.items l.marks.items l.invariant

pub loop-step-init : goal.loop-step-init
loop-step-init g c =
    same_in_levels c.args.cells.now c.args.cells.now _ [] _ [] _ [] _ (search rules) (search rules) (search rules) (search rules)
    (none_in_levels c.args.cells.now c.requires.settled c.use_invariant.ensures.cells)

pub loop-step-preserved : goal.loop-step-preserved
loop-step-preserved g c =
    let l = c.loop-step in
    let start = c.args.cells.now in
    let t = c.args.trace.now in
    let i = l.step-index in
    let is = l.inverses.items in
    let ms = l.marks.items in
    let below = c.loop-step-test.true in
    elim c.match-step.branch [
      | in-Did+in_ok-again-in-Did+else-not-is_same w ↦
          let e = w.in_ok-again-in-Did.ensures in
          same_in_levels start w.act.new.cells _ _ _ w.act.new.inverses.items _ ms _ refl (search rules) (search rules) (search rules)
          (again_more start l.cells w.act.new.cells t i _ is w.act.new.inverses.items ms w.in-Did.op w.in-Did.reply w.in_ok-again-in-Did.again below w.in-Did.is l.invariant e.reply e.cells e.unsettled e.inverses
          (w.is_same.ensures.0 (search rules)))
      | in-Opened+in_ok-push-in-Opened w ↦
          let size : w.len.result ≡ length is = omega (arith, w.len.ensures, l.inverses.ok.0) in
          same_in_levels start l.cells _ _ _ is _ w.push.new.self.items _ refl (search rules) (search rules) (search rules)
          (entered start l.cells (take i t) is ms l.invariant _ (one_more t i _ Opened below w.in-Opened.is) w.len.result size w.push.new.self.items w.in_ok-push-in-Opened.ensures.items)
      | in-Kept w ↦
          same_in_levels start w.leave.new.cells _ _ _ w.leave.new.inverses.items _ w.leave.new.marks.items _ (one_more t i _ Kept below w.in-Kept.is) (search rules) (search rules) (search rules)
          (w.leave.ensures start (take i t) l.invariant)
      | in-Dropped w ↦
          same_in_levels start w.leave-in-Dropped.new.cells _ _ _ w.leave-in-Dropped.new.inverses.items _ w.leave-in-Dropped.new.marks.items _ (one_more t i _ Dropped below w.in-Dropped.is) (search rules) (search rules) (search rules)
          (w.leave-in-Dropped.ensures start (take i t) l.invariant)
    ]
