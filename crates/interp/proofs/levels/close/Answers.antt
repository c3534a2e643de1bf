use Rattle.std.proofs.Common.{◌≡◌, [], ◌∷◌, ◌++◌, sym, ap, ◌∙◌, subst, false, length, length-append, arith}
use Rattle.spec_ledger.specs.declared.TraceStep.TheVariants.{Dropped}
use Rattle.spec_execution.specs.Levels.{asks_in}
use Rattle.interp_state.specs.Callee.{contract_of}
use Rattle.interp_state.specs.Waiting.{tail_of}
use Rattle.interp.specs.declared.run.Run.{Run}
use Rattle.interp.specs.declared.turns.Status.TheVariants as status
use Rattle.interp.specs.Progress.{HasLeft}
use Rattle.interp.specs.Machine.{progress}
use Rattle.interp.specs.Run.{seen, args_of, view_of, levels_of, AreAround, IsKept}
use Rattle.interp.proofs.Around.{levels_push, some_kept, around_front, around_last}
use Rattle.interp.proofs.Counting.{asks_left}
use Rattle.interp.proofs.Leaving.{machine_closed, has_closed}
use Rattle.interp.proofs.levels.close.Goals as goal

pub take_last-level-requires : goal.take_last-level-requires
take_last-level-requires g c =
    let r = c.args.run.now in
    some_kept r.call.now.args r.outer.items r.outer.ok.0 c.requires.closes.some

pub record_step-requires : goal.record_step-requires
record_step-requires g c =
    let r = c.args.run.now in
    let room = c.requires.room in
    omega (arith, room, r.outer.ok.0, ap length c.take_last-level.ensures.items, length-append c.take_last-level.new.self.items (c.take_last-level.result ∷ []))

pub returns-clause-kept : goal.returns-clause-kept
returns-clause-kept g c =
    let r = c.args.run.now in
    let args = r.call.now.args in
    let l = c.take_last-level.result in
    let others = c.take_last-level.new.self.items in
    let split : r.outer.items ≡ others ++ l ∷ [] = c.take_last-level.ensures.items in
    let all = subst (AreAround args) split c.requires.kept.around in
    let a = around_last args others l all in
    subst (λ (q : Run _). IsKept (record q { status = status.Closing })) (sym c.restore.ensures) (record {
      machine = machine_closed (seen r) c.requires.closes c.requires.kept.machine.opens c.requires.kept.machine.safe (contract_of l.lent) (view_of l) (tail_of (args_of args l.argument) l.waiting) l.asked l.answer (levels_of args others) (ap (levels_of args) split ∙ levels_push args others l)
          c.record_step.new.trace.items c.record_step.ensures.items;
      counted = a.counted;
      suits = a.suits;
      waits = a.waits;
      place = a.place;
      around = around_front args others l all;
      entered = c.requires.kept.entered ∙ sym (asks_left false r.trace.items) ∙ ap asks_in (sym c.record_step.ensures.items);
      room = (let room = c.requires.room in omega (arith, room, c.record_step.ensures.capacity, c.record_step.new.trace.ok.0, r.trace.ok.0, ap length c.record_step.ensures.items, length-append r.trace.items (Dropped ∷ []), ap length split, length-append others (l ∷ [])));
    })

pub returns-clause-turn : goal.returns-clause-turn
returns-clause-turn g c =
    let r = c.args.run.now in
    let args = r.call.now.args in
    let l = c.take_last-level.result in
    let others = c.take_last-level.new.self.items in
    subst (λ (q : Run _). HasLeft (progress (seen r)) false (progress (seen (record q { status = status.Closing })))) (sym c.restore.ensures)
    (has_closed (seen r) c.requires.closes c.requires.kept.machine.opens c.requires.kept.machine.safe (contract_of l.lent) (view_of l) (tail_of (args_of args l.argument) l.waiting) l.asked l.answer (levels_of args others) (ap (levels_of args) c.take_last-level.ensures.items ∙ levels_push args others l)
    c.record_step.new.trace.items c.record_step.ensures.items)
