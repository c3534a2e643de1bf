use Rattle.std.proofs.Common.{ap, sym, ◌∙◌, ◌+◌, ◌-◌, ◌<◌, ◌++◌, ◌∷◌, [], subst, take, length, length-append, arith}
use Rattle.std.specs.Prelude.{vec_len, vec_capacity}
use Rattle.spec_ledger.specs.declared.TraceStep.TheVariants.{Did}
use Rattle.interp.specs.Machine.{params_of, value_of_reply, HasRoom}
use Rattle.interp.specs.Progress.{IsAwaited}
use Rattle.interp.specs.Run.{seen, args_of}
use Rattle.interp_state.specs.Callee.{base_of}
use Rattle.interp_state.specs.Views.{view}
use Rattle.interp_state.specs.Waiting.{tail_of}
use Rattle.interp.specs.declared.turns.Status.{Status}
use Rattle.interp_state.specs.ViewLaws.{items_nil, last_of, ordered_any}
use Rattle.spec_execution.specs.Levels.{asks_in}
use Rattle.interp.proofs.Asking.{ordered_reply, machine_answered, has_answered}
use Rattle.interp.proofs.Counting.{asks_same}
use Rattle.interp.proofs.replies.take_answer.Goals as goal

pub record_step-requires : goal.record_step-requires
record_step-requires g c =
    let r = c.args.run.now in
    let room : vec_len r.trace + length r.outer.items < vec_capacity r.trace = subst (λ (y : Status). HasRoom y (length r.outer.items) r.trace) c.in-Asking.is c.requires.kept.room in
    omega (arith, room)

pub settle_all-requires-clause-ordered : goal.settle_all-requires-clause-ordered
settle_all-requires-clause-ordered g c =
    let r = c.args.run.now in
    ordered_any (base_of r.lent) (record r.parts { stack = c.take_reply.new.stack }) (ordered_reply (seen r) c.in-Asking.op c.args.reply c.requires.kept.machine c.in-Asking.is (subst (λ (x : Status). IsAwaited x c.args.reply) c.in-Asking.is c.requires.awaited) c.take_reply.new.stack.items
    (c.take_reply.ensures ∙ ap (λ n. take (n - params_of c.in-Asking.op) r.parts.stack.items ++ value_of_reply c.args.reply) r.parts.stack.ok.0))

pub returns-in-Asking-clause-kept : goal.returns-in-Asking-clause-kept
returns-in-Asking-clause-kept g c =
    let r = c.args.run.now in
    let b = base_of r.lent in
    let q = c.settle_all.new.parts in
    let x = c.settle_all.new.waiting in
    let come = c.settle_all.ensures.comes (seen r).contract (args_of r.call.now.args r.argument) b c.requires.kept.waits in
    record {
      machine = machine_answered (seen r) c.in-Asking.op c.args.reply c.requires.kept.machine c.in-Asking.is (subst (λ (x : Status). IsAwaited x c.args.reply) c.in-Asking.is c.requires.awaited) c.take_reply.new.stack.items
          (c.take_reply.ensures ∙ ap (λ n. take (n - params_of c.in-Asking.op) r.parts.stack.items ++ value_of_reply c.args.reply) r.parts.stack.ok.0)
          (view b q) (tail_of (args_of r.call.now.args r.argument) x) come.frees come.ordered (λ e. c.settle_all.ensures.ready (items_nil q.code.now e)) (last_of (args_of r.call.now.args r.argument) q x c.settle_all.ensures.last) c.record_step.new.trace.items c.record_step.ensures.items;
      counted = c.settle_all.ensures.counted;
      suits = ap (λ i. i.memory.max) c.settle_all.ensures.instance ∙ c.requires.kept.suits;
      waits = come.waits;
      place = c.settle_all.ensures.place;
      around = c.requires.kept.around;
      entered = c.requires.kept.entered ∙ (sym (asks_same c.in-Asking.op c.args.reply r.trace.items) ∙ ap asks_in (sym c.record_step.ensures.items));
      room = (let room : vec_len r.trace + length r.outer.items < vec_capacity r.trace = subst (λ (y : Status). HasRoom y (length r.outer.items) r.trace) c.in-Asking.is c.requires.kept.room in omega (arith, room, c.record_step.ensures.capacity, c.record_step.new.trace.ok.0, r.trace.ok.0, ap length c.record_step.ensures.items, length-append r.trace.items (Did c.in-Asking.op c.args.reply ∷ [])));
    }

pub returns-in-Asking-clause-answered : goal.returns-in-Asking-clause-answered
returns-in-Asking-clause-answered g c =
    let r = c.args.run.now in
    let b = base_of r.lent in
    let q = c.settle_all.new.parts in
    let x = c.settle_all.new.waiting in
    let come = c.settle_all.ensures.comes (seen r).contract (args_of r.call.now.args r.argument) b c.requires.kept.waits in
    has_answered (seen r) c.in-Asking.op c.args.reply c.requires.kept.machine c.in-Asking.is (subst (λ (x : Status). IsAwaited x c.args.reply) c.in-Asking.is c.requires.awaited) c.take_reply.new.stack.items
    (c.take_reply.ensures ∙ ap (λ n. take (n - params_of c.in-Asking.op) r.parts.stack.items ++ value_of_reply c.args.reply) r.parts.stack.ok.0)
    (view b q) (tail_of (args_of r.call.now.args r.argument) x) come.frees come.ordered (λ e. c.settle_all.ensures.ready (items_nil q.code.now e)) (last_of (args_of r.call.now.args r.argument) q x c.settle_all.ensures.last) c.record_step.new.trace.items c.record_step.ensures.items
