use Rattle.std.proofs.Common.{◌≡◌, ℤ, ◌≤◌, [], ◌∷◌, ◌++◌, sym, ap, ◌∙◌, ◌-◌, subst, take, pos, length, length-append, arith, w64}
use Rattle.std.specs.Prelude.{vec_len}
use Rattle.std.proofs.lemmas.Int.{to_z-of_z}
use Rattle.wtypes.specs.declared.Value.TheVariants.{I32}
use Rattle.spec_ledger.specs.declared.TraceStep.{TraceStep}
use Rattle.spec_execution.specs.Levels.{asks_in}
use Rattle.interp_state.specs.Callee.{contract_of, base_of}
use Rattle.interp_state.specs.Steps.{IsCounted, IsOrderedParts}
use Rattle.interp_state.specs.Views.{view}
use Rattle.interp_state.specs.ViewLaws.{items_nil, last_of, ordered_any}
use Rattle.interp_state.specs.Waiting.{tail_of, HasEach, AllCome}
use Rattle.interp.specs.declared.run.Run.{Run}
use Rattle.interp.specs.declared.turns.Status.TheVariants as status
use Rattle.interp.specs.Progress.{mark_of, HasLeft}
use Rattle.interp.specs.Machine.{progress}
use Rattle.interp.specs.Run.{seen, args_of, view_of, levels_of, AreAround, IsKept}
use Rattle.interp.proofs.Around.{levels_push, some_kept, around_front, around_last}
use Rattle.interp.proofs.Counting.{asks_left}
use Rattle.interp.proofs.Leaving.{machine_back, has_left, ordered_back}
use Rattle.interp.proofs.levels.leave.Goals as goal

pub take_last-level-requires : goal.take_last-level-requires
take_last-level-requires g c =
    let r = c.args.run.now in
    some_kept r.call.now.args r.outer.items r.outer.ok.0 (λ e. let none = ap length (sym c.requires.leaving.outer ∙ e) in omega (arith, none))

pub record_step-requires : goal.record_step-requires
record_step-requires g c =
    let r = c.args.run.now in
    let room = c.requires.room in
    omega (arith, room, r.outer.ok.0, ap length c.take_last-level.ensures.items, length-append c.take_last-level.new.self.items (c.take_last-level.result ∷ []))

pub take_status-requires : goal.take_status-requires
take_status-requires g c =
    let r = c.args.run.now in
    let l = c.take_last-level.result in
    let a = around_last r.call.now.args c.take_last-level.new.self.items l (subst (AreAround r.call.now.args) c.take_last-level.ensures.items c.requires.kept.around) in
    subst (λ (q : Run _). 3 ≤ vec_len q.parts.stack) (sym c.restore.ensures) (omega (arith, a.room, l.parts.stack.ok.0))

pub settle_all-requires-clause-ordered : goal.settle_all-requires-clause-ordered
settle_all-requires-clause-ordered g c =
    let r = c.args.run.now in
    let args = r.call.now.args in
    let l = c.take_last-level.result in
    let others = c.take_last-level.new.self.items in
    let a = around_last args others l (subst (AreAround args) c.take_last-level.ensures.items c.requires.kept.around) in
    subst (λ (q : Run _). IsOrderedParts (record q.parts { stack = c.take_status.new.stack })) (sym c.restore.ensures)
    (ordered_any (base_of l.lent) (record l.parts { stack = c.take_status.new.stack }) (ordered_back (seen r) c.args.status c.args.answer c.args.keep c.requires.leaving (contract_of l.lent) (view_of l) (tail_of (args_of args l.argument) l.waiting) l.asked l.answer (levels_of args others) (ap (levels_of args) c.take_last-level.ensures.items ∙ levels_push args others l) a.room a.ordered a.number a.export a.value a.asks
    c.take_status.new.stack.items (c.take_status.ensures ∙ ap (λ (q : Run _). take (vec_len q.parts.stack - 3) q.parts.stack.items ++ I32 (pos c.args.status) ∷ []) c.restore.ensures ∙ ap (λ n. take (n - 3) l.parts.stack.items ++ I32 (pos c.args.status) ∷ []) l.parts.stack.ok.0)))

pub settle_all-requires-clause-counted : goal.settle_all-requires-clause-counted
settle_all-requires-clause-counted g c =
    let r = c.args.run.now in
    let l = c.take_last-level.result in
    let a = around_last r.call.now.args c.take_last-level.new.self.items l (subst (AreAround r.call.now.args) c.take_last-level.ensures.items c.requires.kept.around) in
    subst (λ (q : Run _). IsCounted (record q.parts { stack = c.take_status.new.stack })) (sym c.restore.ensures) (record { count = a.counted.count; few = a.counted.few; code = a.counted.code; each = a.counted.each })

pub settle_all-requires-clause-place : goal.settle_all-requires-clause-place
settle_all-requires-clause-place g c =
    let r = c.args.run.now in
    let l = c.take_last-level.result in
    let a = around_last r.call.now.args c.take_last-level.new.self.items l (subst (AreAround r.call.now.args) c.take_last-level.ensures.items c.requires.kept.around) in
    subst (λ (q : Run _). HasEach q.waiting) (sym c.restore.ensures) a.place

pub returns-clause-kept : goal.returns-clause-kept
returns-clause-kept g c =
    let r = c.args.run.now in
    let args = r.call.now.args in
    let l = c.take_last-level.result in
    let others = c.take_last-level.new.self.items in
    let split : r.outer.items ≡ others ++ l ∷ [] = c.take_last-level.ensures.items in
    let all = subst (AreAround args) split c.requires.kept.around in
    let a = around_last args others l all in
    let b = base_of l.lent in
    let p = c.settle_all.new.parts in
    let x = c.settle_all.new.waiting in
    let recorded : c.record_step.new.trace.items ≡ r.trace.items ++ mark_of c.args.keep ∷ [] = c.record_step.ensures.items ∙ ap (λ (m : TraceStep). r.trace.items ++ m ∷ []) c.mark.ensures in
    let come = subst (λ (q : Run _). AllCome (record q.parts { stack = c.take_status.new.stack }) q.waiting p x) c.restore.ensures c.settle_all.ensures.comes (contract_of l.lent) (args_of args l.argument) b a.waits in
    subst (λ (z : ℤ). IsKept (record c.restore.new.run { parts = p; waiting = x; answer = z; status = status.Running })) (sym (to_z-of_z w64 c.args.answer c.ranges.answer))
    (subst (λ (q : Run _). IsKept (record q { parts = p; waiting = x; answer = c.args.answer; status = status.Running })) (sym c.restore.ensures) (record {
      machine = machine_back (seen r) c.args.status c.args.answer c.args.keep c.requires.leaving (contract_of l.lent) (view_of l) (tail_of (args_of args l.argument) l.waiting) l.asked l.answer (levels_of args others) (ap (levels_of args) split ∙ levels_push args others l) a.room a.ordered a.number a.export a.value a.asks
          c.take_status.new.stack.items (c.take_status.ensures ∙ ap (λ (q : Run _). take (vec_len q.parts.stack - 3) q.parts.stack.items ++ I32 (pos c.args.status) ∷ []) c.restore.ensures ∙ ap (λ n. take (n - 3) l.parts.stack.items ++ I32 (pos c.args.status) ∷ []) l.parts.stack.ok.0)
          (view b p) (tail_of (args_of args l.argument) x) come.frees come.ordered (λ e. c.settle_all.ensures.ready (items_nil p.code.now e)) (last_of (args_of args l.argument) p x c.settle_all.ensures.last)
          c.record_step.new.trace.items recorded l.asked;
      counted = c.settle_all.ensures.counted;
      suits = ap (λ i. i.memory.max) (c.settle_all.ensures.instance ∙ ap (λ (q : Run _). q.parts.instance) c.restore.ensures) ∙ a.suits;
      waits = come.waits;
      place = c.settle_all.ensures.place;
      around = around_front args others l all;
      entered = c.requires.kept.entered ∙ sym (asks_left c.args.keep r.trace.items) ∙ ap asks_in (sym recorded);
      room = (let room = c.requires.room in omega (arith, room, c.record_step.ensures.capacity, c.record_step.new.trace.ok.0, r.trace.ok.0, ap length recorded, length-append r.trace.items (mark_of c.args.keep ∷ []), ap length split, length-append others (l ∷ [])));
    }))

pub returns-clause-turn : goal.returns-clause-turn
returns-clause-turn g c =
    let r = c.args.run.now in
    let args = r.call.now.args in
    let l = c.take_last-level.result in
    let others = c.take_last-level.new.self.items in
    let split : r.outer.items ≡ others ++ l ∷ [] = c.take_last-level.ensures.items in
    let a = around_last args others l (subst (AreAround args) split c.requires.kept.around) in
    let b = base_of l.lent in
    let p = c.settle_all.new.parts in
    let x = c.settle_all.new.waiting in
    let recorded : c.record_step.new.trace.items ≡ r.trace.items ++ mark_of c.args.keep ∷ [] = c.record_step.ensures.items ∙ ap (λ (m : TraceStep). r.trace.items ++ m ∷ []) c.mark.ensures in
    let come = subst (λ (q : Run _). AllCome (record q.parts { stack = c.take_status.new.stack }) q.waiting p x) c.restore.ensures c.settle_all.ensures.comes (contract_of l.lent) (args_of args l.argument) b a.waits in
    subst (λ (z : ℤ). HasLeft (progress (seen r)) c.args.keep (progress (seen (record c.restore.new.run { parts = p; waiting = x; answer = z; status = status.Running })))) (sym (to_z-of_z w64 c.args.answer c.ranges.answer))
    (subst (λ (q : Run _). HasLeft (progress (seen r)) c.args.keep (progress (seen (record q { parts = p; waiting = x; answer = c.args.answer; status = status.Running })))) (sym c.restore.ensures)
    (has_left (seen r) c.args.status c.args.answer c.args.keep c.requires.leaving (contract_of l.lent) (view_of l) (tail_of (args_of args l.argument) l.waiting) l.asked l.answer (levels_of args others) (ap (levels_of args) split ∙ levels_push args others l) a.room a.ordered a.number a.export a.value a.asks
    c.take_status.new.stack.items (c.take_status.ensures ∙ ap (λ (q : Run _). take (vec_len q.parts.stack - 3) q.parts.stack.items ++ I32 (pos c.args.status) ∷ []) c.restore.ensures ∙ ap (λ n. take (n - 3) l.parts.stack.items ++ I32 (pos c.args.status) ∷ []) l.parts.stack.ok.0)
    (view b p) (tail_of (args_of args l.argument) x) come.frees come.ordered (λ e. c.settle_all.ensures.ready (items_nil p.code.now e)) (last_of (args_of args l.argument) p x c.settle_all.ensures.last)
    c.record_step.new.trace.items recorded l.asked))
