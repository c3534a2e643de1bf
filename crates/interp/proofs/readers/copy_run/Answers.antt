use Rattle.std.proofs.Common.{ℤ, List, ap, ap₂, ◌∙◌, sym, subst, length, arith, rules, w64, SFits}
use Rattle.std.proofs.lemmas.Int.{to_z-of_z}
use Rattle.spec_ledger.specs.declared.TraceStep.{TraceStep}
use Rattle.spec_execution.specs.Configuration.{Contract, Seq}
use Rattle.spec_execution.specs.Levels as spec
use Rattle.spec_execution.specs.Levels.{asks_in}
use Rattle.interp.specs.declared.run.Level.{Level}
use Rattle.laws_reduction.specs.Meaning.{View}
use Rattle.interp_state.specs.declared.callee.Callee.{Callee}
use Rattle.interp_state.specs.Callee.{base_of, contract_of}
use Rattle.interp_state.specs.Views.{view}
use Rattle.interp.specs.Machine.{Seen, IsMachine, HasRoom}
use Rattle.interp.specs.Run.{seen, args_of, levels_of, AreCopiesOf}
use Rattle.interp_steps.specs.Steps.{Suits}
use Rattle.interp_state.specs.Waiting.{tail_of, Waits}
use Rattle.interp_state.specs.CopyLaws.{same_view, same_counted, same_tail, same_waits, same_place}
use Rattle.interp.proofs.Copying.{room_for, levels_same, all_around, as_long}
use Rattle.interp.proofs.readers.copy_run.Goals as goal

-- The copied fields are put back one after another: the answer, the contract, the parts with the trace, what waits, the levels around.
pub returns-clause-same : goal.returns-clause-same
returns-clause-same g c =
    let r = c.args.run.now in
    let s : Seen = seen r in
    let lent = c.copy_lent.result in
    let q = c.in_ok-copy_parts.field-0 in
    let w = c.in_ok-copy_waiting.field-0 in
    let outer = c.in_ok-copy_levels.field-0 in
    let tail : Seq = tail_of (args_of r.call.now.args r.argument) w in
    let fits : SFits w64 r.answer = search rules in
    ap (λ (z : ℤ). record s { trace = c.in_ok-copy_trace.field-0.items; contract = contract_of lent; view = view (base_of lent) q; tail = tail; answer = z; outer = levels_of r.call.now.args outer.items }) (to_z-of_z w64 r.answer fits)
    ∙ ap₂ (λ (k : Contract) (v : View). record s { trace = c.in_ok-copy_trace.field-0.items; contract = k; view = v; tail = tail; outer = levels_of r.call.now.args outer.items }) (ap contract_of c.copy_lent.ensures) (ap (λ (x : Callee g.row.A.Denot). view (base_of x) q) c.copy_lent.ensures)
    ∙ ap₂ (λ (t : List TraceStep) (v : View). record s { trace = t; view = v; tail = tail; outer = levels_of r.call.now.args outer.items }) (c.in_ok-copy_trace.ensures.same ∙ c.deref.ensures.value) (same_view r.parts q c.in_ok-copy_parts.ensures (base_of r.lent))
    ∙ ap₂ (λ (x : Seq) (ls : List spec.Level). record s { tail = x; outer = ls }) (same_tail (args_of r.call.now.args r.argument) r.waiting w c.in_ok-copy_waiting.ensures) (levels_same r.call.now.args r.outer.items outer.items (subst (λ (xs : List (Level g.row.A.Denot)). AreCopiesOf xs outer.items) c.deref-2.ensures.value c.in_ok-copy_levels.ensures))

pub returns-clause-kept : goal.returns-clause-kept
returns-clause-kept g c =
    let r = c.args.run.now in
    let outer = c.in_ok-copy_levels.field-0 in
    let copies : AreCopiesOf r.outer.items outer.items = subst (λ (xs : List (Level g.row.A.Denot)). AreCopiesOf xs outer.items) c.deref-2.ensures.value c.in_ok-copy_levels.ensures in
    record {
      machine = subst IsMachine (sym (returns-clause-same g c)) c.requires.machine;
      counted = same_counted r.parts c.in_ok-copy_parts.field-0 c.in_ok-copy_parts.ensures c.requires.counted;
      suits = subst (λ (x : Callee g.row.A.Denot). Suits (contract_of x) c.in_ok-copy_parts.field-0) (sym c.copy_lent.ensures) (ap (λ m. m.max) c.in_ok-copy_parts.ensures.instance.memory ∙ c.requires.suits);
      waits = subst (λ (x : Callee g.row.A.Denot). Waits (contract_of x) (args_of r.call.now.args r.argument) c.in_ok-copy_waiting.field-0) (sym c.copy_lent.ensures) (same_waits (contract_of r.lent) (args_of r.call.now.args r.argument) r.waiting c.in_ok-copy_waiting.field-0 c.in_ok-copy_waiting.ensures c.requires.waits);
      place = same_place r.waiting c.in_ok-copy_waiting.field-0 c.in_ok-copy_waiting.ensures c.requires.place;
      around = all_around r.call.now.args r.outer.items outer.items copies c.requires.around;
      entered = c.requires.entered ∙ ap asks_in (sym (c.in_ok-copy_trace.ensures.same ∙ c.deref.ensures.value));
      room = subst (λ n. HasRoom r.status n c.in_ok-copy_trace.field-0) (sym (as_long r.outer.items outer.items copies)) (room_for r.status (length r.outer.items) c.in_ok-copy_trace.field-0 (omega (arith, c.in_ok-copy_trace.ensures.room, c.len.ensures, r.outer.ok.0)));
    }
