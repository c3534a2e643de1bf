use Rattle.std.proofs.Common.{ap, ◌∙◌, ◌-◌, length, slice_get, subst}
use Rattle.interp.specs.declared.turns.Status.{Status}
use Rattle.interp.specs.Machine.{HasRoom}
use Rattle.interp.specs.Run.{seen, levels_of}
use Rattle.interp_state.specs.Views.{items_of}
use Rattle.interp.proofs.Turning.{machine_returned, has_returned, result_last}
use Rattle.interp.proofs.running.give_result.Goals as goal

pub returns-clause-kept : goal.returns-clause-kept
returns-clause-kept g c =
    let r = c.args.run.now in
    let s = seen r in
    let k = c.requires.kept in
    record {
      machine = machine_returned s k.machine c.requires.running (ap items_of c.requires.at_end) (ap (levels_of r.call.now.args) c.requires.outermost) c.copied.result (c.copied.ensures ∙ c.last.ensures.value ∙ ap (λ xs. slice_get xs (length xs - 1)) c.deref.ensures.value ∙ result_last r.parts.stack.items);
      counted = k.counted;
      suits = k.suits;
      waits = k.waits;
      place = k.place;
      around = k.around;
      entered = k.entered;
      room = subst (λ (x : Status). HasRoom x (length r.outer.items) r.trace) c.requires.running k.room;
    }

pub returns-clause-turn : goal.returns-clause-turn
returns-clause-turn g c =
    let r = c.args.run.now in
    let s = seen r in
    has_returned s c.requires.kept.machine c.requires.running (ap items_of c.requires.at_end) (ap (levels_of r.call.now.args) c.requires.outermost) c.copied.result (c.copied.ensures ∙ c.last.ensures.value ∙ ap (λ xs. slice_get xs (length xs - 1)) c.deref.ensures.value ∙ result_last r.parts.stack.items)
