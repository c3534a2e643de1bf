use Rattle.std.proofs.Common.{sym, ap, ◌∙◌, arith, subst, List}
use Rattle.spec_ledger.specs.declared.TraceStep.{TraceStep}
use Rattle.spec_execution.specs.Levels.{asks_in}
use Rattle.interp.specs.declared.turns.Status.TheVariants.{Asking}
use Rattle.interp.specs.Machine.{IsMachine}
use Rattle.interp.specs.Run.{seen}
use Rattle.interp.proofs.Asking.{machine_asking}
use Rattle.interp.proofs.imports.ask_host.Goals as goal

pub returns-clause-kept : goal.returns-clause-kept
returns-clause-kept g c =
    let s = seen c.args.run.now in
    record {
      machine = subst (λ (t : List TraceStep). IsMachine (record s { trace = t; status = Asking c.args.op })) (sym c.reserve.ensures.items) (machine_asking s s.asked c.requires.call.calling c.args.op c.requires.wished.room c.requires.wished.asks);
      counted = c.requires.call.counted;
      suits = c.requires.call.suits;
      waits = c.requires.call.waits;
      place = c.requires.call.place;
      around = c.requires.call.around;
      entered = c.requires.call.entered ∙ ap asks_in (sym c.reserve.ensures.items);
      room = search (arith, c.reserve.ensures.capacity, c.reserve.ensures.succeeds, c.reserve.ensures.len);
    }
