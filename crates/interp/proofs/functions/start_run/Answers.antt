use Rattle.std.proofs.Common.{ap, ◌∙◌, sym, subst, length}
use Rattle.interp_state.specs.Callee.{base_of}
use Rattle.interp_state.specs.Views.{view}
use Rattle.interp_state.specs.Waiting.{tail_of}
use Rattle.interp.specs.Run.{seen, args_of}
use Rattle.interp.specs.Machine.{HasRoom}
use Rattle.interp.specs.declared.turns.Status.{Status}
use Rattle.interp_state.specs.ViewLaws.{items_nil, last_of}
use Rattle.interp.proofs.Beginning.{start_calling, start_own, machine_entered, has_entered, has_started}
use Rattle.interp.proofs.functions.start_run.Goals as goal

pub start_function-requires-clause-call : goal.start_function-requires-clause-call
start_function-requires-clause-call g c =
    let r = c.args.run.now in
    let f = c.requires.first in
    record {
      calling = start_calling (seen r) f.view f.begun.opens f.begun.safe f.reached f.within c.in-Some.start c.in-Some.is;
      counted = f.counted;
      suits = f.begun.suits;
      waits = f.begun.waits;
      place = f.begun.place;
      around = f.begun.around;
      entered = f.begun.entered;
      room = f.room;
    }

pub start_function-requires-clause-defined : goal.start_function-requires-clause-defined
start_function-requires-clause-defined g c =
    let r = c.args.run.now in
    let f = c.requires.first in
    start_own (seen r).contract.deployed c.in-Some.start f.linked c.in-Some.is

pub returns-in-Some-clause-begun : goal.returns-in-Some-clause-begun
returns-in-Some-clause-begun g c =
    let r = c.args.run.now in
    let f = c.requires.first in
    has_started (seen r) f.view f.begun.opens f.begun.safe f.reached f.within c.in-Some.start c.in-Some.is c.start_function.result (seen c.start_function.new.run) c.start_function.ensures.turn

pub returns-in-None-clause-kept : goal.returns-in-None-clause-kept
returns-in-None-clause-kept g c =
    let r = c.args.run.now in
    let f = c.requires.first in
    let b = base_of r.lent in
    let q = c.settle_all.new.parts in
    let x = c.settle_all.new.waiting in
    let come = c.settle_all.ensures.comes (seen r).contract (args_of r.call.now.args r.argument) b f.begun.waits in
    record {
      machine = machine_entered (seen r) f.view f.begun.opens f.begun.safe f.reached f.within c.in-None.is f.running (view b q) (tail_of (args_of r.call.now.args r.argument) x) come.frees come.ordered (λ e. c.settle_all.ensures.ready (items_nil q.code.now e)) (last_of (args_of r.call.now.args r.argument) q x c.settle_all.ensures.last);
      counted = c.settle_all.ensures.counted;
      suits = ap (λ i. i.memory.max) c.settle_all.ensures.instance ∙ f.begun.suits;
      waits = come.waits;
      place = c.settle_all.ensures.place;
      around = f.begun.around;
      entered = f.begun.entered;
      room = subst (λ (x : Status). HasRoom x (length r.outer.items) r.trace) (sym f.running) f.room;
    }

pub returns-in-None-clause-begun : goal.returns-in-None-clause-begun
returns-in-None-clause-begun g c =
    let r = c.args.run.now in
    let f = c.requires.first in
    let b = base_of r.lent in
    let q = c.settle_all.new.parts in
    let x = c.settle_all.new.waiting in
    let come = c.settle_all.ensures.comes (seen r).contract (args_of r.call.now.args r.argument) b f.begun.waits in
    has_entered (seen r) f.view f.begun.opens f.begun.safe f.reached f.within c.in-None.is f.running (view b q) (tail_of (args_of r.call.now.args r.argument) x) come.frees come.ordered (λ e. c.settle_all.ensures.ready (items_nil q.code.now e)) (last_of (args_of r.call.now.args r.argument) q x c.settle_all.ensures.last)
