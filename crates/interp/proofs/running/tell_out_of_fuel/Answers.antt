use Rattle.std.proofs.Common.{◌∙◌, sym, subst}
use Rattle.spec_ledger.specs.declared.Outcome.TheVariants.{OutOfFuel}
use Rattle.interp.specs.declared.turns.Turn.{Turn}
use Rattle.interp.specs.Progress.{NextIs}
use Rattle.interp.specs.Machine.{progress}
use Rattle.interp.specs.Run.{seen}
use Rattle.interp.proofs.Around.{told_end, told_left}
use Rattle.interp.proofs.Outermost.{none_around, one_around}
use Rattle.interp.proofs.Turning.{machine_exhausted, has_exhausted}
use Rattle.interp.proofs.running.tell_out_of_fuel.Goals as goal

pub close-requires-clause-closes : goal.close-requires-clause-closes
close-requires-clause-closes g c =
    let r = c.args.run.now in
    record { shut = c.requires.shut; stops = c.requires.stops; some = one_around r.call.now.args r.outer.items r.outer.ok.0 (sym c.is_empty.ensures ∙ c.if-is_empty.false) }

pub returns-then-is_empty-clause-kept : goal.returns-then-is_empty-clause-kept
returns-then-is_empty-clause-kept g c =
    let r = c.args.run.now in
    record {
      machine = machine_exhausted (seen r) c.requires.kept.machine.opens c.requires.kept.machine.safe c.requires.shut (none_around r.call.now.args r.outer.items r.outer.ok.0 (sym c.is_empty.ensures ∙ c.if-is_empty.true));
      counted = c.requires.kept.counted;
      suits = c.requires.kept.suits;
      waits = c.requires.kept.waits;
      place = c.requires.kept.place;
      around = c.requires.kept.around;
      entered = c.requires.kept.entered;
      room = c.requires.room;
    }

pub returns-then-is_empty-clause-turn : goal.returns-then-is_empty-clause-turn
returns-then-is_empty-clause-turn g c =
    let r = c.args.run.now in
    has_exhausted (seen r) c.requires.kept.machine.opens c.requires.kept.machine.safe c.requires.shut (none_around r.call.now.args r.outer.items r.outer.ok.0 (sym c.is_empty.ensures ∙ c.if-is_empty.true)) c.requires.stops

pub returns-then-is_empty-clause-told : goal.returns-then-is_empty-clause-told
returns-then-is_empty-clause-told g c =
    let r = c.args.run.now in
    told_end OutOfFuel (seen r).outer (none_around r.call.now.args r.outer.items r.outer.ok.0 (sym c.is_empty.ensures ∙ c.if-is_empty.true))

pub returns-else-is_empty-clause-turn : goal.returns-else-is_empty-clause-turn
returns-else-is_empty-clause-turn g c = subst (λ (a : Turn). NextIs (progress (seen c.args.run.now)) a (progress (seen c.close.new.run))) (sym c.close.ensures.told) c.close.ensures.turn

pub returns-else-is_empty-clause-told : goal.returns-else-is_empty-clause-told
returns-else-is_empty-clause-told g c =
    let r = c.args.run.now in
    told_left _ OutOfFuel (seen r).outer (one_around r.call.now.args r.outer.items r.outer.ok.0 (sym c.is_empty.ensures ∙ c.if-is_empty.false)) c.close.ensures.told
