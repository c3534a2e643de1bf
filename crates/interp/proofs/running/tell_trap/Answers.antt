use Rattle.std.proofs.Common.{◌∙◌, sym, subst, length, ℕ}
use Rattle.spec_ledger.specs.declared.Outcome.TheVariants.{Trapped}
use Rattle.interp.specs.declared.turns.Status.{Status}
use Rattle.interp.specs.declared.turns.Turn.{Turn}
use Rattle.interp.specs.Progress.{NextIs}
use Rattle.interp.specs.Machine.{IsLeaving, HasRoom, progress}
use Rattle.interp.specs.Run.{seen}
use Rattle.interp.proofs.Around.{some_around, told_end, told_left}
use Rattle.interp.proofs.Leaving.{leaving_dropped}
use Rattle.interp.proofs.Outermost.{none_around, one_around}
use Rattle.interp.proofs.Turning.{machine_told, has_told}
use Rattle.interp.proofs.running.tell_trap.Goals as goal

pub leave-requires-clause-leaving : goal.leave-requires-clause-leaving
leave-requires-clause-leaving g c =
    let r = c.args.run.now in
    subst (λ (n : ℕ). IsLeaving (seen r) n _ _) (sym c.status_of.ensures)
    (leaving_dropped (seen r) c.requires.kept.machine c.args.code c.requires.fallen (some_around (seen r).outer (one_around r.call.now.args r.outer.items r.outer.ok.0 (sym c.is_empty.ensures ∙ c.if-is_empty.false))))

pub leave-requires-clause-room : goal.leave-requires-clause-room
leave-requires-clause-room g c =
    let r = c.args.run.now in
    subst (λ (x : Status). HasRoom x (length r.outer.items) r.trace) c.requires.fallen c.requires.kept.room

pub returns-then-is_empty-clause-kept : goal.returns-then-is_empty-clause-kept
returns-then-is_empty-clause-kept g c =
    let r = c.args.run.now in
    record {
      machine = machine_told (seen r) c.requires.kept.machine c.args.code c.requires.fallen (none_around r.call.now.args r.outer.items r.outer.ok.0 (sym c.is_empty.ensures ∙ c.if-is_empty.true));
      counted = c.requires.kept.counted;
      suits = c.requires.kept.suits;
      waits = c.requires.kept.waits;
      place = c.requires.kept.place;
      around = c.requires.kept.around;
      entered = c.requires.kept.entered;
      room = subst (λ (x : Status). HasRoom x (length r.outer.items) r.trace) c.requires.fallen c.requires.kept.room;
    }

pub returns-then-is_empty-clause-turn : goal.returns-then-is_empty-clause-turn
returns-then-is_empty-clause-turn g c =
    let r = c.args.run.now in
    has_told (seen r) c.requires.kept.machine c.args.code c.requires.fallen (none_around r.call.now.args r.outer.items r.outer.ok.0 (sym c.is_empty.ensures ∙ c.if-is_empty.true))

pub returns-then-is_empty-clause-told : goal.returns-then-is_empty-clause-told
returns-then-is_empty-clause-told g c =
    let r = c.args.run.now in
    told_end (Trapped c.args.code) (seen r).outer (none_around r.call.now.args r.outer.items r.outer.ok.0 (sym c.is_empty.ensures ∙ c.if-is_empty.true))

pub returns-else-is_empty-clause-turn : goal.returns-else-is_empty-clause-turn
returns-else-is_empty-clause-turn g c = subst (λ (a : Turn). NextIs (progress (seen c.args.run.now)) a (progress (seen c.leave.new.run))) (sym c.leave.ensures.told) c.leave.ensures.turn

pub returns-else-is_empty-clause-told : goal.returns-else-is_empty-clause-told
returns-else-is_empty-clause-told g c =
    let r = c.args.run.now in
    told_left _ (Trapped c.args.code) (seen r).outer (one_around r.call.now.args r.outer.items r.outer.ok.0 (sym c.is_empty.ensures ∙ c.if-is_empty.false)) c.leave.ensures.told
