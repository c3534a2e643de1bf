use Rattle.std.proofs.Common.{◌-◌, ℤ, true, sym, ap, ◌∙◌, subst, length, slice_get, rules, w64, SFits}
use Rattle.std.proofs.lemmas.Int.{to_z-of_z}
use Rattle.interp.specs.declared.turns.Status.{Status}
use Rattle.interp.specs.declared.turns.Turn.{Turn}
use Rattle.interp.specs.Progress.{NextIs}
use Rattle.interp.specs.Machine.{IsLeaving, HasRoom, progress}
use Rattle.interp.specs.HostRequests.{number_of}
use Rattle.interp.specs.Run.{seen}
use Rattle.interp_state.specs.Views.{items_of}
use Rattle.interp.proofs.Around.{some_around}
use Rattle.interp.proofs.Leaving.{leaving_kept}
use Rattle.interp.proofs.Outermost.{none_at, one_around}
use Rattle.interp.proofs.Turning.{result_last}
use Rattle.interp.proofs.running.end_level.Goals as goal

pub give_result-requires-clause-outermost : goal.give_result-requires-clause-outermost
give_result-requires-clause-outermost g c = none_at c.args.run.now.outer.items c.args.run.now.outer.ok.0 (sym c.is_empty.ensures ∙ c.if-is_empty.true)

-- there is a level around, and what the innermost leaves is its answer
pub leave-requires-clause-leaving : goal.leave-requires-clause-leaving
leave-requires-clause-leaving g c =
    let r = c.args.run.now in
    let fits : SFits w64 c.number-answer.result = search rules in
    subst (λ (z : ℤ). IsLeaving (seen r) 0 z true) (sym (to_z-of_z w64 c.number-answer.result fits))
    (leaving_kept (seen r) c.requires.kept.machine c.requires.running (ap items_of c.requires.at_end)
    (some_around (seen r).outer (one_around r.call.now.args r.outer.items r.outer.ok.0 (sym c.is_empty.ensures ∙ c.if-is_empty.false)))
    c.number-answer.result (c.number-answer.ensures ∙ ap number_of (c.copied.ensures ∙ c.last.ensures.value ∙ ap (λ xs. slice_get xs (length xs - 1)) c.deref.ensures.value ∙ result_last r.parts.stack.items)))

pub leave-requires-clause-room : goal.leave-requires-clause-room
leave-requires-clause-room g c =
    let r = c.args.run.now in
    subst (λ (x : Status). HasRoom x (length r.outer.items) r.trace) c.requires.running c.requires.kept.room

pub returns-else-is_empty-clause-turn : goal.returns-else-is_empty-clause-turn
returns-else-is_empty-clause-turn g c = subst (λ (a : Turn). NextIs (progress (seen c.args.run.now)) a (progress (seen c.leave.new.run))) (sym c.leave.ensures.told) c.leave.ensures.turn
