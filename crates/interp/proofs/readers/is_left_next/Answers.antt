use Rattle.std.proofs.Common.{ap, ◌∙◌, sym, true≢false, length, refl, subst}
use Rattle.std.specs.Prelude.{◌==◌}
use Rattle.interp.specs.Progress.{GoesOn}
use Rattle.interp.specs.Run.{seen}
use Rattle.interp_state.specs.Views.{items_of}
use Rattle.interp_state.specs.ViewLaws.{items_nil}
use Rattle.interp.proofs.Outermost.{no_items, none_around, one_around}
use Rattle.interp.proofs.LeftNext.{not_left_alone, left_by_code, left_fallen}
use Rattle.interp.proofs.readers.is_left_next.Goals as goal

pub returns-then-is_empty : goal.returns-then-is_empty
returns-then-is_empty g c goes =
    let r = c.args.run.now in (
      λ e. absurd (true≢false (sym e)),
      λ left. absurd (not_left_alone (seen r) c.requires.machine (none_around r.call.now.args r.outer.items r.outer.ok.0 (sym c.is_empty.ensures ∙ c.if-is_empty.true)) goes left),
    )

pub returns-in-Running : goal.returns-in-Running
returns-in-Running g c goes =
    let r = c.args.run.now in
    left_by_code (seen r) c.requires.machine c.in-Running.is (one_around r.call.now.args r.outer.items r.outer.ok.0 (sym c.is_empty.ensures ∙ c.if-is_empty.false))
    c.is_empty-in-Running.result (λ e. ap items_of (no_items r.parts.code.now (sym c.is_empty-in-Running.ensures ∙ e))) (λ e h. true≢false (sym (ap (λ xs. length xs == 0) (items_nil r.parts.code.now h)) ∙ (sym c.is_empty-in-Running.ensures ∙ e)))

pub returns-in-Fallen : goal.returns-in-Fallen
returns-in-Fallen g c goes =
    let r = c.args.run.now in (
      λ e. left_fallen (seen r) c.requires.machine c.in-Fallen.field-0 c.in-Fallen.is (one_around r.call.now.args r.outer.items r.outer.ok.0 (sym c.is_empty.ensures ∙ c.if-is_empty.false)),
      λ left. refl,
    )

pub returns-in-Asking : goal.returns-in-Asking
returns-in-Asking g c goes = absurd (subst GoesOn c.in-Asking.is goes)

pub returns-in-Closing : goal.returns-in-Closing
returns-in-Closing g c goes = absurd (subst GoesOn c.in-Closing.is goes)

pub returns-in-Ended : goal.returns-in-Ended
returns-in-Ended g c goes = absurd (subst GoesOn c.in-Ended.is goes)

pub returns-in-NoMemory : goal.returns-in-NoMemory
returns-in-NoMemory g c goes = absurd (subst GoesOn c.in-NoMemory.is goes)
