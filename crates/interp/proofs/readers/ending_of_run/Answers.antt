use Rattle.std.proofs.Common.{◌≡◌, ap, ◌∙◌, ◌-◌, sym, subst, refl, length, slice_get, true≢false, Some}
use Rattle.std.specs.Prelude.{◌==◌}
use Rattle.spec_ledger.specs.declared.Outcome.TheVariants.{Returned, OutOfFuel}
use Rattle.interp.specs.declared.turns.Status.{Status}
use Rattle.interp.specs.Machine.{on, progress}
use Rattle.interp.specs.MachineViews.{ending}
use Rattle.interp.specs.Run.{seen}
use Rattle.interp_state.specs.Views.{items_of}
use Rattle.interp_state.specs.ViewLaws.{items_nil}
use Rattle.interp.proofs.Outermost.{no_items, none_around, one_around}
use Rattle.interp.proofs.Turning.{result_last}
use Rattle.interp.proofs.Outlook.{ends_returned, ends_level, ends_exhausted, goes_on, asks_on, tells_end, tells_fall, falls_on}
use Rattle.interp.proofs.readers.ending_of_run.Goals as goal

pub returns-then-is_empty : goal.returns-then-is_empty
returns-then-is_empty g c o =
    let r = c.args.run.now in
    sym (tells_fall (seen r) c.in-Fallen.code c.in-Fallen.is (none_around r.call.now.args r.outer.items r.outer.ok.0 (sym c.is_empty.ensures ∙ c.if-is_empty.true)))

pub returns-else-is_empty : goal.returns-else-is_empty
returns-else-is_empty g c o =
    let r = c.args.run.now in
    sym (falls_on (seen r) c.in-Fallen.code c.in-Fallen.is (one_around r.call.now.args r.outer.items r.outer.ok.0 (sym c.is_empty.ensures ∙ c.if-is_empty.false)))

pub returns-in-Closing : goal.returns-in-Closing
returns-in-Closing g c o = let s = seen c.args.run.now in subst (λ (x : Status). Some OutOfFuel ≡ ending (progress (on s x))) (sym c.in-Closing.is) refl

pub returns-then-is_empty-3 : goal.returns-then-is_empty-3
returns-then-is_empty-3 g c o =
    let r = c.args.run.now in
    ap (λ v. Some (Returned v)) (c.copied.ensures ∙ c.last.ensures.value ∙ ap (λ xs. slice_get xs (length xs - 1)) c.deref.ensures.value ∙ result_last r.parts.stack.items)
    ∙ sym (ends_returned (seen r) c.requires.machine c.in-Running.is (ap items_of (no_items r.parts.code.now (sym c.is_empty-in-Running.ensures ∙ c.if-is_empty-2.true))) (none_around r.call.now.args r.outer.items r.outer.ok.0 (sym c.is_empty-then-is_empty-2.ensures ∙ c.if-is_empty-3.true)))

pub returns-else-is_empty-3 : goal.returns-else-is_empty-3
returns-else-is_empty-3 g c o =
    let r = c.args.run.now in
    sym (ends_level (seen r) c.requires.machine c.in-Running.is (ap items_of (no_items r.parts.code.now (sym c.is_empty-in-Running.ensures ∙ c.if-is_empty-2.true)))
    (one_around r.call.now.args r.outer.items r.outer.ok.0 (sym c.is_empty-then-is_empty-2.ensures ∙ c.if-is_empty-3.false)))

pub returns-then-run-fuel : goal.returns-then-run-fuel
returns-then-run-fuel g c o =
    let r = c.args.run.now in
    sym (ends_exhausted (seen r) c.requires.machine c.in-Running.is (λ e. true≢false (sym (ap (λ xs. length xs == 0) (items_nil r.parts.code.now e)) ∙ (sym c.is_empty-in-Running.ensures ∙ c.if-is_empty-2.false)))
    (c.if-run-fuel.true ∙ c.fuel.ensures))

pub returns-else-run-fuel : goal.returns-else-run-fuel
returns-else-run-fuel g c o =
    let r = c.args.run.now in
    sym (goes_on (seen r) c.requires.machine c.in-Running.is (λ e. true≢false (sym (ap (λ xs. length xs == 0) (items_nil r.parts.code.now e)) ∙ (sym c.is_empty-in-Running.ensures ∙ c.if-is_empty-2.false)))
    (λ e. c.if-run-fuel.false (e ∙ sym c.fuel.ensures)))

pub returns-in-Asking : goal.returns-in-Asking
returns-in-Asking g c o = sym (asks_on (seen c.args.run.now) c.requires.machine c.in-Asking.field-0 c.in-Asking.is)

pub returns-in-Ended : goal.returns-in-Ended
returns-in-Ended g c o = sym (tells_end (seen c.args.run.now) c.in-Ended.outcome c.in-Ended.is)
