-- Not checked: the names of the goals are guessed; `rt check --start is_place` tells them.
use Rattle.std.proofs.Common.{◌≡◌, Some, length, slice_get, refl, sym, ap, ◌∙◌, false, true≢false}
use Rattle.std.specs.Prelude.{is_some}
use Rattle.std.proofs.lemmas.Option.{slice_get_read, slice_get_past}
use Rattle.module_tree.specs.Modules.{module_view}
use Rattle.debugger.specs.Breaks.{instr_of}
use Rattle.debugger.proofs.Finding.{there, nowhere, is_found}
use Rattle.debugger.proofs.session.is_place.Goals as goal

pub returns-in-Some : goal.returns-in-Some
returns-in-Some g c =
    let lent = c.contracts.result.now in
    let place = c.args.place in
    let item = c.in-Some.ensures.lookup in
    let found : slice_get lent place.contract ≡ Some c.in-Some.contract.now = slice_get_read lent (length lent) place.contract c.in-Some.contract.now refl item.3.0 item.1 in
    is_found _ c.instr_at.result _ c.is_some.result c.is_some.ensures
    (c.instr_at.ensures.view ∙ ap (λ m. instr_of (module_view m) place.func place.ordinal) c.module.ensures ∙ sym (there lent _ c.contracts.ensures place c.in-Some.contract.now found))

pub returns-in-None : goal.returns-in-None
returns-in-None g c =
    let lent = c.contracts.result.now in
    let place = c.args.place in
    let none = nowhere lent _ c.contracts.ensures place (slice_get_past lent place.contract c.in-None.ensures.lookup.3) in
    ((λ e. absurd (true≢false (sym e))), λ some. absurd (true≢false (sym some ∙ ap is_some none)))
