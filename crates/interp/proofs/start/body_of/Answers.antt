use Rattle.std.proofs.Common.{◌≡◌, ◌-◌, ◌≤◌, length, slice_get, refl, sym, ap, ap₂, ◌∙◌, arith, Some, None}
use Rattle.std.proofs.lemmas.Option.{slice_get_past, slice_get_read}
use Rattle.module_tree.specs.View.{instrs_view}
use Rattle.module_tree.specs.Modules.{module_view}
use Rattle.spec_execution.specs.Configuration.{function_at}
use Rattle.spec_execution.specs.Places.{body_of_function}
use Rattle.interp.proofs.Bodies.{own_body, no_body}
use Rattle.interp.proofs.start.body_of.Goals as goal

pub returns-in-Some-get-2 : goal.returns-in-Some-get-2
returns-in-Some-get-2 g c =
    let m = c.module-tree.result.now in
    let hosts = c.hosts.result.now in
    let own = c.in-Some.own in
    let f = c.in-Some-get.function.now in
    let t = c.in-Some-get-2.field-0.now in
    let is = c.in-Some.ensures in
    let le : length hosts ≤ c.args.func = omega arith in
    let at : own ≡ c.args.func - length hosts = omega arith in
    let func = c.in-Some-get.ensures.lookup in
    let type = c.in-Some-get-2.ensures.lookup in
    let found : slice_get m.funcs.items own ≡ Some f = ap (λ fs. slice_get fs own) (sym c.deref.ensures.value) ∙ slice_get_read c.deref.result.now (length c.deref.result.now) own f refl func.3.0 func.1 in
    let typed : slice_get m.types.items f.type_index ≡ Some t = ap (λ ts. slice_get ts f.type_index) (sym c.deref-2.ensures.value) ∙ slice_get_read c.deref-2.result.now (length c.deref-2.result.now) f.type_index t refl type.3.0 type.1 in
    ap instrs_view c.deref-in-Some-get-2.ensures.value
    ∙ own_body m hosts c.args.func le f (ap (slice_get m.funcs.items) (sym at) ∙ found) t typed
    ∙ ap₂ (λ tree hs. body_of_function (function_at (record { tree = module_view tree; hosts = hs }) c.args.func)) c.module-tree.ensures c.hosts.ensures

pub returns-in-None : goal.returns-in-None
returns-in-None g c =
    let m = c.module-tree.result.now in
    let hosts = c.hosts.result.now in
    let own = c.in-Some.own in
    let f = c.in-Some-get.function.now in
    let is = c.in-Some.ensures in
    let le : length hosts ≤ c.args.func = omega arith in
    let at : own ≡ c.args.func - length hosts = omega arith in
    let func = c.in-Some-get.ensures.lookup in
    let found : slice_get m.funcs.items own ≡ Some f = ap (λ fs. slice_get fs own) (sym c.deref.ensures.value) ∙ slice_get_read c.deref.result.now (length c.deref.result.now) own f refl func.3.0 func.1 in
    let none : slice_get m.types.items f.type_index ≡ None = ap (λ ts. slice_get ts f.type_index) (sym c.deref-2.ensures.value) ∙ slice_get_past c.deref-2.result.now f.type_index c.in-None.ensures.lookup.3 in
    no_body m hosts c.args.func le f (ap (slice_get m.funcs.items) (sym at) ∙ found) none
    ∙ ap₂ (λ tree hs. body_of_function (function_at (record { tree = module_view tree; hosts = hs }) c.args.func)) c.module-tree.ensures c.hosts.ensures
