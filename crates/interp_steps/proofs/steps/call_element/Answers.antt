use Rattle.std.proofs.Common.{◌≡◌, refl, sym, ap, ◌∙◌, subst, arith, Ok, Err, Some}
use Rattle.std.specs.Prelude.{IsSome}
use Rattle.spec_modules.specs.Operators.{bits_of}
use Rattle.interp_state.specs.Callee.{contract_of}
use Rattle.interp_state.specs.Elements.{element_called}
use Rattle.interp_state.specs.Views.{view, items_of}
use Rattle.interp_steps.proofs.Selecting.{element_place, element_there, element_calls, element_falls}
use Rattle.interp_steps.proofs.steps.call_element.Goals as goal

pub pop_top-requires : goal.pop_top-requires
pop_top-requires g c =
    let r = c.requires.ready in
    omega (arith, (element_place (contract_of c.args.lent.now) (view r.base c.args.parts.now) r.safe (r.ordered r.base) c.requires.here.ordinal (items_of c.args.rest.now) c.args.type_index c.requires.here.here).0, c.args.parts.now.stack.ok.0)

pub function_of_element-requires : goal.function_of_element-requires
function_of_element-requires g c =
    let k = contract_of c.args.lent.now in
    let r = c.requires.ready in
    let number : bits_of c.pop_top.result ≡ c.bits-element.result = sym c.bits-element.ensures in
    subst (λ x. IsSome (element_called k.deployed c.args.parts.now.instance.table.now x c.args.type_index)) number
    (element_there k (view r.base c.args.parts.now) r.safe (r.ordered r.base) c.requires.here.ordinal (items_of c.args.rest.now) c.args.type_index c.requires.here.here c.pop_top.new.stack.items c.pop_top.result c.pop_top.ensures.items)

pub returns-in-Ok-clause-led : goal.returns-in-Ok-clause-led
returns-in-Ok-clause-led g c b safe suits =
    let k = contract_of c.args.lent.now in
    let o = c.requires.ready.ordered b in
    let table = c.args.parts.now.instance.table.now in
    let is = items_of c.args.rest.now in
    let found : element_called k.deployed table (bits_of c.pop_top.result) c.args.type_index ≡ Some (Ok c.in-Ok.func) =
    ap (λ x. element_called k.deployed table x c.args.type_index) (sym c.bits-element.ensures) ∙ c.function_of_element.ensures ∙ ap Some c.in-Ok.is in
    element_calls k (view b c.args.parts.now) safe o c.requires.here.ordinal is c.args.type_index c.requires.here.here c.pop_top.new.stack.items c.pop_top.result c.pop_top.ensures.items c.in-Ok.func found
    _ refl refl refl refl refl

pub returns-in-Err-clause-led : goal.returns-in-Err-clause-led
returns-in-Err-clause-led g c b safe suits =
    let k = contract_of c.args.lent.now in
    let o = c.requires.ready.ordered b in
    let table = c.args.parts.now.instance.table.now in
    let is = items_of c.args.rest.now in
    let found : element_called k.deployed table (bits_of c.pop_top.result) c.args.type_index ≡ Some (Err c.in-Err.code) =
    ap (λ x. element_called k.deployed table x c.args.type_index) (sym c.bits-element.ensures) ∙ c.function_of_element.ensures ∙ ap Some c.in-Err.is in
    element_falls k (view b c.args.parts.now) safe o c.requires.here.ordinal is c.args.type_index c.requires.here.here c.pop_top.new.stack.items c.pop_top.result c.pop_top.ensures.items c.in-Err.code found
    _ refl refl refl
