use Rattle.std.proofs.Common.{◌∙◌, sym, ap}
use Rattle.spec_modules.specs.Operators.{type_of}
use Rattle.laws_reduction.specs.Plain.{at_once}
use Rattle.laws_reduction.specs.Topmost.{two_popped, last_two}
use Rattle.interp_state.proofs.Doing.{did_binary, fell_binary}
use Rattle.interp_state.proofs.plain.execute_binary.Goals as goal

pub binary-requires-clause-first_type : goal.binary-requires-clause-first_type
binary-requires-clause-first_type g c =
    let here = two_popped _ _ _ _ _ c.pop_top-second.ensures.items c.pop_top-first.ensures.items in
    ap type_of (last_two _ _ _ _ _ _ (sym here ∙ c.requires.before)).0 ∙ c.requires.first

pub binary-requires-clause-second_type : goal.binary-requires-clause-second_type
binary-requires-clause-second_type g c =
    let here = two_popped _ _ _ _ _ c.pop_top-second.ensures.items c.pop_top-first.ensures.items in
    ap type_of (last_two _ _ _ _ _ _ (sym here ∙ c.requires.before)).1 ∙ c.requires.second

pub returns-in-Ok : goal.returns-in-Ok
returns-in-Ok g c locals =
    let here = two_popped _ _ _ _ _ c.pop_top-second.ensures.items c.pop_top-first.ensures.items in
    let types = last_two _ _ _ _ _ _ (sym here ∙ c.requires.before) in
    at_once (did_binary c.args.operator _ c.pop_top-first.result c.pop_top-second.result (ap type_of types.0 ∙ c.requires.first) (ap type_of types.1 ∙ c.requires.second) _ _ locals c.in-Ok.value here (sym c.binary.ensures ∙ c.in-Ok.is) c.put_back.ensures)

pub returns-in-Err : goal.returns-in-Err
returns-in-Err g c locals =
    let here = two_popped _ _ _ _ _ c.pop_top-second.ensures.items c.pop_top-first.ensures.items in
    let types = last_two _ _ _ _ _ _ (sym here ∙ c.requires.before) in
    fell_binary c.args.operator _ c.pop_top-first.result c.pop_top-second.result (ap type_of types.0 ∙ c.requires.first) (ap type_of types.1 ∙ c.requires.second) _ locals c.in-Err.code here (sym c.binary.ensures ∙ c.in-Err.is)
