use Rattle.std.proofs.Common.{◌∙◌, sym, ap}
use Rattle.std.specs.Prelude.{◌++◌, ◌∷◌, []}
use Rattle.spec_modules.specs.Operators.{type_of}
use Rattle.laws_reduction.specs.Plain.{at_once}
use Rattle.laws_reduction.specs.Topmost.{two_popped, last_two}
use Rattle.interp_state.proofs.Doing.{did_compare}
use Rattle.interp_state.proofs.plain.execute_compare.Goals as goal

pub compare-requires-clause-first_type : goal.compare-requires-clause-first_type
compare-requires-clause-first_type g c =
    let here = two_popped _ _ _ _ _ c.pop_top-second.ensures.items c.pop_top-first.ensures.items in
    ap type_of (last_two _ _ _ _ _ _ (sym here ∙ c.requires.before)).0 ∙ c.requires.first

pub compare-requires-clause-second_type : goal.compare-requires-clause-second_type
compare-requires-clause-second_type g c =
    let here = two_popped _ _ _ _ _ c.pop_top-second.ensures.items c.pop_top-first.ensures.items in
    ap type_of (last_two _ _ _ _ _ _ (sym here ∙ c.requires.before)).1 ∙ c.requires.second

pub returns : goal.returns
returns g c locals =
    let here = two_popped _ _ _ _ _ c.pop_top-second.ensures.items c.pop_top-first.ensures.items in
    let types = last_two _ _ _ _ _ _ (sym here ∙ c.requires.before) in
    at_once (did_compare c.args.operator c.pop_top-first.new.stack.items c.pop_top-first.result c.pop_top-second.result (ap type_of types.0 ∙ c.requires.first) (ap type_of types.1 ∙ c.requires.second) _ _ locals here
    (c.put_back.ensures ∙ ap (λ v. c.pop_top-first.new.stack.items ++ v ∷ []) c.compare.ensures))
