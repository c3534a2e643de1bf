use Rattle.std.proofs.Common.{◌∙◌, sym, ap}
use Rattle.spec_modules.specs.Operators.{type_of}
use Rattle.laws_reduction.specs.Plain.{at_once}
use Rattle.laws_reduction.specs.Topmost.{three_popped, last_three}
use Rattle.interp_state.proofs.Doing.{did_select}
use Rattle.interp_state.proofs.plain.select.Goals as goal

pub returns : goal.returns
returns g c locals =
    let here = three_popped _ _ _ _ _ _ _ c.pop_top-choice.ensures.items c.pop_top-second.ensures.items c.pop_top-first.ensures.items in
    at_once (did_select c.pop_top-first.new.stack.items c.pop_top-first.result c.pop_top-second.result c.pop_top-choice.result c.chosen.result (ap type_of (last_three _ _ _ _ _ _ _ _ (sym here ∙ c.requires.before)) ∙ c.requires.number) _ _ locals here
    c.chosen.ensures c.put_back.ensures)
