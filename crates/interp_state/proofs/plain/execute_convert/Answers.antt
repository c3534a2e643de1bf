use Rattle.std.proofs.Common.{◌∙◌, sym, ap}
use Rattle.std.specs.Prelude.{◌++◌, ◌∷◌, []}
use Rattle.spec_modules.specs.Operators.{type_of}
use Rattle.laws_reduction.specs.Plain.{at_once}
use Rattle.laws_reduction.specs.Topmost.{last_one}
use Rattle.interp_state.proofs.Doing.{did_convert}
use Rattle.interp_state.proofs.plain.execute_convert.Goals as goal

pub convert-requires : goal.convert-requires
convert-requires g c = ap type_of (last_one _ _ _ _ (sym c.pop_top-operand.ensures.items ∙ c.requires.before)) ∙ c.requires.first

pub returns : goal.returns
returns g c locals =
    at_once (did_convert c.args.operator c.pop_top-operand.new.stack.items c.pop_top-operand.result (ap type_of (last_one _ _ _ _ (sym c.pop_top-operand.ensures.items ∙ c.requires.before)) ∙ c.requires.first) _ _ locals
    c.pop_top-operand.ensures.items (c.put_back.ensures ∙ ap (λ v. c.pop_top-operand.new.stack.items ++ v ∷ []) c.convert.ensures))
