use Rattle.std.proofs.Common.{refl, sym, ap, subst, ◌∙◌, ◌∷◌, [], ◌++◌}
use Rattle.wtypes.specs.declared.Value.{Value}
use Rattle.wtypes.specs.declared.PlainInstr.{PlainInstr}
use Rattle.laws_reduction.specs.Plain.{at_once}
use Rattle.interp_state.specs.TopmostValues.{Joins, IsReadyToJoin}
use Rattle.interp_state.proofs.Doing.{did_binary, did_compare}
use Rattle.interp_state.proofs.plain_values.binary_result.Goals as goal

pub returns-in-Ok-clause-joined : goal.returns-in-Ok-clause-joined
returns-in-Ok-clause-joined c =
    let types = subst (λ (o : PlainInstr). IsReadyToJoin o c.args.first c.args.second) c.in-Binary.is c.requires in
    subst (λ (o : PlainInstr). Joins o c.args.first c.args.second c.in-Ok.value) (sym c.in-Binary.is) (record {
      runs = refl;
      does = λ stack locals. at_once (did_binary c.in-Binary.operator stack c.args.first c.args.second types.0 types.1 _ _ locals c.in-Ok.value refl (sym c.binary.ensures ∙ c.in-Ok.is) refl);
    })

pub returns-in-Compare-clause-joined : goal.returns-in-Compare-clause-joined
returns-in-Compare-clause-joined c =
    let types = subst (λ (o : PlainInstr). IsReadyToJoin o c.args.first c.args.second) c.in-Compare.is c.requires in
    subst (λ (o : PlainInstr). Joins o c.args.first c.args.second c.compare.result) (sym c.in-Compare.is) (record {
      runs = refl;
      does = λ stack locals. at_once (did_compare c.in-Compare.operator stack c.args.first c.args.second types.0 types.1 _ _ locals refl (ap (λ (v : Value). stack ++ v ∷ []) c.compare.ensures));
    })
