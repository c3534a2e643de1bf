use Rattle.std.proofs.Common.{refl, sym, ap, subst, ◌∷◌, [], ◌++◌}
use Rattle.wtypes.specs.declared.Value.{Value}
use Rattle.wtypes.specs.declared.PlainInstr.{PlainInstr}
use Rattle.laws_reduction.specs.Plain.{at_once}
use Rattle.interp_state.specs.TopmostValues.{Changes, IsReadyToChange}
use Rattle.interp_state.proofs.Doing.{did_unary, did_test, did_convert}
use Rattle.interp_state.proofs.plain_values.unary_result.Goals as goal

pub returns-in-Unary-clause-changed : goal.returns-in-Unary-clause-changed
returns-in-Unary-clause-changed c =
    let type = subst (λ (o : PlainInstr). IsReadyToChange o c.args.value) c.in-Unary.is c.requires in
    subst (λ (o : PlainInstr). Changes o c.args.value c.unary.result) (sym c.in-Unary.is) (record {
      runs = refl;
      does = λ stack locals. at_once (did_unary c.in-Unary.operator stack c.args.value type _ _ locals refl (ap (λ (v : Value). stack ++ v ∷ []) c.unary.ensures));
    })

pub returns-in-Test-clause-changed : goal.returns-in-Test-clause-changed
returns-in-Test-clause-changed c =
    let type = subst (λ (o : PlainInstr). IsReadyToChange o c.args.value) c.in-Test.is c.requires in
    subst (λ (o : PlainInstr). Changes o c.args.value c.test.result) (sym c.in-Test.is) (record {
      runs = refl;
      does = λ stack locals. at_once (did_test c.in-Test.operator stack c.args.value type _ _ locals refl (ap (λ (v : Value). stack ++ v ∷ []) c.test.ensures));
    })

pub returns-in-Convert-clause-changed : goal.returns-in-Convert-clause-changed
returns-in-Convert-clause-changed c =
    let type = subst (λ (o : PlainInstr). IsReadyToChange o c.args.value) c.in-Convert.is c.requires in
    subst (λ (o : PlainInstr). Changes o c.args.value c.convert.result) (sym c.in-Convert.is) (record {
      runs = refl;
      does = λ stack locals. at_once (did_convert c.in-Convert.operator stack c.args.value type _ _ locals refl (ap (λ (v : Value). stack ++ v ∷ []) c.convert.ensures));
    })
