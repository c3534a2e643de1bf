use Rattle.std.proofs.Common.{List, ℕ, subst}
use Rattle.std.proofs.lemmas.Result.{IfOk-weaker}
use Rattle.wblock_modules.specs.Checks.{IsAnswer}
use Rattle.wblock_modules.proofs.check.check_module.Goals as goal

pub returns-clause-answers : goal.returns-clause-answers
returns-clause-answers g c = IfOk-weaker c.in_form.result _ _ (λ a told t. record {
  bytes = c.in_ok-bytes.bytes.items;
  held = c.in_ok-bytes.ensures.bytes t;
  plain = c.in_ok-plain.plain;
  answers = subst (λ (bytes : List ℕ). IsAnswer c.args.json bytes c.in_ok-plain.plain) c.as_slice.ensures.value c.in_ok-plain.ensures.answer;
  told = told;
}) c.in_form.ensures.told
