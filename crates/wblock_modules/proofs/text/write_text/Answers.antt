use Rattle.std.proofs.Common.{List, ℕ, subst}
use Rattle.std.proofs.lemmas.Result.{IfOk-weaker}
use Rattle.wblock_modules.specs.Texts.{IsAnswer}
use Rattle.wblock_modules.proofs.text.write_text.Goals as goal

pub returns-in-Ok-clause-answers : goal.returns-in-Ok-clause-answers
returns-in-Ok-clause-answers g c = IfOk-weaker c.in_form.result _ _ (λ a told t. record {
  bytes = c.in_ok-bytes.bytes.items;
  held = c.in_ok-bytes.ensures.bytes t;
  plain = c.in-Ok.plain;
  answers = subst (λ (bytes : List ℕ). IsAnswer c.args.unchecked c.args.json bytes c.args.target.now c.in-Ok.plain) c.as_slice.ensures.value c.in-Ok.ensures;
  told = told;
}) c.in_form.ensures.told
