use Rattle.std.proofs.Common.{ℕ, List, IfNone, IfSome, ap, ◌∙◌, sym}
use Rattle.spec_execution.specs.Serial.{CallResult}
use Rattle.spec_block.specs.Worlds.{Position}
use Rattle.spec_block.specs.Verdicts.{IsLeast, IsOther}
use Rattle.serial.specs.OrderOutcomes.{fuel_of_receipts}
use Rattle.validator.proofs.Ends.{shown}
use Rattle.validator.proofs.compare.compare.Goals as goal

pub returns : goal.returns
returns g c =
    let block = c.args.block.now in
    let found = c.first_deviating.result in
    let lists = shown (λ (ps : List Position) (ran : List CallResult). IfSome found (IsLeast (IsOther ps ran)) × IfNone found ((p : ℕ) → ¬ (IsOther ps ran p)))
    c.positions.result.now block.positions c.deref.result.now c.args.receipts.items c.deref-2.result.now c.args.touched.items
    c.positions.ensures c.deref.ensures.value c.deref-2.ensures.value (c.first_deviating.ensures.other, c.first_deviating.ensures.same) in
    record {
      other = lists.0;
      same = lists.1;
      total = (λ yes. sym c.fuel.ensures ∙ (c.is_total.ensures.0 yes ∙ ap fuel_of_receipts c.deref-3.ensures.value), λ same. c.is_total.ensures.1 (c.fuel.ensures ∙ (same ∙ sym (ap fuel_of_receipts c.deref-3.ensures.value))));
    }
