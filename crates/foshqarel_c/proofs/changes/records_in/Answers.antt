use Rattle.std.proofs.Common.{◌∙◌, List, ap, map}
use Rattle.embed.specs.declared.calling.Change.{Change}
use Rattle.foshqarel_c.specs.Records.{change_record}
use Rattle.foshqarel_c.proofs.changes.records_in.Goals as goal

pub returns-clause-ran : goal.returns-clause-ran
returns-clause-ran c =
    let effects = c.in_ok-effects.effects in
    record {
      ran = effects.receipt;
      these = effects.changes.items;
      runs = c.in_ok-effects.ensures.ran;
      receipt_is = c.receipt_record.ensures;
      are = c.in_ok-records.ensures ∙ ap (λ (xs : List Change). map change_record xs) c.deref.ensures.value;
    }
