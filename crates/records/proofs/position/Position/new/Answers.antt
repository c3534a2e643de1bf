use Rattle.std.proofs.Common.{rules, arith, List, subst}
use Rattle.std.specs.List.{AllByRecursion}
use Rattle.spec_ledger.specs.declared.Entry.{Entry}
use Rattle.spec_block.specs.Bytes.{IsEntry}
use Rattle.records.proofs.Neighbours.{rising_from}
use Rattle.records.proofs.position.Position.new.Goals as goal

pub invariant_of-result : goal.invariant_of-result
invariant_of-result g c = record {
  call = omega arith;
  receipt = record { used = c.has_bytes.ensures.used; asks = c.has_bytes.ensures.asks; outcome = c.has_bytes.ensures.outcome.0 (search rules) };
  count = search rules;
  entries = subst (λ (es : List Entry). AllByRecursion IsEntry es) c.entries.ensures c.note_entries.ensures;
  rising = rising_from c.neighbours_decide.ensures c.args.profile c.use_invariant.ensures;
}
