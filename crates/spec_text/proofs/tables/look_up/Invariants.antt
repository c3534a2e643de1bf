use Rattle.std.proofs.Common.{◌≡◌, drop}
use Rattle.spec_text.specs.Words.{beside}
use Rattle.spec_text.proofs.tables.look_up.Given as goal

abbrev pub invariant-loop-entry : goal.invariant-loop-entry
invariant-loop-entry g l = beside (λ r. r.now) l.text (drop l.entry-index l.table) ≡ beside (λ r. r.now) l.text l.table
