use Rattle.std.proofs.Common.{arith}
use Rattle.spec_block.specs.Bytes.{entry_bytes}
use Rattle.records.proofs.Steps.{is_spelled, is_read}
use Rattle.records.specs.Profiles.{entry_at, IsEntryAfter}
use Rattle.records.proofs.Profiles.{entry_exact}
use Rattle.records.proofs.entry.read_entry.Goals as goal

pub returns-clause-spelled : goal.returns-clause-spelled
returns-clause-spelled c = is_spelled (entry_at c.args.before) entry_bytes (IsEntryAfter c.args.before) (entry_exact c.args.before) (λ x. (x.0, x.1.now)) c.entry_of.result c.args.bytes.now (λ i. omega (arith, c.type_inv.bytes i)) c.entry_of.ensures.read

pub returns-clause-only : goal.returns-clause-only
returns-clause-only c = is_read (entry_at c.args.before) entry_bytes (IsEntryAfter c.args.before) (entry_exact c.args.before) (λ x. (x.0, x.1.now)) c.entry_of.result c.args.bytes.now c.entry_of.ensures.read
