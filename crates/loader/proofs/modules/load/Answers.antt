use Rattle.std.proofs.Common.{length, arith}
use Rattle.module_tree.specs.Modules.{module_view}
use Rattle.loader.proofs.Ranges.{all_bytes}
use Rattle.loader.proofs.Spelled.{spelled_is, told_before, told_within}
use Rattle.loader.proofs.modules.load.Goals as goal

pub returns-in-Ok-clause-spelled : goal.returns-in-Ok-clause-spelled
returns-in-Ok-clause-spelled g c = spelled_is c.args.bytes.now (module_view c.in-Ok.module) (all_bytes c.args.bytes.now c.type_inv.bytes) (omega arith) c.in-Ok.ensures.value c.in-Ok.module.short

pub returns-clause-only : goal.returns-clause-only
returns-clause-only g c = rw c.ending_at.ensures (told_before c.args.bytes.now (length c.args.bytes.now) c.in-Err.unread c.in-Err.ensures.value)

pub returns-clause-place : goal.returns-clause-place
returns-clause-place g c = rw c.ending_at.ensures (told_within (length c.args.bytes.now) (length c.args.bytes.now) c.in-Err.unread (omega arith))
