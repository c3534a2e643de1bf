use Rattle.std.proofs.Common.{inr}
use Rattle.wblock_usage.proofs.Colons.{at_some}
use Rattle.wblock_debug.proofs.debug.debug_in_block.Goals as goal

pub returns-in_ok-debug_over-in-Ok-Some : goal.returns-in_ok-debug_over-in-Ok-Some
returns-in_ok-debug_over-in-Ok-Some g c = inr (inr (record {
  version = c.in-Ok-Some.met.version;
  cells = c.in-Ok-Some.met.cells.cells;
  meets = at_some _ _ _ _ c.in-Ok-Some.field-0-is c.in-Ok-Some.ensures.met;
  tells = c.in_ok-debug_over-in-Ok-Some.ensures;
}))
