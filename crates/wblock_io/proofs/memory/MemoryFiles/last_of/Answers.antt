use Rattle.std.proofs.Common.{sym}
use Rattle.wblock_io.proofs.LogLemmas.{read_more}
use Rattle.wblock_io.proofs.memory.MemoryFiles.last_of.Goals as goal

pub loop-held-preserved : goal.loop-held-preserved
loop-held-preserved c = read_more c.deref-held-items.result.now c.loop-held.held-index c.held-item.result c.args.name.now _ _ c.loop-held-test.true (sym c.held-item.is) c.loop-held.invariant c.later-last.ensures
