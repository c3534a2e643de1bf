use Rattle.std.proofs.Common.{◌≡◌, None, option_map, take}
use Rattle.wblock_io.specs.Log.{held}
use Rattle.wblock_io.proofs.memory.MemoryFiles.last_of.Given as goal

abbrev pub invariant-loop-held : goal.invariant-loop-held
invariant-loop-held l = option_map (λ h. h.now.bytes.items) l.last ≡ held (take l.held-index l.held-items) l.name None
