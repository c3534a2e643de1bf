use Rattle.std.proofs.Common.{◌≡◌, ◌++◌, take}
use Rattle.spec_modules.specs.Shortest.{run_bytes}
use Rattle.encoder.proofs.bytes.put_all.Given as goal

abbrev pub invariant-loop-item : goal.invariant-loop-item
invariant-loop-item g l = l.out.items ≡ l.initial.out.items ++ run_bytes g.T.Spelled.spelling (take l.item-index l.items.items)
