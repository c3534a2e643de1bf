use Rattle.std.proofs.Common.{take}
use Rattle.std.specs.List.{AllByRecursion}
use Rattle.spec_block.specs.Bytes.{ForVersion}
use Rattle.block.proofs.value.are_told.Given as goal

abbrev pub invariant-loop-position : goal.invariant-loop-position
invariant-loop-position g l = AllByRecursion (λ p. ForVersion l.version p.receipt) (take l.position-index l.positions)
