use Rattle.std.proofs.Common.{◌≡◌, length, map, take}
use Rattle.std.specs.FinMap.{entries}
use Rattle.spec_block.specs.Worlds.{held_in, profiles_in}
use Rattle.wblock_picture.proofs.turns.all_taken.Given as goal

abbrev pub invariant-loop-position : goal.invariant-loop-position
invariant-loop-position l = (length l.touched.items ≡ l.position-index) × (map entries l.touched.items ≡ map held_in (profiles_in (take l.position-index l.positions)))
