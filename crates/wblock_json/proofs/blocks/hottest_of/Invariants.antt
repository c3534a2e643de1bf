use Rattle.std.proofs.Common.{◌≡◌, map, take}
use Rattle.serde_json.specs.View.{view}
use Rattle.wblock_json.specs.Blocks.{shared_data}
use Rattle.wblock_json.proofs.blocks.hottest_of.Given as goal

abbrev pub invariant-loop-shared : goal.invariant-loop-shared
invariant-loop-shared l = map view l.values.items ≡ map shared_data (take l.shared-index l.hottest)
