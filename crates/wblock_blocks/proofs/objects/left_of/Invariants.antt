use Rattle.std.proofs.Common.{◌≡◌, map, take}
use Rattle.serde_json.specs.View.{view}
use Rattle.wblock_json.specs.Json.{small}
use Rattle.wblock_blocks.proofs.objects.left_of.Given as goal

abbrev pub invariant-loop-call : goal.invariant-loop-call
invariant-loop-call l = map view l.values.items ≡ map small (take l.call-index l.left)
