use Rattle.std.proofs.Common.{◌≡◌, map, take}
use Rattle.serde_json.specs.View.{view}
use Rattle.wblock_debug.specs.StatesJson.{frame_data}
use Rattle.wblock_debug.proofs.states_json.frames_of.Given as goal

abbrev pub invariant-loop-frame : goal.invariant-loop-frame
invariant-loop-frame l = map view l.values.items ≡ map frame_data (take l.frame-index l.frames)
