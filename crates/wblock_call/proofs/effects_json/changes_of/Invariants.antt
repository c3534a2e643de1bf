use Rattle.std.proofs.Common.{◌≡◌, ◌++◌, drop, map}
use Rattle.serde_json.specs.View.{view}
use Rattle.lock_profile.specs.Groups.{pairs}
use Rattle.wblock_call.specs.EffectsJson.{change_items}
use Rattle.wblock_call.proofs.effects_json.changes_of.Given as goal

abbrev pub invariant-loop-held : goal.invariant-loop-held
invariant-loop-held l = map view l.values.items ++ change_items l.signed l.before.cells l.later.cells (pairs (drop l.held-index l.locks)) ≡ change_items l.signed l.before.cells l.later.cells (pairs l.locks)
