use Rattle.std.proofs.Common.{◌≡◌, ◌++◌, drop, map}
use Rattle.serde_json.specs.View.{view}
use Rattle.lock_profile.specs.Groups.{pairs}
use Rattle.wblock_call.specs.EffectsJson.{lock_data}
use Rattle.wblock_call.proofs.effects_json.locks_of.Given as goal

abbrev pub invariant-loop-held : goal.invariant-loop-held
invariant-loop-held l = map view l.values.items ++ map (lock_data l.signed) (pairs (drop l.held-index l.locks)) ≡ map (lock_data l.signed) (pairs l.locks)
