-- The passes of a handover.
use Rattle.std.specs.Prelude.{◌≡◌, Some}
use Rattle.crossbeam_queue.specs.Passes as queue
use Rattle.lanes.specs.declared.typed_queue.TypedQueue.{TypedQueue}
use Rattle.lanes.specs.declared.pass.QueuePass.{QueuePass}

-- a pass that this handover gave, and that knows its key
abbrev pub IsPassOf : {K T F A : Type 0} → TypedQueue K T F A → QueuePass K T → Type 0
IsPassOf handover pass = queue.IsPassOf handover.queue pass.token × (queue.view pass.token ≡ Some handover.key)
