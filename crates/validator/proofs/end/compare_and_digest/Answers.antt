use mir.Syntax.{Lifetime}
use base.Fml.{Lft}
use denote.Ref.{ShrRef}
use denote.Param.Send.{IsSend, shr_send}
use Rattle.world.specs.contracts.value.World as world_row
use Rattle.validator.specs.contracts.end.compare_and_digest as rows
use Rattle.serial.proofs.Crossing.{crosses}
use Rattle.validator.proofs.Crossing.{world_sync}
use Rattle.validator.proofs.end.compare_and_digest.Goals as goal

pub join-digest-requires-send-F : goal.join-digest-requires-send-F
join-digest-requires-send-F g c κs within =
    let B = rows.A-row g.row.R g.row.A in
    let heap : (ℓ : Lifetime) (κ : Lft) → IsSend (ShrRef ℓ κ B) = λ ℓ κ. shr_send ℓ κ _ c.type_bounds.sync-A in
    let world : (ℓ : Lifetime) (κ : Lft) → IsSend (ShrRef ℓ κ (world_row.the_row B g.A.Allocator)) = λ ℓ κ. shr_send ℓ κ _ (world_sync B g.A.Allocator c.type_bounds.send-A c.type_bounds.sync-A c.type_bounds.frees-A-Allocator) in
    search (crosses, heap, world) depth 60 fits 100000
