use mir.Syntax.{Lifetime}
use base.Fml.{Lft}
use denote.Ref.{ShrRef}
use denote.Param.Send.{IsSend, shr_send}
use Rattle.world.specs.contracts.value.World as world_row
use Rattle.miner.specs.contracts.sealing.digests_and_parts as rows
use Rattle.serial.proofs.Crossing.{crosses}
use Rattle.miner.proofs.Crossing.{world_sync}
use Rattle.miner.proofs.sealing.digests_and_parts.Goals as goal

pub join-digests-requires-send-F : goal.join-digests-requires-send-F
join-digests-requires-send-F g c κs within =
    let B = rows.A-row g.row.R g.row.A in
    let heap : (ℓ : Lifetime) (κ : Lft) → IsSend (ShrRef ℓ κ B) = λ ℓ κ. shr_send ℓ κ _ c.type_bounds.sync-A in
    let world : (ℓ : Lifetime) (κ : Lft) → IsSend (ShrRef ℓ κ (world_row.the_row B g.A.Allocator)) = λ ℓ κ. shr_send ℓ κ _ (world_sync B g.A.Allocator c.type_bounds.send-A c.type_bounds.sync-A c.type_bounds.frees-A-Allocator) in
    search (crosses, heap, world) depth 60 fits 100000
