use mir.Syntax.{Lifetime}
use base.Fml.{Lft}
use denote.Ref.{NamedLft, ShrRef}
use denote.Param.Send.{IsSend, shr_send, sendable}
use Rattle.std.specs.contracts.vec.Vec as vec_row
use Rattle.in_order.specs.contracts.InOrder as job_row
use Rattle.in_order.specs.contracts.post.QueueEnd as post_row
use Rattle.in_order.specs.contracts.leading.lead_beside as rows
use Rattle.serial.proofs.Crossing.{vec_send}
use Rattle.in_order.proofs.Crossing.{job_sync, post_send}
use Rattle.in_order.proofs.leading.lead_beside.Goals as goal

pub join-led-requires-send-F : goal.join-led-requires-send-F
join-led-requires-send-F g c κs within =
    let B = rows.A-row g.row.R g.row.A g.row.P in
    let P = rows.P-row g.row.R g.row.A g.row.P in
    let runtime : (ℓ : Lifetime) (κ : Lft) → IsSend (ShrRef ℓ κ (rows.R-row g.row.R g.row.A g.row.P)) = λ ℓ κ. shr_send ℓ κ _ c.type_bounds.sync-R in
    let job : (ℓ : Lifetime) (κ : Lft) (a b : NamedLft) → IsSend (ShrRef ℓ κ (job_row.the_row a b B P g.A.Allocator)) =
    λ ℓ κ a b. shr_send ℓ κ _ (job_sync B g.A.Allocator c.type_bounds.send-A c.type_bounds.sync-A c.type_bounds.frees-A-Allocator a b _ c.type_bounds.sync-P) in
    let posts : (a b : NamedLft) → IsSend (vec_row.the_row (post_row.the_row a b B g.A.Allocator) B g.A.Allocator) =
    λ a b. vec_send B g.A.Allocator c.type_bounds.send-A c.type_bounds.sync-A c.type_bounds.frees-A-Allocator _ (post_send B g.A.Allocator c.type_bounds.send-A c.type_bounds.sync-A c.type_bounds.frees-A-Allocator a b) in
    search (sendable, runtime, job, posts) depth 60 fits 100000
