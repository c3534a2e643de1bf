use mir.Syntax.{Lifetime}
use base.Fml.{Lft}
use denote.Ref.{NamedLft, ShrRef}
use denote.Param.Send.{IsSend, IsSync, shr_sync, sendable}
use Rattle.in_order.specs.contracts.InOrder as job_row
use Rattle.in_order.specs.contracts.post.QueueEnd as post_row
use Rattle.in_order.specs.contracts.working.work_all as rows
use Rattle.serial.proofs.Crossing.{crosses}
use Rattle.in_order.proofs.Crossing.{job_sync, post_send}
use Rattle.in_order.proofs.working.work_all.Goals as goal

pub map_vec-worked-requires-send-J : goal.map_vec-worked-requires-send-J
map_vec-worked-requires-send-J g c κs within =
    let B = rows.A-row g.row.R g.row.A g.row.P in
    let post : (a b : NamedLft) → IsSend (post_row.the_row a b B g.A.Allocator) = λ a b. post_send B g.A.Allocator c.type_bounds.send-A c.type_bounds.sync-A c.type_bounds.frees-A-Allocator a b in
    search (crosses, post) depth 60 fits 100000

pub map_vec-worked-requires-sync-F : goal.map_vec-worked-requires-sync-F
map_vec-worked-requires-sync-F g c κs within =
    let B = rows.A-row g.row.R g.row.A g.row.P in
    let P = rows.P-row g.row.R g.row.A g.row.P in
    let job : (ℓ : Lifetime) (κ : Lft) (a b : NamedLft) → IsSync (ShrRef ℓ κ (job_row.the_row a b B P g.A.Allocator)) =
    λ ℓ κ a b. shr_sync ℓ κ _ (job_sync B g.A.Allocator c.type_bounds.send-A c.type_bounds.sync-A c.type_bounds.frees-A-Allocator a b _ c.type_bounds.sync-P) in
    search (sendable, job) depth 60 fits 100000
