use mir.Syntax.{Lifetime}
use base.Fml.{Lft}
use denote.Ref.{NamedLft, ShrRef}
use denote.Param.Send.{IsSend, shr_send, sendable}
use Rattle.in_order.specs.contracts.InOrder as job_row
use Rattle.in_order.specs.contracts.post.QueueEnd as post_row
use Rattle.in_order.specs.contracts.leading.join_all as rows
use Rattle.in_order.proofs.Crossing.{job_sync, post_send}
use Rattle.in_order.proofs.leading.join_all.Goals as goal

pub join_errand-requires-send-W : goal.join_errand-requires-send-W
join_errand-requires-send-W g c κs within =
    let B = rows.A-row g.row.R g.row.A g.row.P g.row.T g.row.F in
    let P = rows.P-row g.row.R g.row.A g.row.P g.row.T g.row.F in
    let job : (ℓ : Lifetime) (κ : Lft) (a b : NamedLft) → IsSend (ShrRef ℓ κ (job_row.the_row a b B P g.A.Allocator)) =
    λ ℓ κ a b. shr_send ℓ κ _ (job_sync B g.A.Allocator c.type_bounds.send-A c.type_bounds.sync-A c.type_bounds.frees-A-Allocator a b _ c.type_bounds.sync-P) in
    let post : (a b : NamedLft) → IsSend (post_row.the_row a b B g.A.Allocator) = λ a b. post_send B g.A.Allocator c.type_bounds.send-A c.type_bounds.sync-A c.type_bounds.frees-A-Allocator a b in
    search (sendable, job, post) depth 60 fits 100000
