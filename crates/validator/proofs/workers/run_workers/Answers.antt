use mir.Syntax.{Lifetime}
use base.Fml.{Lft}
use denote.Ref.{NamedLft, ShrRef}
use denote.Param.Send.{IsSend, IsSync, shr_sync, sendable}
use Rattle.validator.specs.contracts.job.Job as job_row
use Rattle.validator.specs.contracts.job.WorkerRuns as part_row
use Rattle.validator.specs.contracts.shared.Shared as shared_row
use Rattle.validator.specs.contracts.workers.run_workers as rows
use Rattle.serial.proofs.Crossing.{crosses}
use Rattle.validator.proofs.Crossing.{part_send, job_sync, shared_sync}
use Rattle.validator.proofs.workers.run_workers.Goals as goal

pub map_vec-requires-send-X : goal.map_vec-requires-send-X
map_vec-requires-send-X g c κs within =
    let B = rows.A-row g.row.R g.row.A g.row.P in
    let part : (a : NamedLft) → IsSend (part_row.the_row a B g.A.Allocator) = λ a. part_send B g.A.Allocator c.type_bounds.send-A c.type_bounds.sync-A c.type_bounds.frees-A-Allocator a in
    search (crosses, part) depth 60 fits 100000

pub map_vec-requires-sync-F : goal.map_vec-requires-sync-F
map_vec-requires-sync-F g c κs within =
    let B = rows.A-row g.row.R g.row.A g.row.P in
    let P = rows.P-row g.row.R g.row.A g.row.P in
    let runtime : (ℓ : Lifetime) (κ : Lft) → IsSync (ShrRef ℓ κ (rows.R-row g.row.R g.row.A g.row.P)) = λ ℓ κ. shr_sync ℓ κ _ c.type_bounds.sync-R in
    let shared : (ℓ : Lifetime) (κ : Lft) → IsSync (ShrRef ℓ κ (shared_row.the_row B g.A.Allocator)) = λ ℓ κ. shr_sync ℓ κ _ (shared_sync B g.A.Allocator c.type_bounds.send-A c.type_bounds.sync-A c.type_bounds.frees-A-Allocator) in
    let job : (ℓ : Lifetime) (κ : Lft) (a b : NamedLft) → IsSync (ShrRef ℓ κ (job_row.the_row a b B P g.A.Allocator)) =
    λ ℓ κ a b. shr_sync ℓ κ _ (job_sync B g.A.Allocator c.type_bounds.send-A c.type_bounds.sync-A c.type_bounds.frees-A-Allocator a b _ c.type_bounds.sync-P) in
    search (sendable, runtime, shared, job) depth 60 fits 100000
