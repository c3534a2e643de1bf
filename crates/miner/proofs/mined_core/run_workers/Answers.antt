use Rattle.std.proofs.Common.{arith}
use mir.Syntax.{Lifetime}
use base.Fml.{Lft}
use denote.Ref.{NamedLft, ShrRef}
use denote.Param.Send.{IsSend, IsSync, shr_sync, sendable}
use Rattle.std.proofs.CrossingOver as over
use Rattle.std.specs.contracts.result.Result as result_row
use Rattle.wtypes.specs.contracts.NoMemory as no_memory_row
use Rattle.book_workers.specs.contracts.attempt.Job as job_row
use Rattle.book_workers.specs.contracts.worker.WorkerResult as worked_row
use Rattle.miner.specs.contracts.mined_core.run_workers as rows
use Rattle.serial.proofs.Crossing.{crosses}
use Rattle.book_workers.proofs.Crossing.{handed_send, job_sync}
use Rattle.miner.proofs.mined_core.run_workers.Goals as goal

pub map_vec-requires-send-X : goal.map_vec-requires-send-X
map_vec-requires-send-X g c κs within =
    let B = rows.A-row g.row.R g.row.A g.row.P in
    let handed : (a : NamedLft) → IsSend (result_row.the_row (worked_row.the_row a B g.A.Allocator) no_memory_row.the_row) = λ a. handed_send B g.A.Allocator c.type_bounds.send-A c.type_bounds.sync-A c.type_bounds.frees-A-Allocator a in
    search (crosses, over.crosses, handed) depth 60 fits 100000

pub map_vec-requires-sync-F : goal.map_vec-requires-sync-F
map_vec-requires-sync-F g c κs within =
    let B = rows.A-row g.row.R g.row.A g.row.P in
    let P = rows.P-row g.row.R g.row.A g.row.P in
    let runtime : (ℓ : Lifetime) (κ : Lft) → IsSync (ShrRef ℓ κ (rows.R-row g.row.R g.row.A g.row.P)) = λ ℓ κ. shr_sync ℓ κ _ c.type_bounds.sync-R in
    let job : (ℓ : Lifetime) (κ : Lft) (a b : NamedLft) → IsSync (ShrRef ℓ κ (job_row.the_row a b B P g.A.Allocator)) =
    λ ℓ κ a b. shr_sync ℓ κ _ (job_sync B g.A.Allocator c.type_bounds.send-A c.type_bounds.sync-A c.type_bounds.frees-A-Allocator a b _ c.type_bounds.sync-P) in
    search (sendable, runtime, job) depth 60 fits 100000

pub returns : goal.returns
returns g c k d within =
    let parts = c.in_ok-parts.parts in
    let one = c.in_ok-parts.ensures.each k d (omega (arith, c.in_ok-parts.ensures.len, parts.ok.0, c.args.seats.ok.0, within)) in
    search (one.1.call)
