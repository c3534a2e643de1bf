use mir.Syntax.{Lifetime}
use base.Fml.{Lft}
use denote.Ref.{NamedLft, ShrRef}
use denote.Param.Send.{IsSend, shr_send, sendable}
use Rattle.block_judge.proofs.reason.JudgeRefusal.TheSendSync as unfit
use Rattle.validator.specs.contracts.job.Job as job_row
use Rattle.validator.specs.contracts.judge_and_run as rows
use Rattle.serial.proofs.Crossing.{crosses, vec_send}
use Rattle.validator.proofs.Crossing.{job_sync}
use Rattle.validator.proofs.judge_and_run.Goals as goal

pub run_with-requires-send-F : goal.run_with-requires-send-F
run_with-requires-send-F g c κs within =
    let B = rows.A-row g.row.R g.row.A g.row.P in
    let P = rows.P-row g.row.R g.row.A g.row.P in
    let job : (ℓ : Lifetime) (κ : Lft) (a b : NamedLft) → IsSend (ShrRef ℓ κ (job_row.the_row a b B P g.A.Allocator)) =
    λ ℓ κ a b. shr_send ℓ κ _ (job_sync B g.A.Allocator c.type_bounds.send-A c.type_bounds.sync-A c.type_bounds.frees-A-Allocator a b _ c.type_bounds.sync-P) in
    let vec = vec_send B g.A.Allocator c.type_bounds.send-A c.type_bounds.sync-A c.type_bounds.frees-A-Allocator in
    search (sendable, crosses, job, vec) depth 60 fits 100000

pub run_with-requires-send-T : goal.run_with-requires-send-T
run_with-requires-send-T g c κs within = search (crosses, unfit.the_send) depth 60 fits 100000
