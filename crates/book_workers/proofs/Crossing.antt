-- What workers share and hand back may cross threads, over an allocator that may, and whose blocks any thread may give back.
use denote.RattleType.{RattleType}
use denote.Ref.{NamedLft, ShrRef}
use denote.Struct.Field.{row_field}
use denote.Param.Send.{Frees, IsSend, IsSync, shr_sync}
use denote.Param.SendFields.{declared_sync, as_row_sync}
use Rattle.std.specs.declared.alloc.Allocator.{Ghosts}
use Rattle.std.specs.contracts.result.Result as result_row
use Rattle.std.proofs.CrossingOver as over
use Rattle.wtypes.specs.contracts.NoMemory as no_memory_row
use Rattle.lock_profile.specs.contracts.Touched as touched_row
use Rattle.lock_profile.proofs.Held.TheSendSync as held
use Rattle.book_workers.specs.contracts.intake.Intake as intake_row
use Rattle.book_workers.proofs.intake.Intake.TheSendSync as intake
use Rattle.shards.specs.contracts.gate.NoGate as gate_row
use Rattle.shards.specs.contracts.sharded.Shards as book_row
use Rattle.shards.proofs.gate.NoGate.TheSendSync as gate
use Rattle.shards.proofs.Crossing as book
use Rattle.serial.proofs.Crossing.{crosses, vec_send, contract_sync, cells_sync, finished_send}
use Rattle.book_workers.proofs.admission.AdmissionLimit.TheSendSync as admission
use Rattle.book_workers.specs.contracts.attempt.CommittedRun as committed_row
use Rattle.book_workers.specs.contracts.attempt.Job as job_row
use Rattle.book_workers.specs.contracts.worker.WorkerResult as worked_row

module _ (B : RattleType) (g : Ghosts B.Denot) (send : IsSend B) (sync : IsSync B) (frees : Frees g g.dealloc_token) where
  touched_send : IsSend (touched_row.the_row B g)
  touched_send = let vec = vec_send B g send sync frees in search (crosses, held.the_send, vec) depth 60 fits 100000

  committed_send : (a : NamedLft) → IsSend (committed_row.the_row a B g)
  committed_send a = let finished = finished_send B g send sync frees in search (crosses, finished, touched_send) depth 60 fits 100000

  worked_send : (a : NamedLft) → IsSend (worked_row.the_row a B g)
  worked_send a = let vec = vec_send B g send sync frees in search (crosses, vec, committed_send) depth 60 fits 100000

  -- what a worker hands back may go to the thread that joins it
  pub handed_send : (a : NamedLft) → IsSend (result_row.the_row (worked_row.the_row a B g) no_memory_row.the_row)
  handed_send a = search (crosses, worked_send) depth 60 fits 100000

  pub intake_sync : IsSync (intake_row.the_row B g)
  intake_sync = search (crosses, over.crosses, intake.the_sync) depth 60 fits 100000

  book_sync : (a : NamedLft) → IsSync (book_row.the_row a gate_row.the_row B g)
  book_sync a = book.book_sync B g send sync frees a gate_row.the_row gate.the_sync (cells_sync B g send sync frees)

  -- the workers may share the job, where they may share the pace
  pub job_sync : (a b : NamedLft) (P : RattleType) → IsSync P → IsSync (job_row.the_row a b B P g)
  job_sync a b P pace =
      let contract = contract_sync B g send sync frees in
      declared_sync (job_row.the_type a b B P g) (
        as_row_sync (row_field B) sync,
        (
          search (crosses, contract) depth 60 fits 100000,
          (
            search crosses depth 60 fits 100000,
            (
              search (crosses, book_sync) depth 60 fits 100000,
              (
                search (crosses, intake_sync) depth 60 fits 100000,
                (as_row_sync (row_field (ShrRef a.mir a.lft P)) (shr_sync a.mir a.lft P pace), (search crosses depth 60 fits 100000, (search (crosses, admission.the_sync) depth 60 fits 100000, tt))),
              ),
            ),
          ),
        ),
      )
