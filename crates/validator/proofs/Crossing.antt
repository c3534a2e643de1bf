-- What the workers share and hand back may cross threads, over an allocator that may, and whose blocks any thread may give back.
use denote.RattleType.{RattleType}
use denote.Ref.{NamedLft}
use denote.Param.Send.{Frees, IsSend, IsSync, sendable}
use denote.Param.SendFields.{declared_sync}
use Rattle.std.specs.declared.alloc.Allocator.{Ghosts}
use Rattle.std.proofs.Crossing as std
use Rattle.std.proofs.CrossingOver as over
use Rattle.std.proofs.MapsCrossingOver as maps_over
use Rattle.spec_ledger.proofs.Entry.TheSendSync as entry
use Rattle.schedule.specs.contracts.board.Board as board_row
use Rattle.link.specs.contracts.deployed.Deployed as contract_row
use Rattle.world.specs.contracts.value.World as world_row
use Rattle.block.specs.contracts.value.Block as block_row
use Rattle.storage.specs.contracts.cells_ahead.Ahead as ahead_row
use Rattle.lock_profile.specs.contracts.Profile as profile_row
use Rattle.records.specs.contracts.position.Position as position_row
use Rattle.serial.proofs.Crossing.{crosses, vec_send, vec_sync, contract_sync, contracts_send, cells_sync, finished_send}
use Rattle.in_order.proofs.Crossing.{job_sync as order_sync}
use Rattle.validator.specs.contracts.trial.Trial as trial_row
use Rattle.validator.specs.contracts.job.PositionRun as made_row
use Rattle.validator.specs.contracts.job.WorkerRuns as part_row
use Rattle.validator.specs.contracts.job.Job as job_row
use Rattle.validator.specs.contracts.shared.Shared as shared_row

module _ (B : RattleType) (g : Ghosts B.Denot) (send : IsSend B) (sync : IsSync B) (frees : Frees g g.dealloc_token) where
  made_send : (a : NamedLft) → IsSend (made_row.the_row a B g)
  made_send a = let finished = finished_send B g send sync frees in search (crosses, finished) depth 60 fits 100000

  pub part_send : (a : NamedLft) → IsSend (part_row.the_row a B g)
  part_send a =
      let vec = vec_send B g send sync frees in
      let contracts = contracts_send B g send sync frees in
      search (crosses, vec, contracts, made_send) depth 60 fits 100000

  profile_sync : IsSync (profile_row.the_row B g)
  profile_sync = let vec = vec_sync B g send sync frees in search (crosses, entry.the_sync, vec) depth 60 fits 100000

  position_sync : IsSync (position_row.the_row B g)
  position_sync = search (crosses, profile_sync) depth 60 fits 100000

  board_send : IsSend (board_row.the_row B g)
  board_send = search (sendable, std.crosses, over.crosses, maps_over.crosses) depth 60 fits 100000

  ahead_send : IsSend (ahead_row.the_row B g)
  ahead_send = search (sendable, std.crosses, over.crosses, maps_over.crosses) depth 60 fits 100000

  -- the workers may share the board and the cells
  pub shared_sync : IsSync (shared_row.the_row B g)
  shared_sync = search (sendable, std.crosses, over.crosses, board_send, ahead_send) depth 60 fits 100000

  pub world_sync : IsSync (world_row.the_row B g)
  world_sync =
      let contracts = vec_sync B g send sync frees (contract_row.the_row B g) (contract_sync B g send sync frees) in
      let cells = cells_sync B g send sync frees in
      declared_sync (world_row.the_type B g) (search (crosses, contracts) depth 60 fits 100000, (search (crosses, cells) depth 60 fits 100000, (search crosses depth 60 fits 100000, tt)))

  block_sync : IsSync (block_row.the_row B g)
  block_sync = let vec = vec_sync B g send sync frees in search (crosses, vec, position_sync) depth 60 fits 100000

  trial_sync : (a : NamedLft) → IsSync (trial_row.the_row a B g)
  trial_sync a = search (crosses, world_sync, block_sync) depth 60 fits 100000

  -- threads may share the job, where they may share the pace
  pub job_sync : (a b : NamedLft) (P : RattleType) → IsSync P → IsSync (job_row.the_row a b B P g)
  job_sync a b P pace = declared_sync (job_row.the_type a b B P g) (
    order_sync B g send sync frees a b P pace,
    (search (crosses, trial_sync) depth 60 fits 100000, tt),
  )
