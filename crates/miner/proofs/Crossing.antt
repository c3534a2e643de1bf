-- Threads may share a world, over an allocator that may cross threads, and whose blocks any thread may give back.
use denote.RattleType.{RattleType}
use denote.Param.Send.{Frees, IsSend, IsSync}
use denote.Param.SendFields.{declared_sync}
use Rattle.std.specs.declared.alloc.Allocator.{Ghosts}
use Rattle.link.specs.contracts.deployed.Deployed as contract_row
use Rattle.world.specs.contracts.value.World as world_row
use Rattle.serial.proofs.Crossing.{crosses, cells_sync, contract_sync, vec_sync}

module _ (B : RattleType) (g : Ghosts B.Denot) (send : IsSend B) (sync : IsSync B) (frees : Frees g g.dealloc_token) where
  pub world_sync : IsSync (world_row.the_row B g)
  world_sync =
      let contracts = vec_sync B g send sync frees (contract_row.the_row B g) (contract_sync B g send sync frees) in
      let cells = cells_sync B g send sync frees in
      declared_sync (world_row.the_type B g) (search (crosses, contracts) depth 60 fits 100000, (search (crosses, cells) depth 60 fits 100000, (search crosses depth 60 fits 100000, tt)))
