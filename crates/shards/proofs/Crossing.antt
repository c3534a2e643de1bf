-- A book in shards may be shared by threads where its gate may, over an allocator that may cross threads, and whose blocks any thread may give back.
use denote.RattleType.{RattleType}
use denote.Ref.{NamedLft}
use denote.Param.Send.{Frees, IsSend, IsSync, sendable}
use Rattle.std.specs.declared.alloc.Allocator.{Ghosts}
use Rattle.sharding.specs.contracts.journal.Journal as journal_row
use Rattle.sharding.specs.contracts.shard.Shard as shard_row
use Rattle.storage.specs.contracts.Cells as cells_row
use Rattle.shards.specs.contracts.sharded.Shards as book_row
use Rattle.std.proofs.Crossing as std
use Rattle.std.proofs.CrossingOver as over
use Rattle.std.proofs.MapsCrossingOver as maps_over

module _ (B : RattleType) (g : Ghosts B.Denot) (send : IsSend B) (sync : IsSync B) (frees : Frees g g.dealloc_token) where
  journal_send : IsSend (journal_row.the_row B g)
  journal_send = search (sendable, std.crosses, over.crosses, maps_over.crosses) depth 60 fits 100000

  shard_send : IsSend (shard_row.the_row B g)
  shard_send = search (sendable, std.crosses, over.crosses, maps_over.crosses) depth 60 fits 100000

  pub book_sync : (a : NamedLft) (G : RattleType) → IsSync G → IsSync (cells_row.the_row B g) → IsSync (book_row.the_row a G B g)
  book_sync a G gate cells = search (sendable, std.crosses, over.crosses, maps_over.crosses, journal_send, shard_send) depth 60 fits 100000
