-- A shared book may be shared by threads where the cells may that it was opened with, over an allocator that may cross threads, and whose blocks any thread may give back.
use denote.RattleType.{RattleType}
use denote.Ref.{NamedLft}
use denote.Param.Send.{Frees, IsSend, IsSync, sendable}
use Rattle.std.specs.declared.alloc.Allocator.{Ghosts}
use Rattle.storage.specs.contracts.Cells as cells_row
use Rattle.boost.specs.contracts.book.Book as inner_row
use Rattle.shards.specs.contracts.shared.SharedBook as book_row
use Rattle.std.proofs.Crossing as std
use Rattle.std.proofs.CrossingOver as over
use Rattle.std.proofs.MapsCrossingOver as maps_over

module _ (B : RattleType) (g : Ghosts B.Denot) (send : IsSend B) (sync : IsSync B) (frees : Frees g g.dealloc_token) where
  inner_send : IsSend (inner_row.the_row B g)
  inner_send = search (sendable, std.crosses, over.crosses, maps_over.crosses) depth 60 fits 100000

  pub book_sync : (a : NamedLft) → IsSync (cells_row.the_row B g) → IsSync (book_row.the_row a B g)
  book_sync a cells = search (sendable, std.crosses, over.crosses, maps_over.crosses, inner_send) depth 60 fits 100000
