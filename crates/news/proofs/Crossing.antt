-- What threads are told and know they may share, over an allocator that may, and whose blocks any thread may give back.
use denote.RattleType.{RattleType}
use denote.Param.Send.{Frees, IsSend, IsSync, sendable}
use denote.Param.SendFields.{declared_sync}
use Rattle.std.specs.declared.alloc.Allocator.{Ghosts}
use Rattle.std.proofs.Crossing as std
use Rattle.serial.proofs.Crossing.{crosses, vec_sync}
use Rattle.news.specs.contracts.News as news_row
use Rattle.news.specs.contracts.known.Known as known_row
use Rattle.news.proofs.known.Slot.TheSendSync as slot

module _ (B : RattleType) (g : Ghosts B.Denot) (send : IsSend B) (sync : IsSync B) (frees : Frees g g.dealloc_token) where
  known_sync : IsSync (known_row.the_row B g)
  known_sync = let vec = vec_sync B g send sync frees in search (crosses, slot.the_sync, vec) depth 60 fits 100000

  pub news_sync : IsSync (news_row.the_row B g)
  news_sync =
      let vec = vec_sync B g send sync frees in
      declared_sync (news_row.the_type B g) (
        known_sync,
        (
          search (crosses, known_sync, vec) depth 60 fits 100000,
          (
            search (sendable, std.crosses) depth 60 fits 100000,
            (search (sendable, std.crosses) depth 60 fits 100000, (search crosses depth 60 fits 100000, (search crosses depth 60 fits 100000, tt))),
          ),
        ),
      )
