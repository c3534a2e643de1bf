-- What the threads of an order share and hand over may cross threads, over an allocator that may, and whose blocks any thread may give back.
use denote.RattleType.{RattleType}
use denote.Ref.{NamedLft, ShrRef}
use denote.Struct.Field.{row_field}
use denote.Param.Send.{Frees, IsSend, IsSync, shr_sync, sendable}
use denote.Param.SendFields.{declared_send, declared_sync, as_row_sync}
use Rattle.std.specs.declared.alloc.Allocator.{Ghosts}
use Rattle.std.proofs.Crossing as std
use Rattle.std.proofs.CrossingOver as over
use Rattle.lock_profile.specs.contracts.Touched as touched_row
use Rattle.lock_profile.proofs.Held.TheSendSync as held
use Rattle.spec_execution.proofs.footprints.Access.TheSendSync as access
use Rattle.spec_ledger.proofs.Version.TheSendSync as version
use Rattle.serial.proofs.Crossing.{crosses, vec_send, contract_sync, contracts_send, cells_sync}
use Rattle.news.proofs.Crossing.{news_sync}
use Rattle.lanes.specs.declared.queue_rule.ItemFact as fact
use Rattle.lanes.specs.contracts.typed_queue.TypedQueue as line_row
use Rattle.lanes.specs.contracts.pass.QueuePass as pass_row
use Rattle.lanes.proofs.typed_queue.TypedQueue.TheSendSync as line
use Rattle.lanes.proofs.pass.QueuePass.TheSendSync as pass
use Rattle.in_order.specs.contracts.InOrder as job_row
use Rattle.in_order.specs.contracts.Task as task_row
use Rattle.in_order.specs.contracts.speculative_run.SpeculativeRuns as share_row
use Rattle.in_order.specs.contracts.line.Batch as batch_row
use Rattle.in_order.specs.contracts.post.QueueEnd as post_row

module _ (B : RattleType) (g : Ghosts B.Denot) (send : IsSend B) (sync : IsSync B) (frees : Frees g g.dealloc_token) where
  touched_send : IsSend (touched_row.the_row B g)
  touched_send = let vec = vec_send B g send sync frees in search (crosses, held.the_send, vec) depth 60 fits 100000

  share_send : (a : NamedLft) → IsSend (share_row.the_row a B g)
  share_send a =
      let vec = vec_send B g send sync frees in
      let contracts = contracts_send B g send sync frees in
      search (crosses, over.crosses, vec, contracts, access.the_send, touched_send) depth 60 fits 100000

  task_sync : (a : NamedLft) → IsSync (task_row.the_row a B g)
  task_sync a =
      let contract = contract_sync B g send sync frees in
      declared_sync (task_row.the_type a B g) (search (crosses, contract) depth 60 fits 100000, (search crosses depth 60 fits 100000, (search (crosses, version.the_sync) depth 60 fits 100000, tt)))

  task_send : (a : NamedLft) → IsSend (task_row.the_row a B g)
  task_send a =
      let contracts = contracts_send B g send sync frees in
      search (crosses, over.crosses, contracts, version.the_send) depth 60 fits 100000

  batch_send : (a : NamedLft) → IsSend (batch_row.the_row a B g)
  batch_send a = declared_send (batch_row.the_type a B g) (search crosses depth 60 fits 100000, (share_send a, tt))

  -- threads may share the queue of an order
  line_sync : (a : NamedLft) (F : RattleType) (f : fact.Ghosts F.Denot (task_row.the_row a B g).Denot (batch_row.the_row a B g).Denot) → IsSync (line_row.the_row (task_row.the_row a B g) (batch_row.the_row a B g) F B f g)
  line_sync a F f = line.the_sync (task_row.the_row a B g) (batch_row.the_row a B g) F B f g (task_send a) (batch_send a) send (task_sync a) sync frees

  pass_send : (a : NamedLft) → IsSend (pass_row.the_row (task_row.the_row a B g) (batch_row.the_row a B g))
  pass_send a = pass.the_send (task_row.the_row a B g) (batch_row.the_row a B g) (task_send a) (batch_send a)

  -- a post may go to its thread
  pub post_send : (a b : NamedLft) → IsSend (post_row.the_row a b B g)
  post_send a b =
      let news = news_sync B g send sync frees in
      declared_send (post_row.the_type a b B g) (
        search (crosses, line_sync) depth 60 fits 100000,
        (pass_send b, (search (crosses, news) depth 60 fits 100000, (search crosses depth 60 fits 100000, tt))),
      )

  -- threads may share an order, where they may share the pace
  pub job_sync : (a b : NamedLft) (P : RattleType) → IsSync P → IsSync (job_row.the_row a b B P g)
  job_sync a b P pace =
      let cells = cells_sync B g send sync frees in
      declared_sync (job_row.the_type a b B P g) (
        as_row_sync (row_field B) sync,
        (
          task_sync b,
          (
            search crosses depth 60 fits 100000,
            (
              search (crosses, cells) depth 60 fits 100000,
              (
                as_row_sync (row_field (ShrRef a.mir a.lft P)) (shr_sync a.mir a.lft P pace),
                (search (sendable, std.crosses) depth 60 fits 100000, (search (sendable, std.crosses) depth 60 fits 100000, (search (sendable, std.crosses) depth 60 fits 100000, tt))),
              ),
            ),
          ),
        ),
      )
