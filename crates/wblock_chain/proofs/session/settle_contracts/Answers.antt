use Rattle.std.proofs.Common.{◌≡◌, refl}
use Rattle.std.proofs.lemmas.Result.{IfOk-weaker}
use Rattle.spec_block.specs.Bytes.{world_bytes}
use Rattle.world.specs.Views.{world_view}
use Rattle.wblock_line.specs.declared.perform.Status.TheVariants as status
use Rattle.wblock_chain.proofs.Answering.{goes_on_with, leaves_next}
use Rattle.wblock_chain.proofs.session.settle_contracts.Goals as goal

pub go_on-requires : goal.go_on-requires
go_on-requires c =
    let beside = rw c.in-Done.is at c.in_ok-change.ensures.beside in
    let done = rw c.in-Done.is at c.in_ok-change.ensures.done in
    leaves_next c.in-Done.change c.in-Done.change.next c.args.name.now _ refl beside done.writes

pub returns : goal.returns
returns c =
    let beside = rw c.in-Done.is at c.in_ok-change.ensures.beside in
    let done = rw c.in-Done.is at c.in_ok-change.ensures.done in
    IfOk-weaker c.go_on.result _ _ (λ a moves. goes_on_with c.args.json c.args.name (world_view c.args.world) c.args.contracts c.in-Done.change a beside done moves) c.go_on.ensures

pub unreachable-requires : goal.unreachable-requires
unreachable-requires c =
    let done = rw c.in-Refused.is at c.in_ok-change.ensures.done in
    let never : status.Refused ≡ status.Done = done.status_is in absurd cc
