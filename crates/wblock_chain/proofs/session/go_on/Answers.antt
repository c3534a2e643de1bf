use Rattle.std.proofs.Common.{[], string_bytes, refl}
use Rattle.std.proofs.lemmas.Bool.{false≢true}
use Rattle.std.proofs.lemmas.Result.{IfOk-weaker}
use Rattle.world.specs.Views.{world_view}
use Rattle.wblock_line.specs.declared.perform.Status.TheVariants as status
use Rattle.wblock_chain.proofs.Answering.{moved}
use Rattle.wblock_chain.proofs.session.go_on.Goals as goal

pub returns : goal.returns
returns c =
    rw c.in-Some.is
    (IfOk-weaker c.answer_with.result _ _ (λ a moves. moved (world_view c.in-Some.next.world) c.as_str.result.now (string_bytes c.args.change.text) [] [] status.Done a c.as_str.ensures.value refl moves) c.answer_with.ensures)

pub unreachable-requires : goal.unreachable-requires
unreachable-requires c = false≢true (rw c.in-None.is at c.requires)
