use Rattle.std.proofs.Common.{[], refl, ap, subst, ◌∙◌}
use Rattle.std.proofs.lemmas.Result.{IfOk-weaker}
use Rattle.sha2.specs.Sha256.{sha256}
use Rattle.spec_block.specs.Bytes.{world_bytes}
use Rattle.spec_block.specs.Worlds.{World}
use Rattle.world.specs.Views.{world_view}
use Rattle.wblock_line.specs.declared.perform.Status.TheVariants as status
use Rattle.wblock_chain.specs.Answered.{MovesOn}
use Rattle.wblock_chain.specs.Replies.{digest_line}
use Rattle.wblock_chain.proofs.Answering.{moved}
use Rattle.wblock_chain.proofs.session.answer_digest.Goals as goal

pub returns : goal.returns
returns c =
    let told = digest_line (sha256 (world_bytes (world_view c.args.world))) in
    let text = c.as_str.ensures.value ∙ (c.in_ok-text.ensures ∙ ap digest_line c.in_ok-digest.ensures) in
    IfOk-weaker c.answer_with.result _ _ (λ a moves. subst (λ (w : World). MovesOn w told [] status.Done a) c.with_digest-known.ensures (moved (world_view c.with_digest-known.result) c.as_str.result.now told [] [] status.Done a text refl moves)) c.answer_with.ensures
