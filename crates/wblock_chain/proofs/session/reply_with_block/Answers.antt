use Rattle.std.proofs.Common.{List, ℕ, ap, ◌∙◌}
use Rattle.std.proofs.lemmas.Result.{IfOk-weaker}
use Rattle.wblock_line.specs.declared.perform.Status.TheVariants as status
use Rattle.wblock_chain.specs.Replies.{reply}
use Rattle.wblock_chain.proofs.session.reply_with_block.Goals as goal

pub returns : goal.returns
returns c = IfOk-weaker c.reply_of.result _ _ (λ bytes is. is ∙ ap (λ (text : List ℕ). reply text c.args.note.now status.Done) (c.as_str.ensures.value ∙ c.in_ok-text.ensures)) c.reply_of.ensures
