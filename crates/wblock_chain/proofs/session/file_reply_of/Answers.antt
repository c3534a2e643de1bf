use Rattle.std.proofs.lemmas.Result.{IfOk-weaker}
use Rattle.wblock_chain.proofs.session.file_reply_of.Goals as goal

pub returns : goal.returns
returns c = IfOk-weaker c.reply_of.result _ _ (λ bytes is. (c.as_str.result.now, is)) c.reply_of.ensures
