use Rattle.std.proofs.Common.{rules, inr}
use Rattle.std.proofs.lemmas.Result.{IfOk-weaker}
use Rattle.spec_block.specs.Bytes.{SpellsBlock}
use Rattle.wblock_show.proofs.show.show_block.Goals as goal

pub returns-in-Ok : goal.returns-in-Ok
returns-in-Ok c =
    let spelled : SpellsBlock c.args.bytes.now c.in-Ok.block = search rules in
    IfOk-weaker c.show_it.result _ _ (λ a shows. inr (record { block = c.in-Ok.block; spelled = spelled; shows = shows })) c.show_it.ensures
