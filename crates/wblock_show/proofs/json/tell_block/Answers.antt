use Rattle.std.proofs.Common.{rules, inr}
use Rattle.std.proofs.lemmas.Result.{IfOk-weaker}
use Rattle.spec_block.specs.Bytes.{SpellsBlock}
use Rattle.wblock_show.proofs.json.tell_block.Goals as goal

pub returns-in-Ok : goal.returns-in-Ok
returns-in-Ok c =
    let spelled : SpellsBlock c.args.bytes.now c.in-Ok.block = search rules in
    IfOk-weaker c.tell_it.result _ _ (λ a tells. inr (record { block = c.in-Ok.block; spelled = spelled; tells = tells })) c.tell_it.ensures
