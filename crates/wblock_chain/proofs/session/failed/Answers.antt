use Rattle.std.proofs.Common.{[], ◌++◌, refl, ◌∙◌}
use Rattle.std.proofs.lemmas.Result.{IfOk-weaker}
use Rattle.world.specs.Views.{world_view}
use Rattle.wblock_line.specs.Answers.{file_line, sentence_line}
use Rattle.wblock_line.specs.declared.perform.Status.TheVariants as status
use Rattle.wblock_chain.proofs.Answering.{moved}
use Rattle.wblock_chain.proofs.session.failed.Goals as goal

pub returns : goal.returns
returns c =
    let said = c.in_ok-said.ensures in
    IfOk-weaker c.answer_with.result _ _ (λ a moves. record {
      why = said.0;
      moves = moved (world_view c.args.world) [] [] c.as_str.result.now (file_line c.args.name.now ++ sentence_line said.0) status.File a refl (c.as_str.ensures.value ∙ said.1) moves;
    }) c.answer_with.ensures
