use Rattle.std.proofs.Common.{inl}
use Rattle.std.proofs.lemmas.Result.{IfOk-weaker}
use Rattle.module_tree.specs.Modules.{module_view}
use Rattle.wblock_line.proofs.refusals.untyped_words.Goals as goal

pub returns-in-Ok : goal.returns-in-Ok
returns-in-Ok c = IfOk-weaker c.body_words.result _ _ (λ s h. inl (module_view c.in-Ok.tree, c.in-Ok.ensures.spelled, h)) c.body_words.ensures
