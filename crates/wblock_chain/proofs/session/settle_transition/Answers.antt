use Rattle.std.proofs.Common.{List, ℕ, [], ◌∷◌, ◌++◌, string_bytes, refl, ap, ◌∙◌}
use Rattle.std.proofs.lemmas.Result.{IfOk-weaker}
use Rattle.world.specs.Views.{world_view}
use Rattle.wblock_line.specs.declared.perform.Status.TheVariants as status
use Rattle.wblock_chain.proofs.Answering.{moved, on_err}
use Rattle.wblock_chain.proofs.session.settle_transition.Goals as goal

pub settle-requires : goal.settle-requires
settle-requires g c = rw c.in-Done.is at c.requires

pub returns-in-Done-clause-settles : goal.returns-in-Done-clause-settles
returns-in-Done-clause-settles g c = rw c.in-Done.is c.settle.ensures.settles

pub returns-in_ok-said-in-Refused-clause-settles : goal.returns-in_ok-said-in-Refused-clause-settles
returns-in_ok-said-in-Refused-clause-settles g c =
    rw c.in-Refused.is
    (IfOk-weaker c.answer_with.result _ _ (λ a moves t. (
      refl,
      moved (world_view c.args.world) c.as_str-in-Refused.result.now (string_bytes c.in-Refused.line) c.as_str-in-Refused-2.result.now (string_bytes c.in-Refused.why ++ 10 ∷ []) status.Refused a c.as_str-in-Refused.ensures.value (c.as_str-in-Refused-2.ensures.value ∙ (c.in_ok-said-in-Refused.ensures ∙ ap (λ (b : List ℕ). b ++ 10 ∷ []) c.as_str.ensures.value)) moves,
    )) c.answer_with.ensures)

pub returns-in_ok-said-in-Refused-clause-kept : goal.returns-in_ok-said-in-Refused-clause-kept
returns-in_ok-said-in-Refused-clause-kept g c = on_err c.answer_with.result _ (λ t. refl)
