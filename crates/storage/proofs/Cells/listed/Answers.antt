use Rattle.std.proofs.Common.{◌∷◌, [], ◌++◌, ◌∙◌, ap, sym}
use Rattle.storage.proofs.Listed.{append_nil, split_next}
use Rattle.storage.proofs.Cells.listed.Goals as goal

pub loop-cell-preserved : goal.loop-cell-preserved
loop-cell-preserved g c = (
  tt,
  tt,
  split_next c.loop-cell.yielded c.in-Some.cell c.next.new.self _ _ c.in-Some.ensures.steps c.loop-cell.invariant.2,
  c.in_ok-push.ensures.items ∙ ap (λ xs. xs ++ c.in-Some.cell ∷ []) c.loop-cell.invariant.3,
)

pub returns : goal.returns
returns g c =
    c.loop-cell.invariant.3
    ∙ append_nil c.loop-cell.yielded
    ∙ ap (λ xs. c.loop-cell.yielded ++ xs) (sym c.in-None.ensures.steps.0)
    ∙ c.loop-cell.invariant.2
    ∙ c.into_iter-cell-iterator.ensures.into_iter_gives
    ∙ c.entries-cell-items.ensures.cells
