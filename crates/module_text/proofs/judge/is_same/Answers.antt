use Rattle.std.proofs.Common.{ℕ, List, ◌++◌, ap, ◌∙◌}
use Rattle.spec_modules.specs.Shortest.{shortest}
use Rattle.module_tree.specs.Modules.{module_view}
use Rattle.module_text.proofs.Same.{same_spelling}
use Rattle.module_text.proofs.judge.is_same.Goals as goal

pub returns : goal.returns
returns g c =
    let one = module_view c.args.one.now in
    let other = module_view c.args.other.now in
    same_spelling c.one_tree.ensures one other c.as_slice.result.now c.as_slice-2.result.now c.eq.result
    (c.as_slice.ensures.value ∙ (c.in_ok-encode.ensures.appended ∙ ap (λ (xs : List ℕ). xs ++ shortest one) c.new-spelled.ensures.items))
    (c.as_slice-2.ensures.value ∙ (c.in_ok-encode-2.ensures.appended ∙ ap (λ (xs : List ℕ). xs ++ shortest other) c.new-again.ensures.items))
    c.in_ok-encode.ensures.spells c.in_ok-encode-2.ensures.spells c.eq.ensures
