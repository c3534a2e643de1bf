use Rattle.std.proofs.Common.{◌≡◌, refl, ap, ◌∙◌, None, Some, length, slice_index_or, subst, arith, rules}
use Rattle.link.proofs.Filling.{IsFilled, full_more, empty_more, whole}
use Rattle.link.proofs.table.Table.of_elements.Goals.{in-Some+in_ok-push, in_default}
use Rattle.link.proofs.table.Table.of_elements.Goals as goal

pub invariant_of-result : goal.invariant_of-result
invariant_of-result g c = c.loop-place.invariant.rising

pub loop-place-preserved : goal.loop-place-preserved
loop-place-preserved g c =
    let xs = c.args.elements.now in
    let i = c.loop-place.place in
    elim c.match-elements-place.branch [
      | in-Some+in_ok-push w ↦
          let is : slice_index_or xs i None ≡ Some w.in-Some.func = search rules in
          full_more xs i w.in-Some.func _ _ is (ap (λ v. v.items) w.filled-is ∙ w.in_ok-push.ensures.items) c.loop-place.invariant
      | in_default w ↦
          let is : slice_index_or xs i None ≡ None = search rules in
          empty_more xs i _ _ is (ap (λ v. v.items) w.filled-is) c.loop-place.invariant
    ]

pub returns : goal.returns
returns g c =
    let xs = c.args.elements.now in
    let end : c.loop-place.place ≡ length xs = omega arith in
    whole xs (length xs) c.loop-place.filled.items refl (subst (λ n. IsFilled xs n c.loop-place.filled.items) end c.loop-place.invariant)
