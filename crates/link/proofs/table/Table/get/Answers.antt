use Rattle.std.proofs.Common.{◌≡◌, ◌≤◌, ◌<◌, ◌∙◌, Some, None, slice_get, sym, ap, subst, arith}
use Rattle.link.specs.Table.{held}
use Rattle.link.proofs.Filling.{element_there, element_past}
use Rattle.link.proofs.table.Table.get.Goals as goal

pub returns-then-element-from : goal.returns-then-element-from
returns-then-element-from g c =
    let past : c.self.inside.size ≤ c.args.element = omega (arith, c.from.ensures, c.if-element-from.true) in
    subst (λ xs. None ≡ slice_get xs c.args.element) c.self.view_is (sym (element_past c.self.inside.size c.args.element c.self.inside.filled.items past))

pub returns : goal.returns
returns g c =
    let below : c.args.element < c.self.inside.size = omega (arith, c.from.ensures, c.if-element-from.false) in
    let is : c.function_at.result ≡ held c.self.inside.filled.items c.args.element = c.function_at.ensures ∙ ap (λ fs. held fs c.args.element) c.deref.ensures.value in
    subst (λ xs. Some c.function_at.result ≡ slice_get xs c.args.element) c.self.view_is
    (ap Some is ∙ sym (element_there c.self.inside.size c.args.element c.self.inside.filled.items below))
