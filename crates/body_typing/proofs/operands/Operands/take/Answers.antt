use Rattle.std.proofs.Common.{◌≡◌, ◌<◌, List, [], ◌∷◌, length, reverse, take, refl, ap, sym, ◌∙◌, arith}
use Rattle.std.proofs.lemmas.Grind.{common_steps}
use Rattle.spec_typing.specs.Principal.{Stack}
use Rattle.body_typing.proofs.NoneKnown.{none_known}
use Rattle.body_typing.proofs.operands.Operands.take.Goals as goal

none_of : {X : Type 0} (xs : List X) → length xs ≡ 0 → xs ≡ []
none_of [] e = refl
none_of (x ∷ xs) e = absurd (omega (arith, e))

pub returns-then-is_empty : goal.returns-then-is_empty
returns-then-is_empty g c =
    let types = c.args.types.now in
    let ts = reverse (take c.loop-left.left types) in
    let inv = c.loop-left.invariant in
    let known : length c.self.inside.known.items ≡ 0 = grind (arith, common_steps, c.is_empty.ensures, c.if-is_empty.true) in
    let top : c.loop-left.self.top ≡ [] = sym (ap (λ (s : Stack). s.top) c.self.view_is) ∙ ap reverse (none_of c.self.inside.known.items known) in
    let lt : 0 < length ts = grind (arith, common_steps, inv.0) in
    record { taken = none_known c.self.inside.any_below c.loop-left.self c.args.self.now ts (reverse types) top inv.1 (ap (λ (s : Stack). s.any_below) c.self.view_is) lt inv.2 }
