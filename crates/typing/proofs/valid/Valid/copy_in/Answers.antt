use Rattle.std.proofs.Common.{subst, sym}
use Rattle.spec_modules.specs.Syntax.{Module}
use Rattle.spec_typing.specs.Modules.{ModuleTyped}
use Rattle.typing.proofs.valid.Valid.copy_in.Goals as goal

pub invariant_of-result : goal.invariant_of-result
invariant_of-result g c =
    record { typed = subst (λ (m : Module). ∥ ModuleTyped m ∥₁) (sym c.in_ok-tree.ensures.same_tree) c.args.self.now.typed }
