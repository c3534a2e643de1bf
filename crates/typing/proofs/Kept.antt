-- What a valid module keeps by its type.
use Rattle.std.proofs.Common.{◌≡◌, Bool, true, false, refl}
use Rattle.std.proofs.Math.Logic.{∥∥₁_elim}
use Rattle.spec_modules.specs.Syntax.{Module}
use Rattle.spec_typing.specs.Modules.{ModuleTyped}
use Rattle.typing.specs.Tests.{module_passes}
use Rattle.typing.proofs.Decides.{typed_of, of_typed}

tested : (b : Bool) → (b ≡ false → ⊥) → b ≡ true
tested true f = refl
tested false f = absurd (f refl)

clash : (b : Bool) → b ≡ true → b ≡ false → ⊥
clash true p q = cc
clash false p q = cc

-- the tests decide it, so that what is kept truncated can be had again
pub typed_kept : (m : Module) → ∥ ModuleTyped m ∥₁ → ModuleTyped m
typed_kept m kept = typed_of m (tested (module_passes m) (λ e. ∥∥₁_elim kept (λ a b. absurd a) (λ t. clash (module_passes m) (of_typed m t) e)))
