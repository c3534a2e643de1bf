use Rattle.std.proofs.Common.{◌≡◌, ◌*◌, ◌≤◌, ℕ, None, sym, ◌∙◌, subst}
use Rattle.spec_modules.specs.Profile.{page_size}
use Rattle.spec_execution.specs.Configuration.{size_of}
use Rattle.module_tree.specs.declared.module.Module.{Module}
use Rattle.module_tree.specs.Modules.{module_view}
use Rattle.memory.specs.Start.{stands}
use Rattle.link.specs.Exports.{AreExports}
use Rattle.link.proofs.deploy.deploy.Goals as goal

pub of_linked-requires-clause-ends : goal.of_linked-requires-clause-ends
of_linked-requires-clause-ends g c =
    subst (λ (m : Module _). (k : ℕ) → page_size * size_of (module_view m).memories ≤ k → stands c.in-Ok.parts.start k ≡ None) (c.module.ensures.same ∙ sym c.into_module.ensures.same) c.in-Ok.ensures.ends

pub of_linked-requires-clause-named : goal.of_linked-requires-clause-named
of_linked-requires-clause-named g c =
    subst (λ (m : Module _). AreExports c.in-Ok.parts.exports (module_view m).exports) (c.module.ensures.same ∙ sym c.into_module.ensures.same) c.in-Ok.ensures.named
