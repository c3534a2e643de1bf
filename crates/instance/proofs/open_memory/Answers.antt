use Rattle.std.proofs.Common.{◌≡◌, ℕ, ◌*◌, sym, ap, ◌∙◌, subst, ◌≤◌, IfOk}
use Rattle.std.specs.Prelude.{map, None}
use Rattle.spec_modules.specs.Profile.{page_size, page_limit}
use Rattle.module_tree.specs.ModuleView.{limits_view}
use Rattle.module_tree.specs.Modules.{module_view}
use Rattle.memory.specs.Start.{stands, first_bytes}
use Rattle.link.specs.Parts.{tree_of, hosts_of}
use Rattle.spec_execution.specs.Configuration.{size_of}
use Rattle.spec_execution.specs.Reduction.{most_pages}
use Rattle.instance.proofs.Segments.{fits_known, few_known}
use Rattle.instance.proofs.open_memory.Goals as goal

pub first_memory-requires-clause-few : goal.first_memory-requires-clause-few
first_memory-requires-clause-few g c =
    subst (λ ms. size_of (map limits_view ms) ≤ page_limit) (sym (c.deref.ensures.value ∙ ap (λ t. t.memories.items) c.module-tree.ensures))
    (few_known (module_view (tree_of c.args.deployed.now)) (hosts_of c.args.deployed.now) c.is_linked.ensures)

pub first_memory-requires-clause-fits : goal.first_memory-requires-clause-fits
first_memory-requires-clause-fits g c =
    subst (λ ms. size_of (map limits_view ms) ≤ most_pages c.args.version (map limits_view ms)) (sym (c.deref.ensures.value ∙ ap (λ t. t.memories.items) c.module-tree.ensures))
    (fits_known c.args.version (module_view (tree_of c.args.deployed.now)) (hosts_of c.args.deployed.now) c.is_linked.ensures)

pub first_memory-requires-clause-ends : goal.first_memory-requires-clause-ends
first_memory-requires-clause-ends g c =
    subst (λ ms. (k : ℕ) → page_size * size_of (map limits_view ms) ≤ k → stands c.start.result.now k ≡ None) (sym (c.deref.ensures.value ∙ ap (λ t. t.memories.items) c.module-tree.ensures)) c.start.ensures.ends

pub returns-clause-bytes : goal.returns-clause-bytes
returns-clause-bytes g c =
    let ms = c.deref.ensures.value ∙ ap (λ t. t.memories.items) c.module-tree.ensures in
    subst (λ bytes. IfOk c.first_memory.result (λ m. m.bytes ≡ bytes)) (ap (λ ms. first_bytes c.start.result.now (page_size * size_of (map limits_view ms))) ms ∙ c.start.ensures.begun) c.first_memory.ensures.bytes

pub returns-clause-max : goal.returns-clause-max
returns-clause-max g c =
    subst (λ ms. IfOk c.first_memory.result (λ m. m.max ≡ most_pages c.args.version (map limits_view ms))) (c.deref.ensures.value ∙ ap (λ t. t.memories.items) c.module-tree.ensures) c.first_memory.ensures.max
