use Rattle.std.proofs.Common.{◌≡◌, ◌∙◌, ◌*◌, ◌≤◌, ℕ, List, None, subst, sym}
use Rattle.wtypes.specs.declared.HostCall.{HostCall}
use Rattle.spec_modules.specs.Syntax.{Module}
use Rattle.spec_modules.specs.Profile.{page_size}
use Rattle.spec_typing.specs.Linking.{IsLinked}
use Rattle.spec_execution.specs.Configuration.{size_of, fresh}
use Rattle.module_tree.specs.Modules.{module_view}
use Rattle.memory.specs.Start.{stands, first_bytes}
use Rattle.link.proofs.Laying.{same_start}
use Rattle.link.proofs.deployed.Deployed.copy_in.Goals as goal

pub invariant_of-result : goal.invariant_of-result
invariant_of-result g c =
    let d = c.args.self.now in
    let same : d.hosts.items ≡ c.in_ok-hosts.hosts.items = sym (c.in_ok-hosts.ensures.items ∙ c.hosts.ensures) in
    let tree = sym c.in_ok-tree.ensures.same_tree in
    record {
      linked = subst (λ (hosts : List HostCall). ∥ IsLinked (module_view c.in_ok-tree.tree) hosts ∥₁) same (rw c.in_ok-tree.ensures.same_tree d.linked);
      begun = subst (λ (m : Module). first_bytes c.in_ok-start.start (page_size * size_of m.memories) ≡ (fresh m).memory) tree
          (same_start (stands d.start) (stands c.in_ok-start.start) (page_size * size_of (module_view d.tree).memories) c.in_ok-start.ensures ∙ d.begun);
      ends = subst (λ (m : Module). (k : ℕ) → page_size * size_of m.memories ≤ k → stands c.in_ok-start.start k ≡ None) tree (λ k q. c.in_ok-start.ensures k ∙ d.ends k q);
      filled = subst (λ (m : Module). c.in_ok-table.table ≡ (fresh m).table) tree (c.in_ok-table.ensures ∙ d.filled);
      first = subst (λ (m : Module). c.in_ok-globals.globals.items ≡ (fresh m).globals) tree (c.in_ok-globals.ensures.items ∙ c.globals.ensures);
      named = c.in_ok-exports.ensures;
    }

pub returns-clause-same_hosts : goal.returns-clause-same_hosts
returns-clause-same_hosts g c = c.in_ok-hosts.ensures.items ∙ c.hosts.ensures
