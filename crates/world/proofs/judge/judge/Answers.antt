use Rattle.module_tree.specs.Modules.{module_view}
use Rattle.link.specs.Parts.{tree_of}
use Rattle.world.specs.Views.{contract_view}
use Rattle.world.proofs.Judging.{is_body, not_shortest}
use Rattle.world.proofs.judge.judge.Goals as goal

pub returns-else-branch : goal.returns-else-branch
returns-else-branch g c = not_shortest c.one_tree.ensures c.args.body.now (module_view (tree_of c.in-Some.contract)) (rw c.in-Some.is at c.in_ok-contract.ensures)
    (λ e. let t = c.in_ok-is_shortest.ensures.1 e in let f = c.if-branch.false in absurd (cc (t, f)))

pub returns-then-branch : goal.returns-then-branch
returns-then-branch g c = is_body c.args.body.now (contract_view c.in-Some.contract) (rw c.in-Some.is at c.in_ok-contract.ensures) c.is_linked.ensures (c.in_ok-is_shortest.ensures.0 c.if-branch.true)
