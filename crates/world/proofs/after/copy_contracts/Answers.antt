use Rattle.world.specs.Views.{contract_view}
use Rattle.world.proofs.Copies.{one_copied}
use Rattle.world.proofs.after.copy_contracts.Goals as goal

pub loop-contract-preserved : goal.loop-contract-preserved
loop-contract-preserved g c =
    one_copied contract_view c.args.contracts.now c.loop-contract.contract-index c.contract-item.result c.loop-contract-test.true c.contract-item.is contract_view c.loop-contract.copies.items c.push.new.self.items c.in_ok-copy_in.field-0
    (λ k. record { tree = c.in_ok-copy_in.ensures.same_tree k; hosts = c.in_ok-copy_in.ensures.same_hosts k }) c.in_ok-push.ensures.items c.loop-contract.invariant
