use Rattle.std.proofs.Common.{rules, ◌≡◌, List, [], ◌∷◌, ◌++◌, ◌+◌, map, sym, ap, subst, ◌∙◌}
use Rattle.std.proofs.lemmas.List.{map-append}
use Rattle.std.proofs.lemmas.Result.{err_from_is_err_and}
use Rattle.spec_block.specs.Worlds.{Contract}
use Rattle.world.specs.Views.{contract_view}
use Rattle.world.specs.Reading.{AreRead}
use Rattle.world.proofs.Parts.{one_more, stops}
use Rattle.world.proofs.contracts.contracts_of.Goals as goal

pub returns-in_err-contract-clause-fault : goal.returns-in_err-contract-clause-fault
returns-in_err-contract-clause-fault g c =
    let p = err_from_is_err_and c.from_residual.result c.from_residual.ensures.1 in
    rw (p.1, p.2) (stops c.args.count c.loop.counter c.args.bytes.now (map contract_view c.loop.contracts.items) c.loop.rest.now c.in_err-contract.field-0.0 c.loop.invariant.1 c.loop-test.true c.in_err-contract.ensures.none)

pub loop-preserved : goal.loop-preserved
loop-preserved g c =
    let d = c.in_ok-contract.contract in
    let mapped : map contract_view c.push.new.self.items ≡ map contract_view c.loop.contracts.items ++ contract_view d ∷ [] = ap (map contract_view) c.in_ok-push.ensures.items ∙ map-append contract_view c.loop.contracts.items (d ∷ []) in (
      search rules,
      subst (λ (cs : List Contract). AreRead (c.loop.counter + 1) c.args.bytes.now cs c.in_ok-contract.after.now) (sym mapped)
          (one_more c.loop.counter c.args.bytes.now (map contract_view c.loop.contracts.items) c.loop.rest.now (contract_view d) c.in_ok-contract.after.now c.loop.invariant.1 c.in_ok-contract.ensures.read),
    )
