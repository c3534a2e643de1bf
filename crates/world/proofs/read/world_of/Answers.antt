use Rattle.std.proofs.Common.{rules, ◌≡◌, map, inr, sym, subst, arith}
use Rattle.spec_block.specs.Worlds.{World}
use Rattle.spec_block.specs.Bytes.{SpellsWorld}
use Rattle.world.specs.Views.{contract_view, world_view}
use Rattle.world.specs.Reading.{in_cells, left_over}
use Rattle.world.proofs.Worlds.{no_cells, no_more, world_there, not_empty, empty_is}
use Rattle.world.proofs.read.world_of.Goals as goal

pub returns-then-not-is_empty-clause-none : goal.returns-then-not-is_empty-clause-none
returns-then-not-is_empty-clause-none g c =
    inr (no_more c.one_tree.ensures c.resolved_once.ensures c.args.bytes.now (map contract_view c.in_ok-contracts.contracts.items) c.in_ok-contracts.rest.now c.in-Ok.over.now c.in_ok-contracts.ensures.read
    (λ cells after are e. c.in-Ok.ensures.only cells after are e) (not_empty c.is_empty.result c.in-Ok.over.now (search rules) (search rules)))

pub returns-then-not-is_empty-clause-first : goal.returns-then-not-is_empty-clause-first
returns-then-not-is_empty-clause-first g c =
    left_over (map contract_view c.in_ok-contracts.contracts.items) c.in-Ok.cells.cells c.in_ok-contracts.rest.now c.in-Ok.over.now c.in_ok-contracts.ensures.read c.in-Ok.ensures.spelled.0 c.in-Ok.ensures.spelled.1
    (not_empty c.is_empty.result c.in-Ok.over.now (search rules) (search rules))

pub returns-in-Err-clause-none : goal.returns-in-Err-clause-none
returns-in-Err-clause-none g c =
    no_cells c.one_tree.ensures c.resolved_once.ensures c.args.bytes.now (map contract_view c.in_ok-contracts.contracts.items) c.in_ok-contracts.rest.now c.in-Err.fault c.in_ok-contracts.ensures.read
    (λ cells after are e. c.in-Err.ensures.only cells after are e)

pub returns-in-Err-clause-first : goal.returns-in-Err-clause-first
returns-in-Err-clause-first g c = in_cells c.in-Err.fault (map contract_view c.in_ok-contracts.contracts.items) c.in_ok-contracts.rest.now c.in_ok-contracts.ensures.read c.in-Err.ensures.first

pub returns-else-not-is_empty-clause-spelled : goal.returns-else-not-is_empty-clause-spelled
returns-else-not-is_empty-clause-spelled g c =
    let made : world_view c.new.result ≡ record { contracts = map contract_view c.in_ok-contracts.contracts.items; cells = c.in-Ok.cells.cells } = λ i. record { contracts = c.new.ensures.contracts i; cells = c.new.ensures.cells i } in
    subst (λ (w : World). SpellsWorld c.args.bytes.now w) (sym made)
    (world_there c.args.bytes.now (map contract_view c.in_ok-contracts.contracts.items) c.in_ok-contracts.rest.now c.in-Ok.over.now c.in-Ok.cells.cells (λ i. omega (arith, c.type_inv.bytes i)) c.in_ok-contracts.ensures.read c.in-Ok.ensures.spelled.0 c.in-Ok.ensures.spelled.1
    (empty_is c.is_empty.result c.in-Ok.over.now (search rules) (search rules)))
