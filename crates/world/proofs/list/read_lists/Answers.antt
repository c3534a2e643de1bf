use Rattle.std.proofs.Common.{arith}
use Rattle.records.proofs.Steps.{is_spelled, is_read}
use Rattle.world.specs.Cells.{lists_at, lists_bytes, AreLists}
use Rattle.world.proofs.Exact.{lists_exact}
use Rattle.world.proofs.list.read_lists.Goals as goal

pub returns-clause-spelled : goal.returns-clause-spelled
returns-clause-spelled g c = is_spelled lists_at lists_bytes AreLists lists_exact (λ x. ((x.0.maps.items, x.0.counters.items), x.1.now)) c.both_of.result c.args.bytes.now (λ i. omega (arith, c.type_inv.bytes i)) c.both_of.ensures

pub returns-clause-only : goal.returns-clause-only
returns-clause-only g c = is_read lists_at lists_bytes AreLists lists_exact (λ x. ((x.0.maps.items, x.0.counters.items), x.1.now)) c.both_of.result c.args.bytes.now c.both_of.ensures
