use Rattle.std.proofs.Common.{refl, inr, arith}
use Rattle.world.specs.Views.{contract_view}
use Rattle.world.proofs.Parts.{begins, none_of, blame}
use Rattle.world.proofs.contracts.contract_of.Goals as goal

pub returns-in-Err-clause-none : goal.returns-in-Err-clause-none
returns-in-Err-clause-none g c = blame c.args.bytes.now c.in-Err.fault c.blamed.result c.in-Err.ensures c.blamed.ensures

pub returns-in-Ok-Some-clause-read : goal.returns-in-Ok-Some-clause-read
returns-in-Ok-Some-clause-read g c = begins c.args.bytes.now c.in-Ok.parts.0.now c.in-Ok.parts.1.now (contract_view c.in-Ok-Some.contract) (λ i. omega (arith, c.type_inv.bytes i)) c.in-Ok.ensures (rw c.in-Ok-Some.field-0-is at c.in-Ok-Some.ensures)

pub returns-in-Ok-None-clause-none : goal.returns-in-Ok-None-clause-none
returns-in-Ok-None-clause-none g c = inr (refl, none_of c.args.bytes.now c.in-Ok.parts.0.now c.in-Ok.parts.1.now c.in-Ok.ensures (rw c.in-Ok-None.field-0-is at c.in-Ok-None.ensures))
