use Rattle.std.proofs.Common.{◌≡◌, vec_len, map}
use Rattle.world.specs.Views.{contract_view}
use Rattle.world.specs.Reading.{AreRead}
use Rattle.world.proofs.contracts.contracts_of.Given as goal

abbrev pub invariant-loop : goal.invariant-loop
invariant-loop g l = (vec_len l.contracts ≡ l.counter) × AreRead l.counter l.bytes (map contract_view l.contracts.items) l.rest
