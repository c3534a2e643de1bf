use Rattle.std.proofs.Common.{refl}
use Rattle.memory.proofs.start.find.Goals as goal

pub find_between-requires-clause-next : goal.find_between-requires-clause-next
find_between-requires-clause-next g c = λ k q. refl
