use Rattle.std.proofs.Common.{◌≡◌, ◌*◌, sym, length, subst}
use Rattle.std.specs.Prelude.{option_copied}
use Rattle.memory.specs.Start.{begins}
use Rattle.memory.proofs.Lists.{length_bytes}
use Rattle.memory.proofs.Linear.len.Goals as goal

pub returns : goal.returns
returns g c = subst (λ m. 65536 * c.self.inside.size ≡ length m.bytes) c.self.view_is (sym (length_bytes c.self.inside.pieces.items (begins (option_copied c.self.inside.start)) (65536 * c.self.inside.size)))
