use Rattle.std.proofs.Common.{◌*◌, ap, ◌∙◌}
use Rattle.spec_modules.specs.Profile.{page_size}
use Rattle.memory.proofs.Copies.{same_bytes, same_sound}
use Rattle.std.specs.Prelude.{option_copied}
use Rattle.memory.specs.Start.{begins}
use Rattle.memory.proofs.Linear.copy.Goals as goal

pub invariant_of-result : goal.invariant_of-result
invariant_of-result g c = same_sound c.self.inside.pieces.items c.in-Ok.pieces.items c.in-Ok.ensures (begins (option_copied c.self.inside.start)) c.self.inside.size c.self.inside.max c.self.invariant

pub returns-in-Ok : goal.returns-in-Ok
returns-in-Ok g c =
    ap (λ bs. record { bytes = bs; max = c.self.inside.max }) (same_bytes c.self.inside.pieces.items c.in-Ok.pieces.items c.in-Ok.ensures (begins (option_copied c.self.inside.start)) (page_size * c.self.inside.size)) ∙ c.self.view_is
