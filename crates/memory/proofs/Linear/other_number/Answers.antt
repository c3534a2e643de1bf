use Rattle.std.proofs.Common.{◌+◌, ◌*◌, ◌≤◌, arith, length, subst, sym}
use Rattle.std.specs.Prelude.{option_copied}
use Rattle.spec_modules.specs.Profile.{page_size}
use Rattle.memory.specs.Start.{begins}
use Rattle.memory.proofs.Lists.{length_bytes, loaded}
use Rattle.memory.proofs.Linear.other_number.Goals as goal

pub returns-in-Some-clause-value : goal.returns-in-Some-clause-value
returns-in-Some-clause-value g c =
    loaded c.args.self.now c.self.inside.pieces.items (begins (option_copied c.self.inside.start)) (page_size * c.self.inside.size) c.self.inside.max c.args.at c.args.width c.in-Some.number c.self.view_is c.requires.in_range c.in-Some.ensures.value

pub number-requires-clause-in_range : goal.number-requires-clause-in_range
number-requires-clause-in_range g c =
    let h = subst (λ m. c.args.at + c.args.width ≤ length m.bytes) (sym c.self.view_is) c.requires.in_range in
    omega (arith, h, length_bytes c.self.inside.pieces.items (begins (option_copied c.self.inside.start)) (page_size * c.self.inside.size), c.self.invariant.fits, c.self.invariant.limit)

pub returns-in-None-clause-value : goal.returns-in-None-clause-value
returns-in-None-clause-value g c =
    loaded c.args.self.now c.self.inside.pieces.items (begins (option_copied c.self.inside.start)) (page_size * c.self.inside.size) c.self.inside.max c.args.at c.args.width c.number.result c.self.view_is c.requires.in_range c.number.ensures.value
