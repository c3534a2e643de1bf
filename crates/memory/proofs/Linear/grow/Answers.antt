use Rattle.std.proofs.Common.{◌≡◌, arith, ap, sym, refl, subst}
use Rattle.memory.specs.Linear.{pages}
use Rattle.memory.proofs.Lists.{pages_of, grown, grew}
use Rattle.std.specs.Prelude.{option_copied}
use Rattle.memory.specs.Start.{begins}
use Rattle.memory.proofs.Linear.grow.Goals as goal

pub returns-then-delta-self : goal.returns-then-delta-self
returns-then-delta-self g c =
    let l : pages c.args.self.now ≡ c.self.inside.size = subst (λ m. pages m ≡ c.self.inside.size) c.self.view_is (pages_of c.self.inside.pieces.items (begins (option_copied c.self.inside.start)) c.self.inside.size) in
    let m : c.args.self.now.max ≡ c.self.inside.max = ap (λ v. v.max) (sym c.self.view_is) in
    (omega (arith, l, m, c.self.invariant.fits), refl, refl)

pub returns : goal.returns
returns g c =
    let l : pages c.args.self.now ≡ c.self.inside.size = subst (λ m. pages m ≡ c.self.inside.size) c.self.view_is (pages_of c.self.inside.pieces.items (begins (option_copied c.self.inside.start)) c.self.inside.size) in
    let m : c.args.self.now.max ≡ c.self.inside.max = ap (λ v. v.max) (sym c.self.view_is) in
    grown c.args.self.now _ c.args.delta c.self.inside.size (omega (arith, c.self.invariant.fits, c.self.invariant.limit)) (omega (arith, l, m, c.self.invariant.fits)) (omega (arith, l))
    (grew c.args.self.now c.self.inside.pieces.items (begins (option_copied c.self.inside.start)) c.self.inside.size c.self.inside.max c.args.delta c.self.view_is c.self.invariant.reach c.self.invariant.ends)
