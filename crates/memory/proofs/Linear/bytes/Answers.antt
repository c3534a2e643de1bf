use Rattle.std.proofs.Common.{◌≡◌, ◌+◌, ◌*◌, ◌≤◌, ◌∙◌, arith, length, ap, subst, sym, take, drop, IfOk}
use Rattle.spec_modules.specs.Profile.{page_size}
use Rattle.memory.proofs.Lists.{length_bytes}
use Rattle.memory.proofs.Copies.{read}
use Rattle.std.specs.Prelude.{option_copied}
use Rattle.memory.specs.Start.{begins}
use Rattle.memory.proofs.Linear.bytes.Goals as goal

pub read_bytes-requires-clause-limit : goal.read_bytes-requires-clause-limit
read_bytes-requires-clause-limit g c =
    let h = subst (λ m. c.args.from + c.args.count ≤ length m.bytes) (sym c.self.view_is) c.requires in
    omega (arith, h, length_bytes c.self.inside.pieces.items (begins (option_copied c.self.inside.start)) (page_size * c.self.inside.size), c.self.invariant.fits, c.self.invariant.limit)

pub returns : goal.returns
returns g c =
    let h = subst (λ m. c.args.from + c.args.count ≤ length m.bytes) (sym c.self.view_is) c.requires in
    let l = length_bytes c.self.inside.pieces.items (begins (option_copied c.self.inside.start)) (page_size * c.self.inside.size) in
    subst (λ l. IfOk c.read_bytes.result (λ bytes. bytes.items ≡ l))
    (read c.self.inside.pieces.items (begins (option_copied c.self.inside.start)) (page_size * c.self.inside.size) c.args.from c.args.count (omega (arith, h, l)) ∙ ap (λ m. take c.args.count (drop c.args.from m.bytes)) c.self.view_is)
    c.read_bytes.ensures
