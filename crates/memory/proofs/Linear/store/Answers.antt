use Rattle.std.proofs.Common.{◌+◌, ◌*◌, ◌∙◌, arith, ap, subst, take}
use Rattle.std.specs.Prelude.{Ok}
use Rattle.spec_modules.specs.Profile.{page_size}
use Rattle.memory.specs.Linear.{Memory, Stored}
use Rattle.memory.specs.Pieces.{bytes_in}
use Rattle.memory.proofs.Lists.{lowest, is_put, not_put, put_stored}
use Rattle.std.specs.Prelude.{option_copied}
use Rattle.memory.specs.Start.{begins}
use Rattle.memory.proofs.Linear.store.Goals as goal

pub returns-then-put_first : goal.returns-then-put_first
returns-then-put_first g c =
    let ps = c.self.inside.pieces.items in
    let qs = c.put_first.new.pieces.items in
    let news = take c.args.width c.to_le_bytes-bytes.result in
    subst (λ bytes. Stored {U = Unit {0}} (Ok (tt {0})) c.args.self.now (c.args.at + c.args.offset) bytes (record { bytes = bytes_in qs (begins (option_copied c.self.inside.start)) 0 (page_size * c.self.inside.size); max = c.self.inside.max }))
    (ap (take c.args.width) c.to_le_bytes-bytes.ensures ∙ lowest c.args.width c.args.value (omega arith))
    (put_stored c.args.self.now ps qs (begins (option_copied c.self.inside.start)) (page_size * c.self.inside.size) c.self.inside.max (c.args.at + c.args.offset) news c.self.view_is c.self.invariant.reach
    (is_put c.put_first.result ps (c.args.at + c.args.offset) news qs c.if-put_first.true c.put_first.ensures.put))

pub returns : goal.returns
returns g c =
    let ps = c.self.inside.pieces.items in
    let qs = c.put_first.new.pieces.items in
    let news = take c.args.width c.to_le_bytes-bytes.result in
    let same = not_put c.put_first.result ps (c.args.at + c.args.offset) news qs c.if-put_first.false c.put_first.ensures.put in
    subst (λ bytes. Stored c.write.result c.args.self.now (c.args.at + c.args.offset) bytes c.write.new.self)
    (ap (take c.args.width) c.to_le_bytes-bytes.ensures ∙ lowest c.args.width c.args.value (omega arith))
    (subst (λ (m : Memory). Stored c.write.result m (c.args.at + c.args.offset) news c.write.new.self)
    (ap (λ l. record { bytes = bytes_in l (begins (option_copied c.self.inside.start)) 0 (page_size * c.self.inside.size); max = c.self.inside.max }) same ∙ c.self.view_is) c.write.ensures.stored)
