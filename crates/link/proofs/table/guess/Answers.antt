use Rattle.std.proofs.Common.{◌≡◌, ◌-◌, ◌<◌, Some, length, slice_index_or, subst, arith}
use Rattle.std.proofs.lemmas.Option.{slice_get-get_or}
use Rattle.link.specs.declared.table.Filled.{Filled}
use Rattle.link.specs.Table.{held}
use Rattle.link.proofs.Filling.{found}
use Rattle.link.proofs.table.guess.Goals as goal

pub returns-then-there-element : goal.returns-then-there-element
returns-then-there-element c =
    let fs = c.args.filled.now in
    let d : Filled = record { element = 0; func = 0 } in
    let k = c.args.element - (slice_index_or fs 0 d).element in
    let f = slice_index_or fs k d in
    let lt : k < length fs = omega arith in
    let same : f.element ≡ c.args.element = c.if-there-element.true in
    subst (λ e. held fs e ≡ Some f.func) same (found 0 fs k f c.requires (slice_get-get_or fs k d lt))
