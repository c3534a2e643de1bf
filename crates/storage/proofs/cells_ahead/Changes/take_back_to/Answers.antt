use Rattle.std.proofs.Common.{arith, ◌≤◌, ap, length, sym}
use Rattle.std.proofs.lemmas.List.{take_all, drop_all}
use Rattle.spec_ledger.specs.Book.{back_all}
use Rattle.storage.specs.Counts.{closed_all}
use Rattle.storage.proofs.cells_ahead.Changes.take_back_to.Goals as goal

pub returns-then-mark-len-clause-inverses : goal.returns-then-mark-len-clause-inverses
returns-then-mark-len-clause-inverses g c =
    let few : length c.args.self.now ≤ c.args.mark = omega (arith, c.if-mark-len.true, c.len.ensures, c.self.inside.inverses.ok.0, ap length c.self.view_is) in
    sym (take_all c.args.mark c.args.self.now few)

pub returns-then-mark-len-clause-cells : goal.returns-then-mark-len-clause-cells
returns-then-mark-len-clause-cells g c =
    let few : length c.args.self.now ≤ c.args.mark = omega (arith, c.if-mark-len.true, c.len.ensures, c.self.inside.inverses.ok.0, ap length c.self.view_is) in
    sym (ap (λ x. back_all x c.args.cells.now.cells) (drop_all c.args.mark c.args.self.now few))

pub returns-then-mark-len-clause-unsettled : goal.returns-then-mark-len-clause-unsettled
returns-then-mark-len-clause-unsettled g c =
    let few : length c.args.self.now ≤ c.args.mark = omega (arith, c.if-mark-len.true, c.len.ensures, c.self.inside.inverses.ok.0, ap length c.self.view_is) in
    sym (ap (λ x. closed_all x c.args.cells.now.unsettled) (drop_all c.args.mark c.args.self.now few))
