use Rattle.std.proofs.Common.{List, ◌≤◌, ◌∷◌, [], ◌∙◌, ap, sym, length, take, drop, arith, length-append}
use Rattle.std.proofs.lemmas.List.{take-append-le, drop-append-le, take_all, drop_all}
use Rattle.spec_ledger.specs.declared.Inverse.{Inverse}
use Rattle.spec_ledger.specs.Book.{back_all}
use Rattle.debugger.proofs.Undoing.{back_all-append}
use Rattle.debugger.proofs.undo.take_back_to.Goals as goal

pub loop-inverses-preserved : goal.loop-inverses-preserved
loop-inverses-preserved g c =
    let before = c.loop-inverses.inverses.items in
    let after = c.pop.new.self.items in
    let last = c.in-Some.inverse ∷ [] in
    let size = ap length c.in-Some.ensures.items ∙ length-append after last in
    let some : c.args.mark ≤ length after = omega (arith, size, c.loop-inverses-test.true, c.len.ensures, c.loop-inverses.inverses.ok.0) in
    record {
      kept = sym (ap (take c.args.mark) c.in-Some.ensures.items ∙ take-append-le c.args.mark after last some) ∙ c.loop-inverses.invariant.kept;
      cells = ap (back_all (drop c.args.mark after)) c.in_ok-take_back.ensures
          ∙ sym (back_all-append (drop c.args.mark after) last c.loop-inverses.cells.cells)
          ∙ sym (ap (λ (is : List Inverse). back_all is c.loop-inverses.cells.cells) (ap (drop c.args.mark) c.in-Some.ensures.items ∙ drop-append-le c.args.mark after last some))
          ∙ c.loop-inverses.invariant.cells;
    }

pub returns-clause-inverses : goal.returns-clause-inverses
returns-clause-inverses g c =
    let is = c.loop-inverses.inverses in
    let few : length is.items ≤ c.args.mark = omega (arith, is.ok.0, c.len.ensures, c.loop-inverses-test.false) in
    sym (take_all c.args.mark is.items few) ∙ c.loop-inverses.invariant.kept

pub returns-clause-cells : goal.returns-clause-cells
returns-clause-cells g c =
    let is = c.loop-inverses.inverses in
    let few : length is.items ≤ c.args.mark = omega (arith, is.ok.0, c.len.ensures, c.loop-inverses-test.false) in
    sym (ap (λ (x : List Inverse). back_all x c.loop-inverses.cells.cells) (drop_all c.args.mark is.items few)) ∙ c.loop-inverses.invariant.cells
