use Rattle.std.proofs.Common.{◌≤◌, ◌∷◌, [], ◌∙◌, ap, sym, subst, length, take, drop, arith, length-append}
use Rattle.std.proofs.lemmas.List.{take-append-le, drop-append-le}
use Rattle.spec_ledger.specs.Book.{back_all}
use Rattle.storage.specs.Counts.{closed_all, AreUnsettled}
use Rattle.storage.proofs.Counted.{back_all_popped, closed_all_popped, unsettled_popped}
use Rattle.storage.proofs.changes.take_back_to.Goals as goal

pub take_back-requires : goal.take_back-requires
take_back-requires g c = (unsettled_popped c.loop-inverses.inverses.items c.pop.new.self.items c.in-Some.inverse c.in-Some.ensures.items c.loop-inverses.cells.unsettled c.loop-inverses.invariant.unsettled).0

pub loop-inverses-preserved : goal.loop-inverses-preserved
loop-inverses-preserved g c =
    let size = ap length c.in-Some.ensures.items ∙ length-append c.pop.new.self.items (c.in-Some.inverse ∷ []) in
    let some : c.args.mark ≤ length c.pop.new.self.items = omega (arith, size, c.loop-inverses-test.true, c.len.ensures, c.loop-inverses.inverses.ok.0) in
    let dropped = ap (drop c.args.mark) c.in-Some.ensures.items ∙ drop-append-le c.args.mark c.pop.new.self.items (c.in-Some.inverse ∷ []) some in
    record {
      some = some;
      kept = sym (ap (take c.args.mark) c.in-Some.ensures.items ∙ take-append-le c.args.mark c.pop.new.self.items (c.in-Some.inverse ∷ []) some) ∙ c.loop-inverses.invariant.kept;
      cells = ap (back_all (drop c.args.mark c.pop.new.self.items)) c.take_back.ensures.cells
          ∙ back_all_popped (drop c.args.mark c.loop-inverses.inverses.items) (drop c.args.mark c.pop.new.self.items) c.in-Some.inverse dropped c.loop-inverses.cells.cells ∙ c.loop-inverses.invariant.cells;
      counts = ap (closed_all (drop c.args.mark c.pop.new.self.items)) c.take_back.ensures.unsettled
          ∙ closed_all_popped (drop c.args.mark c.loop-inverses.inverses.items) (drop c.args.mark c.pop.new.self.items) c.in-Some.inverse dropped c.loop-inverses.cells.unsettled ∙ c.loop-inverses.invariant.counts;
      unsettled = subst (AreUnsettled c.pop.new.self.items) (sym c.take_back.ensures.unsettled)
          (unsettled_popped c.loop-inverses.inverses.items c.pop.new.self.items c.in-Some.inverse c.in-Some.ensures.items c.loop-inverses.cells.unsettled c.loop-inverses.invariant.unsettled).1;
    }
