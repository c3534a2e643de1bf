use Rattle.std.proofs.Common.{◌≤◌, ◌∷◌, [], ◌∙◌, ap, sym, subst, length, take, drop, arith, length-append}
use Rattle.std.specs.List.{AllByRecursion}
use Rattle.std.proofs.lemmas.List.{take-append-le, drop-append-le}
use Rattle.spec_ledger.specs.Book.{back_all}
use Rattle.storage.proofs.Counted.{back_all_popped}
use Rattle.serial.specs.Touches.{IsTouched, later_in, modes_of}
use Rattle.serial.proofs.Popping.{popped}
use Rattle.serial.proofs.touches.take_back_to.Goals as goal

pub take_back-requires : goal.take_back-requires
take_back-requires g c =
    let l = c.loop-inverses in
    (popped (IsTouched (modes_of l.touches.entries)) l.inverses.items c.pop.new.self.items c.in-Some.inverse c.in-Some.ensures.items l.invariant.touched).1

pub loop-inverses-preserved : goal.loop-inverses-preserved
loop-inverses-preserved g c =
    let l = c.loop-inverses in
    let size = ap length c.in-Some.ensures.items ∙ length-append c.pop.new.self.items (c.in-Some.inverse ∷ []) in
    let some : c.args.mark ≤ length c.pop.new.self.items = omega (arith, size, c.loop-inverses-test.true, c.len.ensures, l.inverses.ok.0) in
    let dropped = ap (drop c.args.mark) c.in-Some.ensures.items ∙ drop-append-le c.args.mark c.pop.new.self.items (c.in-Some.inverse ∷ []) some in
    record {
      some = some;
      kept = sym (ap (take c.args.mark) c.in-Some.ensures.items ∙ take-append-le c.args.mark c.pop.new.self.items (c.in-Some.inverse ∷ []) some) ∙ l.invariant.kept;
      found = c.take_back.ensures.found ∙ l.invariant.found;
      later = ap (back_all (drop c.args.mark c.pop.new.self.items)) c.take_back.ensures.later
          ∙ back_all_popped (drop c.args.mark l.inverses.items) (drop c.args.mark c.pop.new.self.items) c.in-Some.inverse dropped (later_in l.touches.entries) ∙ l.invariant.later;
      modes = c.take_back.ensures.modes ∙ l.invariant.modes;
      touched = subst (λ m. AllByRecursion (IsTouched m) c.pop.new.self.items) (sym c.take_back.ensures.modes)
          (popped (IsTouched (modes_of l.touches.entries)) l.inverses.items c.pop.new.self.items c.in-Some.inverse c.in-Some.ensures.items l.invariant.touched).0;
    }
